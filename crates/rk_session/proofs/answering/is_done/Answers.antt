use Rattle.rk_session.proofs.Words.{sym, ap, ◌∙◌, is_done, says_done}
use Rattle.rk_session.proofs.answering.is_done.Goals as goal

pub returns-in-Done : goal.returns-in-Done
returns-in-Done c = sym (ap says_done c.in-Noted.is ∙ ap is_done (sym c.answer.ensures ∙ c.in-Done.is))
