use Rattle.rk_core.proofs.Words.{sym, ap, ◌∙◌, subst, matched, IsSole, IsSought}
use Rattle.rk_core.proofs.Searching.WhatIsHit.{stays_hit}
use Rattle.rk_core.proofs.search.Search.further.Goals as goal

pub returns-in-Missed : goal.returns-in-Missed
returns-in-Missed c = λ w q rings moment number h.
    c.with.ensures w q rings c.args.ring.now (subst (IsSought w q rings) c.in-Missed.is h)
    (subst (IsSole w q c.args.ring.now) (sym (c.match_in.ensures.2 ∙ ap (λ m. matched c.args.self.now.keys.now m c.match_in.ensures.0) moment))
    (number c.args.ring.now c.match_in.ensures.0 c.match_in.ensures.1))

pub returns-in-Positive : goal.returns-in-Positive
returns-in-Positive c = λ w q rings moment number h. stays_hit w q rings c.args.ring.now c.args.before c.in-Positive.is h
