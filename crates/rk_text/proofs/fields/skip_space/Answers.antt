use Rattle.rk_lemmas.proofs.Lists.{from_place}
use Rattle.rk_text.proofs.Cuts.{skipped, skipped_text, space_before}
use Rattle.rk_text.proofs.fields.skip_space.Goals as goal

pub returns-clause-past : goal.returns-clause-past
returns-clause-past c =
    rw (from_place c.args.text.now c.space_len.result) (space_before c.args.space c.args.text.now c.space_len.result c.space_len.ensures.within c.space_len.ensures.before c.space_len.ensures.at)

pub returns-clause-same : goal.returns-clause-same
returns-clause-same c = rw (from_place c.args.text.now c.space_len.result) (skipped c.args.space c.args.text.now c.space_len.result c.space_len.ensures.before)

pub returns-clause-text : goal.returns-clause-text
returns-clause-text c = rw (from_place c.args.text.now c.space_len.result) (skipped_text c.args.space c.args.text.now c.space_len.result c.space_len.ensures.within c.space_len.ensures.before)
