use Rattle.rk_preview.proofs.preview.Preview.of.Goals as goal

pub returns-in-Pick-clause-told : goal.returns-in-Pick-clause-told
returns-in-Pick-clause-told c = rw c.in-Pick.is c.picked.ensures.told
