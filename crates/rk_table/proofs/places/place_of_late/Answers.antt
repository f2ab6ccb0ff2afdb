use Rattle.rk_table.proofs.Words.{sym}
use Rattle.rk_table.proofs.Rising.{past_all}
use Rattle.rk_table.proofs.places.place_of_late.Goals as goal

pub returns-then-last-key-clause-absent : goal.returns-then-last-key-clause-absent
returns-then-last-key-clause-absent g c =
    past_all c.args.entries.now c.args.key c.in-Some.last.now c.requires.rising (sym c.in-Some.ensures.value) c.if-last-key.true
