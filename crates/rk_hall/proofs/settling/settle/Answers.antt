use Rattle.rk_hall.proofs.Receipts.{turns_in}
use Rattle.rk_hall.proofs.HandedIn.{says}
use Rattle.rk_hall.proofs.settling.settle.Goals as goal

pub returns-clause-halls : goal.returns-clause-halls
returns-clause-halls g c = record {
  halls = c.take_in.new.self;
  sound = c.settle-settled.ensures.sound;
  turns = turns_in c.of-closed.result c.take_in.new.self c.args.seats.items c.take_in.ensures c.of-closed.ensures;
  settles = c.settle-settled.ensures.settles;
}

pub returns-clause-handed_in : goal.returns-clause-handed_in
returns-clause-handed_in g c = says _ _ _ _ (returns-clause-halls g c)
