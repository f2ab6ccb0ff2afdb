use Rattle.std.proofs.Common.{◌≡◌}
use Rattle.rk_record.specs.declared.hall_no.HallNo.TheVariants.{Zero, One, Two, Three}
use Rattle.rk_hall.specs.Closed.{with_turns, turns_of}
use Rattle.rk_hall.proofs.closed.AllClosed.take_in.Given as goal

abbrev pub invariant-loop-seat : goal.invariant-loop-seat
invariant-loop-seat g l = record {
  zero : l.self-inside.zero ≡ with_turns l.fn.self.zero (turns_of Zero l.yielded);
  one : l.self-inside.one ≡ with_turns l.fn.self.one (turns_of One l.yielded);
  two : l.self-inside.two ≡ with_turns l.fn.self.two (turns_of Two l.yielded);
  three : l.self-inside.three ≡ with_turns l.fn.self.three (turns_of Three l.yielded);
}
