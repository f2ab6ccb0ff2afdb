use Rattle.std.proofs.Common.{◌≡◌, ◌≤◌, take}
use Rattle.std.specs.Fn.{FnReturnsAt}
use Rattle.rk_macro.specs.Lookup.{answers_of}
use Rattle.rk_macro.specs.Expansion.{AreWords, size_of}
use Rattle.rk_macro.proofs.expansion.words_of.Given as goal

abbrev pub invariant-loop-argument : goal.invariant-loop-argument
invariant-loop-argument g l = record {
  made : AreWords (answers_of (FnReturnsAt g.F.Fn l.lookup)) l.subject (take l.argument-index l.arguments) l.words.items;
  counted : l.used ≡ size_of l.words.items;
  room : l.used ≤ 65536;
}
