use Rattle.rk_replay.proofs.Words.{◌≡◌, length, ◌≤◌, Consumes}
use Rattle.std.proofs.Common.{◌*◌}
use Rattle.rk_replay.proofs.script.read_all.Given as goal

abbrev pub invariant-loop-turn : goal.invariant-loop-turn
invariant-loop-turn g l = record {
  read : Consumes (g.R.Read.remaining l.fn.reader) (g.R.Read.remaining l.reader) l.text.items;
  room : length l.piece ≡ 4096;
  many : l._turn ≤ length l.text.items;
  few : length l.text.items ≤ l._turn * 4096;
}
