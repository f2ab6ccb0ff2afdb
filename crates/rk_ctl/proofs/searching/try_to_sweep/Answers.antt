use Rattle.std.proofs.Common.{◌≡◌, true, false, arith, of_z, to_z, w32}
use Rattle.std.proofs.lemmas.Int.{to_z-of_z}
use Rattle.rk_ctl.specs.Searching.{alive, dead, is_dead}
use Rattle.rk_ctl.proofs.searching.try_to_sweep.Goals as goal

pub returns-then-not-is_dead : goal.returns-then-not-is_dead
returns-then-not-is_dead g c =
    let same : to_z w32 (of_z w32 c.args.key) ≡ c.args.key = to_z-of_z w32 c.args.key c.ranges.key in
    let lives : is_dead c.in_ok-read.read ≡ false = grind (arith, c.is_dead.ensures, c.if-not-is_dead.true) in
    alive c.in_ok-read.read (rw same at c.in_ok-read.ensures.asked) lives

pub returns : goal.returns
returns g c =
    let same : to_z w32 (of_z w32 c.args.key) ≡ c.args.key = to_z-of_z w32 c.args.key c.ranges.key in
    let died : is_dead c.in_ok-read.read ≡ true = grind (arith, c.is_dead.ensures, c.if-not-is_dead.false) in
    rw c.is_refusal.ensures (dead c.in_ok-read.read c.in_ok-unlinked.unlinked _ _ (rw same at c.in_ok-read.ensures.asked) died
    (rw same at c.in_ok-unlinked.ensures.asked))
