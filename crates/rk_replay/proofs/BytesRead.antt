-- How many bytes reads have given.
use Rattle.rk_replay.proofs.Words.{Some, None, ap, length, ℕ, List, arith, Option, ◌≤◌, ◌<◌, ◌++◌, IfSome, length-append, Consumes}
use Rattle.std.proofs.Common.{◌*◌}
use Rattle.std.proofs.KnownBytes.{Consumes-trans}
use Rattle.rk_replay.specs.Taken.{IsTaken}

-- what they have given was there
pub consumes_many : (old new : Option (List ℕ)) (bs : List ℕ) (n : ℕ) → Consumes old new bs → n ≤ length bs → IfSome old (λ xs. n ≤ length xs)
consumes_many None new bs n h many = tt
consumes_many (Some xs) None bs n h many = absurd h
consumes_many (Some xs) (Some ys) bs n h many = (let all = ap length h in let parts = length-append bs ys in omega arith)

-- what one more read gave was taken, too
pub taken_so_far : (a b c : Option (List ℕ)) (text more : List ℕ) (turns : ℕ) → Consumes a b text → Consumes b c more → length text ≤ turns * 4096
    → length more ≤ 4096 → turns < 1048576 → IsTaken a c
taken_so_far a b c text more turns before now few one is = (
  text ++ more,
  Consumes-trans a b c text more before now,
  omega (arith, length-append text more, few, one, is),
)
