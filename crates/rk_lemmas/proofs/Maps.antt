-- Finite maps and sets with numbers for keys.
use Rattle.std.proofs.Common.{◌≡◌, ℕ, zero, suc, ◌<◌, true, ap, ◌∙◌, arith}
use Rattle.std.specs.Prelude.{is_some}
use Rattle.std.specs.Ordering.{nat_cmp}
use Rattle.std.specs.FinMap as map
use Rattle.std.specs.FinSet as set
use Rattle.std.proofs.lemmas.Bool.{both_ways}

-- a map with a key is not empty
pub map_not_empty : {X : Type 0} (m : map.FinMap nat_cmp X) (q n : ℕ) → map.contains_key m q ≡ true → map.len m ≡ n → 0 < n
map_not_empty m q zero h e = absurd (both_ways _ (ap (λ x. map.contains_key x q) (map.empty_of_len m e) ∙ ap is_some (map.get-empty nat_cmp q)) h)
map_not_empty m q (suc n) h e = omega arith

-- a set with a member is not empty
pub set_not_empty : (s : set.FinSet nat_cmp) (q n : ℕ) → set.contains s q ≡ true → set.len s ≡ n → 0 < n
set_not_empty s q zero h e = absurd (both_ways _ (ap (λ t. set.contains t q) (set.empty_of_len s e) ∙ set.contains-empty nat_cmp q) h)
set_not_empty s q (suc n) h e = omega arith
