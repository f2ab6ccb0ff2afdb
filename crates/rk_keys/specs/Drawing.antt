-- Serials that are drawn in rising order, known by how many were drawn.
use Rattle.std.proofs.Common.{◌≡◌, ◌∙◌, ap, ℕ, zero, suc, ◌+◌, ◌*◌, ◌<◌, ◌≤◌, arith, add-one, false, ◌||◌, cond}
use Rattle.std.proofs.lemmas.Bool.{ne_eqb}
use Rattle.std.proofs.Math.Nat.{mul-le-mul_left}
use Rattle.std.specs.Ordering.{nat_cmp}
use Rattle.std.specs.Cmp.{nat_cmp_total, unsigned_tied}
use Rattle.std.specs.FinSet as set
use Rattle.rk_keys.specs.Serials.{Drawn}

-- the first n of first, first + stride, first + 2 * stride ..
abbrev pub first_of_form : ℕ → ℕ → ℕ → set.FinSet nat_cmp
first_of_form first stride zero = set.empty
first_of_form first stride (suc n) = set.insert (first_of_form first stride n) (first + stride * n)

-- the first n are drawn, and no other
abbrev pub drawn_in_order : ℕ → ℕ → ℕ → Drawn
drawn_in_order first stride n = record { first = first; stride = stride; used = first_of_form first stride n }

-- ---- they are n: so the count can be told from the set

above : (stride n m : ℕ) → 0 < stride → n < m → stride * n < stride * m
above stride n m p h = let le : n + 1 ≤ m = omega arith in omega (arith, mul-le-mul_left stride le)

-- what is further on in the form is not among the first n
pub not_below : (first stride n m : ℕ) → 0 < stride → n ≤ m → set.contains (first_of_form first stride n) (first + stride * m) ≡ false
not_below first stride zero m p h = set.contains-empty nat_cmp _
not_below first stride (suc n) m p h =
    set.contains-insert nat_cmp_total (first_of_form first stride n) (first + stride * n) (first + stride * m)
    ∙ ap (λ b. b || set.contains (first_of_form first stride n) (first + stride * m))
    (unsigned_tied (first + stride * m) (first + stride * n) ∙ ne_eqb _ _ (λ e. absurd (omega (arith, above stride n m p (omega arith), e))))
    ∙ not_below first stride n m p (omega arith)

-- the first n are n
pub len-first_of_form : (first stride n : ℕ) → 0 < stride → set.len (first_of_form first stride n) ≡ n
len-first_of_form first stride zero p = set.len-empty nat_cmp
len-first_of_form first stride (suc n) p =
    set.len-insert nat_cmp_total (first_of_form first stride n) (first + stride * n)
    ∙ ap (λ b. cond b (set.len (first_of_form first stride n)) (set.len (first_of_form first stride n) + 1)) (not_below first stride n n p (omega arith))
    ∙ ap (λ m. m + 1) (len-first_of_form first stride n p) ∙ add-one n
