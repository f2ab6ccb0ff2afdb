-- What a draw leaves, for those who draw: the next serial is fresh, and one fewer is left.
use Rattle.rk_keys.proofs.Words.{◌∙◌, ap, ◌≡◌, refl, sym, ℕ, subst, ◌<◌, false, arith, ◌≤◌, ◌+◌, suc, zero, ◌||◌, add-one, ne_eqb, or_parts, nat_cmp_total}
use Rattle.rk_keys.proofs.Words.{contains, contains-insert, insert, nat_cmp, eq_by_cmp, tie, Drawn, IsNext, with_drawn, HasSerials, IsDrawable, HasFrom}
use Rattle.rk_keys.proofs.Words.{Extends, IsFresh}

-- the next serial was never drawn
pub IsNext-IsFresh : (d : Drawn) (k : ℕ) → 1 ≤ d.first → IsNext d k → IsFresh d k
IsNext-IsFresh d k first next = record { positive = omega (arith, next.drawable.form); small = next.drawable.small; unused = next.drawable.unused }

-- if there is a next serial, one is left
pub IsNext-HasSerials : (d : Drawn) (k : ℕ) → IsNext d k → HasSerials d 1
IsNext-HasSerials d k next = (k, omega arith, next.drawable, tt)

-- what was drawn before stays drawn
pub Extends-with_drawn : (d : Drawn) (k : ℕ) → Extends d (with_drawn k d)
Extends-with_drawn d k =
    (refl, refl, λ q e. (or_parts (eq_by_cmp nat_cmp q k) (contains d.used q) (sym (contains-insert nat_cmp_total d.used k q) ∙ e)).1)

still_unused : (d : Drawn) (k j : ℕ) → k < j → contains d.used j ≡ false → contains (insert d.used k) j ≡ false
still_unused d k j less e =
    contains-insert nat_cmp_total d.used k j ∙ ap (λ b. b || contains d.used j) (tie j k ∙ ne_eqb k j (λ same. absurd (omega (arith, less, same)))) ∙ e

-- those above k are left when k is drawn
HasFrom-with_drawn : (d : Drawn) (k n low : ℕ) → k < low → HasFrom d low n → HasFrom (with_drawn k d) low n
HasFrom-with_drawn d k zero low less h = tt
HasFrom-with_drawn d k (suc n) low less h =
    let j : IsDrawable d h.0 = h.2 in
    let above : k < h.0 = omega (arith, less, h.1) in (
      h.0,
      h.1,
      record { index = j.index; form = j.form; small = j.small; unused = still_unused d k h.0 above j.unused },
      HasFrom-with_drawn d k n (h.0 + 1) (omega arith) h.3,
    )

HasFrom-below : (d : Drawn) (n low high : ℕ) → low ≤ high → HasFrom d high n → HasFrom d low n
HasFrom-below d zero low high le h = tt
HasFrom-below d (suc n) low high le h = (h.0, omega (arith, le, h.1), h.2, h.3)

-- one is drawn, and one fewer is left
pub HasSerials-with_drawn : (d : Drawn) (k n : ℕ) → IsNext d k → HasSerials d (n + 1) → HasSerials (with_drawn k d) n
HasSerials-with_drawn d k n next h =
    let all : HasSerials d (suc n) = subst (HasSerials d) (add-one n) h in
    let least : k ≤ all.0 = next.least all.0 all.2 in
    HasFrom-below (with_drawn k d) n 0 (all.0 + 1) (omega arith) (HasFrom-with_drawn d k n (all.0 + 1) (omega (arith, least)) all.3)

-- if one more is left, so many are
pub HasSerials-fewer : (d : Drawn) (n : ℕ) → HasSerials d (n + 1) → HasSerials d n
HasSerials-fewer d n h = fewer d n 0 (subst (HasSerials d) (add-one n) h) where
  fewer : (d : Drawn) (n low : ℕ) → HasFrom d low (suc n) → HasFrom d low n
  fewer d zero low h = tt
  fewer d (suc n) low h = (h.0, h.1, h.2, fewer d n (h.0 + 1) h.3)
