-- Serials: numbers of keys and rings, none drawn twice. keyrings(7): "a serial number is a positive integer of 32 bits".
use Rattle.std.specs.Prelude.{◌≡◌, ◌≤◌, ◌<◌, ℕ, zero, suc, ◌+◌, ◌*◌, ◌^◌, false, refl}
use Rattle.std.specs.Coded.{Coded, code_by, coded×, coded_ℕ}
use Rattle.std.specs.Ordering.{nat_cmp}
use Rattle.std.specs.FinSet as set

-- the serials that were drawn, and the form of those that may be: first, first + stride, first + 2 * stride ..
pub record Drawn : Type 0 where
  pub first : ℕ
  pub stride : ℕ
  pub used : set.FinSet nat_cmp

-- its three parts in a row, the form in which a model of a struct sees them
abbrev pub drawn_code : Coded Drawn
drawn_code =
    code_by (ℕ × (ℕ × set.FinSet nat_cmp)) (coded× coded_ℕ (coded× coded_ℕ (set.code coded_ℕ)))
    (λ d. (d.first, (d.stride, d.used))) (λ p. record { first = p.0; stride = p.1.0; used = p.1.1 }) (λ _. refl)

-- a serial that was never drawn
pub record IsFresh (serials : Drawn) (k : ℕ) : Type 0 where
  pub positive : 0 < k
  pub small : k < 2 ^ 31
  pub unused : set.contains serials.used k ≡ false

-- k is drawn
abbrev pub with_drawn : ℕ → Drawn → Drawn
with_drawn k serials = record serials { used = set.insert serials.used k }

-- a serial that may be drawn: of the form, small enough and unused
pub record IsDrawable (serials : Drawn) (k : ℕ) : Type 0 where
  pub index : ℕ
  pub form : k ≡ serials.first + serials.stride * index
  pub small : k < 2 ^ 31
  pub unused : set.contains serials.used k ≡ false

-- n serials that may be drawn, in rising order, none below low
abbrev pub HasFrom : Drawn → ℕ → ℕ → Type 0
HasFrom serials low zero = Unit {0}
HasFrom serials low (suc n) = (k : ℕ) × (low ≤ k) × IsDrawable serials k × HasFrom serials (k + 1) n

-- n serials are left
abbrev pub HasSerials : Drawn → ℕ → Type 0
HasSerials serials n = HasFrom serials 0 n

-- the least serial that may be drawn
pub record IsNext (serials : Drawn) (k : ℕ) : Type 0 where
  pub drawable : IsDrawable serials k
  pub least : (j : ℕ) → IsDrawable serials j → k ≤ j

-- whatever was drawn before is drawn
abbrev pub Extends : Drawn → Drawn → Type 0
Extends old new =
    (new.first ≡ old.first) × (new.stride ≡ old.stride) × ((k : ℕ) → set.contains new.used k ≡ false → set.contains old.used k ≡ false)
