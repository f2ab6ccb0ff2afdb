-- Entries of a table, in the order of their keys.
use Rattle.std.specs.Prelude.{◌≡◌, ◌<◌, ◌≤◌, ℕ, List, [], ◌∷◌, length, slice_index_or}

-- each key is above k
abbrev pub AreAbove : {V : Type 0} → ℕ → List (ℕ × V) → Type 0
AreAbove k [] = Unit {0}
AreAbove k (e ∷ es) = (k < e.0) × AreAbove k es

-- each key is below all that follow, so none stands twice
abbrev pub KeysRise : {V : Type 0} → List (ℕ × V) → Type 0
KeysRise [] = Unit {0}
KeysRise (e ∷ es) = AreAbove e.0 es × KeysRise es

-- the entry at place i has the key
pub record IsAt {V : Type 0} (es : List (ℕ × V)) (key i : ℕ) : Type 0 where
  pub in_range : i < length es
  pub has_key : (d : ℕ × V) → (slice_index_or es i d).0 ≡ key

-- the key would go to place i: lesser keys are before it, and greater ones from it on
pub record IsGapFor {V : Type 0} (es : List (ℕ × V)) (key i : ℕ) : Type 0 where
  pub in_range : i ≤ length es
  pub before : (j : ℕ) (d : ℕ × V) → j < i → (slice_index_or es j d).0 < key
  pub from : (j : ℕ) (d : ℕ × V) → i ≤ j → j < length es → key < (slice_index_or es j d).0
