-- What those who write and read patterns rely on.
use Rattle.std.specs.Prelude.{◌≡◌, ◌↔◌, ℕ, List, [], ◌∷◌, ◌++◌}
use Rattle.rk_glob.specs.Wildcard.{Fits, IsPlain, star}

-- a pattern without `*` fits itself alone
abbrev pub PlainFitsItselfAlone : Type 0
PlainFitsItselfAlone = (p t : List ℕ) → IsPlain p → Fits p t ↔ (p ≡ t)

-- `*` fits every text, the empty one too
abbrev pub StarFitsEverything : Type 0
StarFitsEverything = (t : List ℕ) → Fits (star ∷ []) t

-- patterns written one after the other fit exactly the texts that fit them, written one after the other
abbrev pub JoinedFitJoined : Type 0
JoinedFitJoined = (p q t : List ℕ) → Fits (p ++ q) t ↔ ((u v : List ℕ) × (t ≡ u ++ v) × Fits p u × Fits q v)
