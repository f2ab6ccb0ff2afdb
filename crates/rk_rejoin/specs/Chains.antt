-- How the volumes of a run are tied to one another.
use Rattle.std.specs.Prelude.{◌≡◌, ℕ, Bool, List, [], ◌∷◌, replicate, Option, Some, None, option_map, is_some, not, if◌then◌else◌}
use Rattle.rk_volumes.specs.declared.seal.Sealed.{Sealed}
use Rattle.rk_volumes.specs.declared.stored.Stored.{Stored}

-- the number of its run that a volume has
abbrev pub run_of : Stored → Option (List ℕ)
run_of v = option_map (λ s. s.seal.run) v.seal

-- the number of its run that the first volume has
abbrev pub run_of_first : List Stored → Option (List ℕ)
run_of_first [] = None
run_of_first (v ∷ vs) = run_of v

-- what the first volume of a hall says of the one before it
abbrev pub no_sum : List ℕ
no_sum = replicate 32 0

-- what the next volume has to say of one in this seal: its sum; nothing, where it closes the record
abbrev pub link_by : Option Sealed → Option (List ℕ)
link_by None = Some no_sum
link_by (Some s) = if s.seal.closing then None else Some s.sum

-- the sum that the next volume has to name, `None` after one that closes the record
abbrev pub link_of : Stored → Option (List ℕ)
link_of v = link_by v.seal

-- the seal says what it has to; a volume of version 1 has none and says nothing
abbrev pub IsTiedBy : Option (List ℕ) → Option Sealed → Type 0
IsTiedBy link None = Unit {0}
IsTiedBy link (Some s) = link ≡ Some s.seal.previous

-- the volume names the sum of the one before it
abbrev pub IsTied : Option (List ℕ) → Stored → Type 0
IsTied link v = IsTiedBy link v.seal

-- each volume says what it has to of the one before it
unfoldable pub AreChained : Option (List ℕ) → List Stored → Type 0
AreChained link [] = Unit {0}
AreChained link (v ∷ vs) = IsTied link v × AreChained (link_of v) vs

-- what a volume after them would have to say
unfoldable pub last_link : Option (List ℕ) → List Stored → Option (List ℕ)
last_link link [] = link
last_link link (v ∷ vs) = last_link (link_of v) vs

-- the last of a hall's volumes closes its record
abbrev pub is_closed : List Stored → Bool
is_closed vs = not (is_some (last_link (Some no_sum) vs))
