-- The memory that an ask takes.
use Rattle.std.specs.Prelude.{ℕ, ◌≡◌, List, Option, Some, None}
use Rattle.rk_names.specs.Longs.{in_description, in_callout, IsLongOf}
use Rattle.rk_message.specs.Ask.{Ask}
use Rattle.rk_message.specs.declared.ask.AskOf.TheVariants as ask

-- the payload of an ask, if it has one
abbrev pub payload_of : Ask → Option (List ℕ)
payload_of (ask.Instantiate key payload ring) = Some payload
payload_of (ask.Add typ description payload ring) = Some payload
payload_of _ = None

-- what the copy of a callout takes of memory, if there is one
abbrev pub IsLongCallout : Option (List ℕ) → Option (List ℕ) → Type 0
IsLongCallout long (Some callout) = IsLongOf in_callout long callout
IsLongCallout long None = Unit {0}

-- what the copies of an ask's description and of its callout take of memory
abbrev pub AreLongOf : Ask → Option (List ℕ) → Option (List ℕ) → Type 0
AreLongOf (ask.Request typ description callout destination) long long_callout = IsLongOf in_description long description × IsLongCallout long_callout callout
AreLongOf (ask.Add typ description payload ring) long long_callout = IsLongOf in_description long description
AreLongOf _ long long_callout = Unit {0}

-- what was copied of an ask before its copy is made: of its description and of its callout what does not stand in the value, and its payload
abbrev pub IsCopied : Ask → Option (List ℕ) → Option (List ℕ) → Option (List ℕ) → Type 0
IsCopied a long long_callout bytes = AreLongOf a long long_callout × (bytes ≡ payload_of a)

-- an ask that has no name and no payload
abbrev pub IsPlain : Ask → Type 0
IsPlain (ask.Request typ description callout destination) = ⊥
IsPlain (ask.Instantiate key payload ring) = ⊥
IsPlain (ask.Add typ description payload ring) = ⊥
IsPlain _ = Unit {0}
