-- The names of a request.
use Rattle.std.specs.Prelude.{ℕ, List, [], ◌∷◌, Option, Some, None, is_none, ◌&&◌, if◌then◌else◌}
use Rattle.rk_names.specs.Rules.{type_fault, description_fault, callout_fault}
use Rattle.rk_preview.specs.declared.names.Names.{Names}

-- a type, a description and a callout
pub record Named : Type 0 where
  pub typ : List ℕ
  pub desc : List ℕ
  pub callout : List ℕ

-- the same, of borrowed names
abbrev pub named_by : Names → Named
named_by names = record { typ = names.typ.now; desc = names.desc.now; callout = names.callout.now }

-- the names that three words say, where each keeps its rule
abbrev pub names_said : List (List ℕ) → Option Named
names_said (typ ∷ desc ∷ callout ∷ []) =
    if is_none (type_fault typ) && is_none (description_fault desc) && is_none (callout_fault callout)
    then Some (record { typ = typ; desc = desc; callout = callout }) else None
names_said _ = None
