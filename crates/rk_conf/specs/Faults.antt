-- Which refusals a reader may answer.
use Rattle.std.specs.Prelude.{◌≡◌, List, [], ◌∷◌, Option, Some, None}
use Rattle.rk_conf.specs.declared.fault.ConfKind.{ConfKind}
use Rattle.rk_conf.specs.declared.fault.ConfKind.TheVariants.{NoMemory}
use Rattle.rk_conf.specs.declared.fault.ConfFault.{ConfFault}

-- the answer is the rule that is broken; out of memory is answered only if none is
abbrev pub IsKindFor : ConfKind → Option ConfKind → Type 0
IsKindFor kind None = kind ≡ NoMemory
IsKindFor kind (Some rule) = kind ≡ rule

-- the answer is the first fault of the text; out of memory is answered only if there is none
abbrev pub IsFaultFor : ConfFault → List ConfFault → Type 0
IsFaultFor fault [] = fault.kind ≡ NoMemory
IsFaultFor fault (first ∷ others) = fault ≡ first
