-- Which line a request picks.
use Rattle.std.specs.Prelude.{◌≡◌, ℕ, List, ◌∷◌, ◌++◌, Option, Some, None}
use Rattle.std.specs.List.{All}
use Rattle.rk_glob.specs.Wildcard.{Fits}
use Rattle.rk_conf.specs.declared.line.Line.{Line}

-- the four patterns of the line fit
pub record IsFor (line : Line) (op typ desc callout : List ℕ) : Type 0 where
  pub op_fits : Fits line.op op
  pub type_fits : Fits line.typ typ
  pub description_fits : Fits line.desc desc
  pub callout_fits : Fits line.callout callout

-- none of these lines is for the request
abbrev pub NoneFor : List Line → List ℕ → List ℕ → List ℕ → List ℕ → Type 0
NoneFor lines op typ desc callout = All (λ line. IsFor line op typ desc callout → ⊥) lines

-- the chosen line is the first one that is for the request
abbrev pub IsChosen : List Line → List ℕ → List ℕ → List ℕ → List ℕ → Option Line → Type 0
IsChosen lines op typ desc callout None = NoneFor lines op typ desc callout
IsChosen lines op typ desc callout (Some line) =
    (before after : List Line) × (lines ≡ before ++ line ∷ after) × IsFor line op typ desc callout × NoneFor before op typ desc callout

-- a request picks one line of a configuration, or none
abbrev pub PicksOne : Type 0
PicksOne = (lines : List Line) (op typ desc callout : List ℕ) (one other : Option Line) →
    IsChosen lines op typ desc callout one → IsChosen lines op typ desc callout other → one ≡ other
