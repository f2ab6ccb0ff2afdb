-- Names, and the number of one.
use Rattle.std.specs.Prelude.{◌≡◌, ◌⊎◌, ℕ, true, false, List, Option, Some, refl}
use Rattle.std.specs.Coded.{Coded, code_by, coded×, coded_ℕ, coded_list}
use Rattle.std.specs.FinMap as map
use Rattle.rk_keys.specs.Key.{has_name}
use Rattle.rk_keys.specs.Known.{Known}

-- a type and a description: add_key(2)
pub record Name : Type 0 where
  pub typ : List ℕ
  pub description : List ℕ

-- both in a row, the form in which a model of a struct sees them
abbrev pub name_code : Coded Name
name_code = code_by (List ℕ × List ℕ) (coded× (coded_list coded_ℕ) (coded_list coded_ℕ)) (λ n. (n.typ, n.description))
    (λ p. record { typ = p.0; description = p.1 }) (λ _. refl)

-- the number for a new key k of this name: that of a live key of the name, or k itself if there is none
abbrev pub IsNumberFor : Known → List ℕ → List ℕ → ℕ → Option ℕ → Type 0
IsNumberFor known typ description k number =
    ((q : ℕ) × (has_name known.keys q typ description ≡ true) × (map.get known.numbers q ≡ number))
    ⊎ (((q : ℕ) → has_name known.keys q typ description ≡ false) × (number ≡ Some k))
