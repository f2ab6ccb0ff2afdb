-- Options on a command line.
use Rattle.std.specs.Prelude.{ℕ, Bool, false, List, [], ◌∷◌, ◌==◌, length, Option, Some, None, map, option_map, if◌then◌else◌, nat_lt}
use Rattle.std.specs.Str.{bytes_eq}
use Rattle.std.specs.List.{filter, list_all, list_any, before_first, after_first, position_or_len}

-- a name and its value
pub record Given : Type 0 where
  pub name : List ℕ
  pub value : List ℕ

-- the word is one of these names
abbrev pub is_among : List (List ℕ) → List ℕ → Bool
is_among names word = list_any (bytes_eq word) names

-- the byte between a name and its value in one word
abbrev pub is_equals : ℕ → Bool
is_equals b = b == 61

-- whether it stands in the word
abbrev pub is_joined : List ℕ → Bool
is_joined word = nat_lt (position_or_len is_equals word) (length word)

-- an option in one word
abbrev pub joined : List ℕ → Given
joined word = record { name = before_first is_equals word; value = after_first is_equals word }

-- a flag has no value
abbrev pub flag : List ℕ → Given
flag word = record { name = word; value = [] }

-- options with one more in front
abbrev pub led_by : Given → Option (List Given) → Option (List Given)
led_by g = option_map (λ gs. g ∷ gs)

-- the options that words say: a flag is its name alone, any other stands in one word or in two; none if the last name has no value
unfoldable pub options_of : List (List ℕ) → List (List ℕ) → Option (List Given)
options_of flags [] = Some []
options_of flags (word ∷ []) = if is_joined word then Some (joined word ∷ []) else (if is_among flags word then Some (flag word ∷ []) else None)
options_of flags (word ∷ next ∷ words) = if is_joined word then led_by (joined word) (options_of flags (next ∷ words))
    else (if is_among flags word then led_by (flag word) (options_of flags (next ∷ words))
    else led_by (record { name = word; value = next }) (options_of flags words))

-- the values that are given to a name
unfoldable pub values_of : List ℕ → List Given → List (List ℕ)
values_of name gs = map (λ g. g.value) (filter (λ g. bytes_eq g.name name) gs)

-- no value, or the only one; none if there are more
abbrev pub at_most_one : List (List ℕ) → Option (Option (List ℕ))
at_most_one [] = Some None
at_most_one (v ∷ []) = Some (Some v)
at_most_one (v ∷ w ∷ vs) = None

-- the value that the options give a name, if they give it one
abbrev pub value_in : List ℕ → Option (List Given) → Option (Option (List ℕ))
value_in name None = None
value_in name (Some gs) = at_most_one (values_of name gs)

-- the words say options, and each has such a name
abbrev pub all_named : (List ℕ → Bool) → Option (List Given) → Bool
all_named is_name None = false
all_named is_name (Some gs) = list_all (λ g. is_name g.name) gs

-- the first value of a name is kept, of a second one there is no answer, and other names change nothing
abbrev pub taken : List ℕ → Option (List ℕ) → Given → Option (Option (List ℕ))
taken name None g = if bytes_eq g.name name then Some (Some g.value) else Some None
taken name (Some v) g = if bytes_eq g.name name then None else Some (Some v)
