-- What was done outside of the daemon, first things first, if that is told.
use Rattle.std.specs.Prelude.{◌≡◌, List, ◌++◌, Option, option_map}

-- this was done, too
abbrev pub and_then : {A : Type 0} → Option (List A) → List A → Option (List A)
and_then story more = option_map (λ s. s ++ more) story

-- such acts were done, and nothing else: what was done before, and after
abbrev pub Does : {A : Type 0} → (List A → Type 0) → Option (List A) → Option (List A) → Type 0
Does {A} P before after = (acts : List A) × (after ≡ and_then before acts) × P acts
