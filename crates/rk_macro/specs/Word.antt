-- One word of a command.
use Rattle.std.specs.Prelude.{◌≡◌, ◌+◌, ◌<◌, ◌≤◌, ℕ, List, length, true, false, Option, Some, None, Result, Ok, Err, alloc_error}
use Rattle.std.specs.declared.alloc.AllocError.{AllocError}
use Rattle.rk_text.specs.Text.{is_text}
use Rattle.rk_macro.specs.declared.fault.ExpandFault.{ExpandFault}
use Rattle.rk_macro.specs.declared.fault.ExpandFault.TheVariants.{NoKey, NotText, TooLong, NoMemory}

-- a word has no room, or memory runs out for one that has
abbrev pub WordFails : List ℕ → ℕ → ExpandFault → Type 0
WordFails word used TooLong = 65536 < used + (length word + 1)
WordFails word used NoMemory = used + (length word + 1) ≤ 65536
WordFails word used NoKey = ⊥
WordFails word used NotText = ⊥

-- the payload is there, and is text
abbrev pub TakesPayload : Result (Option (List ℕ)) AllocError → List ℕ → Type 0
TakesPayload answer word = (answer ≡ Ok (Some word)) × (is_text word ≡ true)

-- what is wrong with the answer of a lookup
abbrev pub PayloadFails : Result (Option (List ℕ)) AllocError → ℕ → ExpandFault → Type 0
PayloadFails answer used NoMemory = answer ≡ Err alloc_error
PayloadFails answer used NoKey = answer ≡ Ok None
PayloadFails answer used NotText = (bytes : List ℕ) × (answer ≡ Ok (Some bytes)) × (is_text bytes ≡ false)
PayloadFails answer used TooLong = (word : List ℕ) × TakesPayload answer word × (65536 < used + (length word + 1))
