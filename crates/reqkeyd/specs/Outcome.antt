-- What the program does on its streams, by the words that it is called with.
use Rattle.std.specs.Prelude.{ℕ, Bool, true, false, List, [], ◌∷◌, codes, Option, None, IfSome, if◌then◌else◌}
use Rattle.std.specs.Option.{option_map_or}
use Rattle.std.specs.Str.{bytes_eq}
use Rattle.std.specs.Io.KnownBytes.{Appends}
use Rattle.rk_replay.specs.Written.{IsWritten}
use Rattle.rk_daemon.specs.Settings.{Set, settings_said}
use Rattle.rk_preview.specs.Asked.{Asked, check, pick, asked_said}
use Rattle.rk_preview.specs.Told.{IsTold}

-- the words are the name of the program and `replay`, and nothing else
abbrev pub asks_replay : List (List ℕ) → Bool
asks_replay [] = false
asks_replay (name ∷ []) = false
asks_replay (name ∷ word ∷ []) = bytes_eq word (codes "replay")
asks_replay (name ∷ word ∷ more ∷ words) = false

-- what the words set for the daemon: after the name of the program stands `serve`, and after that are options
abbrev pub asks_serve : List (List ℕ) → Option Set
asks_serve [] = None
asks_serve (name ∷ []) = None
asks_serve (name ∷ word ∷ words) = if bytes_eq word (codes "serve") then settings_said words else None

-- it read a script to its end and wrote what is written for it: what was left to read, and what was written, before and after
abbrev pub HasPlayed : Option (List ℕ) → Option (List ℕ) → Option (List ℕ) → Type 0
HasPlayed unread contents contents' = IfSome unread (λ input. (text : List ℕ) × IsWritten input text × Appends contents contents' text)

-- it wrote a text, whatever it says: what was written, before and after
abbrev pub HasTold : Option (List ℕ) → Option (List ℕ) → Type 0
HasTold contents contents' = (text : List ℕ) × Appends contents contents' text

-- what the words after the name of the program ask of a configuration
abbrev pub asks_preview : List (List ℕ) → Option Asked
asks_preview [] = None
asks_preview (name ∷ words) = asked_said words

-- whether that is a check
abbrev pub is_check : Asked → Bool
is_check (check path) = true
is_check (pick path subject) = false

-- whether the words ask for a check
abbrev pub asks_check : List (List ℕ) → Bool
asks_check words = option_map_or is_check (asks_preview words) false

-- it wrote what the text of some configuration has to say to that: what was written, before and after
abbrev pub HasShown : Asked → Option (List ℕ) → Option (List ℕ) → Type 0
HasShown asked contents contents' = (input text : List ℕ) × IsTold asked input text × Appends contents contents' text
