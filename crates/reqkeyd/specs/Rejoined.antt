-- What `rejoin` does on its streams.
use Rattle.std.specs.Prelude.{ℕ, Bool, true, false, ◌&&◌, ◌==◌, not, List, [], ◌∷◌, codes, Option}
use Rattle.std.specs.List.{list_all}
use Rattle.std.specs.Str.{bytes_eq}
use Rattle.rk_rejoin.specs.declared.part.Total.{Total}
use Rattle.rk_rejoin.specs.Disk.{Reading, Reads}
use Rattle.rk_rejoin.specs.Rejoined.{AreRejoined}
use Rattle.reqkeyd.specs.Outcome.{HasTold}

-- a word that is no option
abbrev pub is_file : List ℕ → Bool
is_file [] = true
is_file (b ∷ bs) = not (b == 45)

-- the words are at least one file, and nothing else
abbrev pub are_files : List (List ℕ) → Bool
are_files [] = false
are_files (word ∷ words) = list_all is_file (word ∷ words)

-- the words after the name of the program are `rejoin` and at least one file
abbrev pub asks_rejoin : List (List ℕ) → Bool
asks_rejoin [] = false
asks_rejoin (name ∷ []) = false
asks_rejoin (name ∷ word ∷ words) = bytes_eq word (codes "rejoin") && are_files words

-- the files that such words name
abbrev pub named_files : List (List ℕ) → List (List ℕ)
named_files [] = []
named_files (name ∷ []) = []
named_files (name ∷ word ∷ files) = files

-- each of the files was read once, in order, and nothing else was; they are so much of a record, and a text was written, whatever it says: what was read, and
-- what was written, before and after
abbrev pub HasRejoined : List (List ℕ) → Option (List Reading) → Option (List Reading) → Option (List ℕ) → Option (List ℕ) → Type 0
HasRejoined files story story' contents contents' = (total : Total) × Reads (AreRejoined files total) story story' × HasTold contents contents'
