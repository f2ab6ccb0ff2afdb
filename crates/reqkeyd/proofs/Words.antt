-- Words that name files.
use Rattle.std.proofs.Common.{◌≡◌, ◌<◌, ℕ, List, [], ◌∷◌, length, map, sym, arith}
use Rattle.std.specs.List.{list_all}
use Rattle.std.proofs.lemmas.List.Folds.{list_all-map}
use Rattle.reqkeyd.specs.Rejoined.{are_files, is_file}

-- some words, of which none is an option, are files
pub files_in : {A : Type 0} (f : A → List ℕ) (ws : List A) → 0 < length ws → list_all (λ w. is_file (f w)) ws ≡ are_files (map f ws)
files_in f [] h = absurd (omega arith)
files_in f (w ∷ ws) h = sym (list_all-map is_file f (w ∷ ws))
