-- What may be preloaded.
use Rattle.std.specs.Prelude.{ℕ, Bool, false, List, [], ◌∷◌, ◌==◌, ◌&&◌, ◌||◌, not}
use Rattle.std.specs.List.{list_all}

-- it begins with `/`
abbrev pub is_rooted : List ℕ → Bool
is_rooted [] = false
is_rooted (b ∷ bs) = b == 47

-- a space or a colon
abbrev pub stands_between : ℕ → Bool
stands_between b = b == 32 || b == 58

-- an absolute path without what stands between paths in `LD_PRELOAD` (ld.so(8))
abbrev pub is_library : List ℕ → Bool
is_library path = is_rooted path && list_all (λ b. not (stands_between b)) path
