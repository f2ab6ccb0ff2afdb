-- The commands that look for keys.
use Rattle.std.specs.Prelude.{ℕ, List, codes, Option, Some, None, if◌then◌else◌}
use Rattle.std.specs.Str.{bytes_eq}
use Rattle.rk_ctl.specs.declared.search.Search.{Search}
use Rattle.rk_ctl.specs.declared.search.Search.TheVariants as search

-- the search of this name
abbrev pub search_named : List ℕ → Option Search
search_named word = if bytes_eq word (codes "list") then Some search.List else (if bytes_eq word (codes "sweep") then Some search.Sweep else None)
