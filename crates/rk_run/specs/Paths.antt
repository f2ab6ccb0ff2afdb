-- The path of a socket, as a program finds it that changes its folder.
use Rattle.std.specs.Prelude.{ℕ, List, Option, Some, None, if◌then◌else◌, length, nat_le}
use Rattle.std.specs.Path.{path_join}

-- a path that is relative is below the folder in which it is named, an absolute one is as it is; so is any, where that folder is not known, or where the
-- whole would have more than the 107 bytes that the path of a socket may have (unix(7))
abbrev pub from_anywhere : Option (List ℕ) → List ℕ → List ℕ
from_anywhere None path = path
from_anywhere (Some folder) path = let whole = path_join folder path in if nat_le (length whole) 107 then whole else path
