-- How the path of a socket is taken, and given free.
use Rattle.std.specs.Prelude.{◌≢◌, ℕ, Bool, true, false, List, [], ◌∷◌, ◌++◌, Option, None, Some, Result, Ok, Err, is_none}
use Rattle.std.specs.declared.io.ErrorKind.{ErrorKind}
use Rattle.std.specs.declared.io.ErrorKind.TheVariants.{AddrInUse}
use Rattle.rk_daemon.specs.declared.place.FileId.{FileId}
use Rattle.rk_daemon.specs.Place.{Act, Bound, Permitted, Listened, Probed, Identified, Removed}

-- what stands at the path is looked at; a socket on which nobody listens goes, and one is bound in its place, and all else stays; whether one is bound
pub data Replaces (path : List ℕ) : Bool → List Act → Type 0 where
  left : (found : Option Bool) → found ≢ Some true → Replaces path false (Probed path found ∷ [])
  stayed : Replaces path false (Probed path (Some true) ∷ Removed path false ∷ [])
  replaced : (failed : Option ErrorKind) → Replaces path (is_none failed) (Probed path (Some true) ∷ Removed path true ∷ Bound path failed ∷ [])

-- a socket is bound to the path, at once, or where one stands in the place of that; whether one is bound
pub data Binds (path : List ℕ) : Bool → List Act → Type 0 where
  bound : Binds path true (Bound path None ∷ [])
  unbound : (kind : ErrorKind) → kind ≢ AddrInUse → Binds path false (Bound path (Some kind) ∷ [])
  met : (is_bound : Bool) (acts : List Act) → Replaces path is_bound acts → Binds path is_bound (Bound path (Some AddrInUse) ∷ acts)

-- the file of the bound socket gets its permissions, and only then the socket listens; whether it does
pub data Readies (path : List ℕ) (mode : ℕ) : Bool → List Act → Type 0 where
  unpermitted : Readies path mode false (Permitted path mode false ∷ [])
  permitted : (listens : Bool) → Readies path mode listens (Permitted path mode true ∷ Listened listens ∷ [])

-- so; and where it doesn't listen, its file goes again
pub data Opens (path : List ℕ) (mode : ℕ) : Bool → List Act → Type 0 where
  opened : (acts : List Act) → Readies path mode true acts → Opens path mode true acts
  withdrawn : (acts : List Act) (is_gone : Bool) → Readies path mode false acts → Opens path mode false (acts ++ Removed path is_gone ∷ [])

-- the path is taken: a socket is bound, gets its permissions, listens, and its file is looked at; or the first of these that fails is the last; which file
-- it is, if all is done
pub data Takes (path : List ℕ) (mode : ℕ) : Option FileId → List Act → Type 0 where
  barred : (acts : List Act) → Binds path false acts → Takes path mode None acts
  unopened : (acts more : List Act) → Binds path true acts → Opens path mode false more → Takes path mode None (acts ++ more)
  taken : (acts more : List Act) (file : Option FileId) → Binds path true acts → Opens path mode true more
      → Takes path mode file (acts ++ more ++ Identified path file ∷ [])

-- which file it is, if the path was taken
abbrev pub file_taken : {L E : Type 0} → Result (L × FileId) E → Option FileId
file_taken (Ok x) = Some x.1
file_taken (Err e) = None

-- the path is given free: the file there is looked at, and it is removed if it is the one that was taken, and only then
pub data GivesFree (path : List ℕ) (file : FileId) : List Act → Type 0 where
  freed : (is_gone : Bool) → GivesFree path file (Identified path (Some file) ∷ Removed path is_gone ∷ [])
  spared : (found : Option FileId) → found ≢ Some file → GivesFree path file (Identified path found ∷ [])
