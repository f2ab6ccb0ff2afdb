-- What is done of a run, and its result.
use Rattle.std.specs.Prelude.{◌≡◌, ℕ, true, false, List, [], ◌∷◌, ◌++◌, Option, Some, None, Result, Ok, Err, if◌then◌else◌}
use Rattle.std.specs.Option.{unwrap_or}
use Rattle.std.specs.declared.process.status.ExitStatus.{ExitStatus}
use Rattle.rk_client.specs.declared.fault.PeerFault.{PeerFault}
use Rattle.rk_client.specs.declared.fault.PeerFault.TheVariants as peer
use Rattle.rk_message.specs.Ask.{Ask}
use Rattle.rk_message.specs.declared.ask.AskOf.TheVariants.{Hello}
use Rattle.rk_message.specs.declared.reply.Reply.{Reply}
use Rattle.rk_message.specs.declared.reply.Reply.TheVariants as reply
use Rattle.rk_run.specs.declared.fault.RunFault.{RunFault}
use Rattle.rk_run.specs.declared.fault.RunFault.TheVariants as fault
use Rattle.rk_run.specs.declared.host.StartFault.{StartFault}
use Rattle.rk_run.specs.declared.host.StartFault.TheVariants as start
use Rattle.rk_run.specs.Ending.{status_of}
use Rattle.rk_run.specs.Paths.{from_anywhere}
use Rattle.rk_run.specs.Seen.{Seen}
use Rattle.rk_run.specs.Starts.{IsStart, IsTrapped}
use Rattle.rk_variables.specs.Starts.{Start}
use Rattle.rk_run.specs.Story.{Event, Looked, Sought, Greeted, Started, Waited, Closed, and_then}
use Rattle.rk_run.specs.Words.{Said}

-- HELLO with a new session ring and no other, for who is named, or else for who runs it
abbrev pub hello_of : Said → Seen → Ask
hello_of said seen = Hello (record { uid = unwrap_or said.uid seen.uid; gid = unwrap_or said.gid seen.gid; thread = false; process = false; join = None })

-- the first of two, or else the second
abbrev pub or_else : {X : Type 0} → Option X → Option X → Option X
or_else (Some x) other = Some x
or_else None other = other

-- the socket that is named, or else that of the environment
abbrev pub socket_of : Said → Seen → Option (List ℕ)
socket_of said seen = or_else said.socket seen.socket

-- the library that is named, or else the one that is installed
abbrev pub library_of : Said → Seen → List ℕ
library_of said seen = unwrap_or said.library seen.installed

-- the file that has to be there: reqkey-trap, or the library
abbrev pub tool_of : Said → Seen → List ℕ
tool_of said seen = if said.trap then seen.trap else library_of said seen

-- the session ring, as HELLO is answered; a refusal; any other reply is none to HELLO
abbrev pub ring_in : Reply → Result ℕ RunFault
ring_in (reply.Rings thread process session user) = Ok session
ring_in (reply.Refused e) = Err (fault.Refused e)
ring_in (reply.Number n) = Err fault.Socket
ring_in (reply.Bytes bytes) = Err fault.Socket

-- why there is no reply
abbrev pub unheard : PeerFault → RunFault
unheard peer.Lost = fault.Socket
unheard peer.Malformed = fault.Socket
unheard peer.NoMemory = fault.NoMemory

-- why nothing was started
abbrev pub unstarted_by : StartFault → RunFault
unstarted_by start.NotFound = fault.NotFound
unstarted_by start.Unstartable = fault.Unstartable
unstarted_by start.NoMemory = fault.NoMemory

-- what is started in this ring of the daemon at this path, as the program gets it to find it from any folder
abbrev pub IsStartIn : Said → Seen → List ℕ → ℕ → Start → Type 0
IsStartIn said seen socket ring s = IsStart said (library_of said seen) seen.preloaded (from_anywhere seen.folder socket) ring s

-- how the program has ended
abbrev pub ending : Option ExitStatus → Result ℕ RunFault
ending (Some status) = Ok (status_of status)
ending None = Err fault.Unknown

-- a start, the wait after it, and the result
pub data Tries (s : Start) : List Event → Result ℕ RunFault → Type 0 where
  unstarted : (e : StartFault) → Tries s (Started s (Err e) ∷ []) (Err (unstarted_by e))
  ended : (status : Option ExitStatus) → Tries s (Started s (Ok tt) ∷ Waited status ∷ []) (ending status)

-- what is done while the connection is open, HELLO having been answered so, and the result
pub data InSession (said : Said) (seen : Seen) (socket : List ℕ) (answer : Reply) : List Event → Result ℕ RunFault → Type 0 where
  turned_away : (e : RunFault) → ring_in answer ≡ Err e → InSession said seen socket answer [] (Err e)
  crowded : (ring : ℕ) → ring_in answer ≡ Ok ring → InSession said seen socket answer [] (Err fault.NoMemory)
  tried : (ring : ℕ) (s : Start) (events : List Event) (r : Result ℕ RunFault) → ring_in answer ≡ Ok ring → IsStartIn said seen socket ring s
      → Tries s events r → InSession said seen socket answer events r

-- what is done if reqkey-trap is to start the program, which makes a connection of its own, and the result
pub data Traps (said : Said) (seen : Seen) (socket : List ℕ) : List Event → Result ℕ RunFault → Type 0 where
  choked : Traps said seen socket [] (Err fault.NoMemory)
  left : (s : Start) (events : List Event) (r : Result ℕ RunFault) → IsTrapped said seen.trap socket s → Tries s events r
      → Traps said seen socket events r

-- what is done of a run, first things first, and its result. The library, or reqkey-trap, is there before anybody is asked. With the library, HELLO is
-- the first that is asked, and all else is done before the connection is closed; reqkey-trap is started at once
pub data Runs (said : Said) : List Event → Result ℕ RunFault → Type 0 where
  blind : Runs said [] (Err fault.NoMemory)
  nowhere : (seen : Seen) → socket_of said seen ≡ None → Runs said (Looked seen ∷ []) (Err fault.Socket)
  without : (seen : Seen) (socket : List ℕ) → socket_of said seen ≡ Some socket
      → Runs said (Looked seen ∷ Sought (tool_of said seen) false ∷ []) (Err fault.File)
  trapped : (seen : Seen) (socket : List ℕ) (events : List Event) (r : Result ℕ RunFault) → socket_of said seen ≡ Some socket → said.trap ≡ true
      → Traps said seen socket events r → Runs said (Looked seen ∷ Sought (tool_of said seen) true ∷ events) r
  unanswered : (seen : Seen) (socket : List ℕ) (e : PeerFault) → socket_of said seen ≡ Some socket → said.trap ≡ false
      → Runs said (Looked seen ∷ Sought (tool_of said seen) true ∷ Greeted socket (hello_of said seen) (Err e) ∷ []) (Err (unheard e))
  answered : (seen : Seen) (socket : List ℕ) (answer : Reply) (events : List Event) (r : Result ℕ RunFault) → socket_of said seen ≡ Some socket
      → said.trap ≡ false → InSession said seen socket answer events r
      → Runs said (Looked seen ∷ Sought (tool_of said seen) true ∷ Greeted socket (hello_of said seen) (Ok answer) ∷ events ++ Closed ∷ []) r

-- the same, done after what was done before
abbrev pub HasRun : Said → Option (List Event) → Option (List Event) → Result ℕ RunFault → Type 0
HasRun said before after r = (events : List Event) × (after ≡ and_then before events) × Runs said events r

-- and within a session
abbrev pub HasRunIn : Said → Seen → List ℕ → Reply → Option (List Event) → Option (List Event) → Result ℕ RunFault → Type 0
HasRunIn said seen socket answer before after r = (events : List Event) × (after ≡ and_then before events) × InSession said seen socket answer events r

-- a start
abbrev pub HasTried : Start → Option (List Event) → Option (List Event) → Result ℕ RunFault → Type 0
HasTried s before after r = (events : List Event) × (after ≡ and_then before events) × Tries s events r

-- and by reqkey-trap
abbrev pub HasTrapped : Said → Seen → List ℕ → Option (List Event) → Option (List Event) → Result ℕ RunFault → Type 0
HasTrapped said seen socket before after r = (events : List Event) × (after ≡ and_then before events) × Traps said seen socket events r
