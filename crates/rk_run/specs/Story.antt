-- What is done outside of a run.
use Rattle.std.specs.Prelude.{◌≡◌, ℕ, Bool, List, [], ◌∷◌, ◌++◌, Option, option_map, Result, Ok, Err}
use Rattle.std.specs.declared.process.status.ExitStatus.{ExitStatus}
use Rattle.rk_client.specs.declared.fault.PeerFault.{PeerFault}
use Rattle.rk_message.specs.Ask.{Ask}
use Rattle.rk_message.specs.declared.reply.Reply.{Reply}
use Rattle.rk_variables.specs.Starts.{Start}
use Rattle.rk_run.specs.declared.host.Here.{Here}
use Rattle.rk_run.specs.declared.host.StartFault.{StartFault}
use Rattle.rk_run.specs.Seen.{Seen, seen_in}

-- what is done: it looks who runs the program, and whether there is a file; it connects to a path and asks, first of all, and reads a reply; it starts a
-- program, waits for its end, and closes the connection
pub data Event : Type 0 where
  Looked : Seen → Event
  Sought : List ℕ → Bool → Event
  Greeted : List ℕ → Ask → Result Reply PeerFault → Event
  Started : Start → Result Unit StartFault → Event
  Waited : Option ExitStatus → Event
  Closed : Event

-- this was done, too
abbrev pub and_then : Option (List Event) → List Event → Option (List Event)
and_then story more = option_map (λ s. s ++ more) story

-- a look, which out of memory may refuse
abbrev pub Looks : {E : Type 0} → Result Here E → Option (List Event) → Option (List Event) → Type 0
Looks (Ok here) old new = new ≡ and_then old (Looked (seen_in here) ∷ [])
Looks (Err e) old new = new ≡ old
