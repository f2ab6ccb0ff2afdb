-- What is seen of children and their launcher, and what a call does to it.
use Rattle.std.specs.Prelude.{ℕ, ◌≡◌, ◌≢◌, ◌≤◌, ◌+◌, ◌-◌, ◌==◌, ◌⊎◌, ◌&&◌, ◌||◌, not, max, List, [], ◌∷◌, ◌++◌, map, take, Bool, true, false, Option, option_map, Some, None, Result, Ok, Err, if◌then◌else◌}
use Rattle.std.specs.List.{All}
use Rattle.rk_macro.specs.declared.command.Command.{Command}
use Rattle.rk_machine.specs.declared.event.How.{How}
use Rattle.rk_devices.specs.declared.device.DeviceFault.{DeviceFault}
use Rattle.rk_devices.specs.declared.device.StartFault.{StartFault}
use Rattle.rk_devices.specs.declared.reading.ReadFault.{ReadFault}
use Rattle.rk_devices.specs.declared.reading.ReadFault.TheVariants.{Failed, UsedUp}
use Rattle.rk_devices.specs.Counts.{Rose, both, raised, raised_by, IsRaised}
use Rattle.rk_devices.specs.Outputs.{kept_of}

-- what passes between a child and who runs it: bytes of its output are heard, none at its end; bytes are written to its input
pub data Passed : Type 0 where
  Heard : List ℕ → Passed
  Said : List ℕ → Passed

-- a child: how often a call failed; how often it was read; whether the read that came last told the end of its output; what has passed, first things first,
-- if it tells that; whether its input was closed; `None` before it was waited for, then how it has ended, or `None` if the wait failed; and whether its
-- input was open when it was waited for
pub record ChildShown : Type 0 where
  pub count : ℕ
  pub reads : ℕ
  pub at_end : Bool
  pub story : Option (List Passed)
  pub closed : Bool
  pub waited : Option (Option How)
  pub hasty : Bool

-- a command that was to be started, and how many children were out before
pub record Tried : Type 0 where
  pub out : ℕ
  pub command : Command

-- a launcher: how often a call failed, its own and those of children that came back; the most reads of a child that came back; how many children are out; the
-- most that were out at one time; `reads`, `at_end`, `waited` and `story` of the child that came back last; whether one came back that was waited for while its
-- input was open; and the commands that were to be started, first things first, if it tells them
pub record LauncherShown : Type 0 where
  pub count : ℕ
  pub longest : ℕ
  pub out : ℕ
  pub deepest : ℕ
  pub reads : ℕ
  pub at_end : Bool
  pub last : Option (Option How)
  pub story : Option (List Passed)
  pub hasty : Bool
  pub tried : Option (List Tried)

-- what is told where all of it is told, or nothing
abbrev pub told_if : {A : Type 0} → Bool → List A → Option (List A)
told_if tells all = if tells then Some all else None

-- a child that was just started; it tells what passes, or not
abbrev pub new_child : Bool → ChildShown
new_child tells = record {
  count = 0;
  reads = 0;
  at_end = false;
  story = told_if tells [];
  closed = false;
  waited = None;
  hasty = false;
}

-- a launcher that has started nothing, and does not tell its commands
abbrev pub new_launcher : LauncherShown
new_launcher = record { count = 0; longest = 0; out = 0; deepest = 0; reads = 0; at_end = false; last = None; story = None; hasty = false; tried = None }

-- what is told, with more
abbrev pub and_then : {A : Type 0} → Option (List A) → List A → Option (List A)
and_then told more = option_map (λ t. t ++ more) told

-- how a child has ended that was waited for, `None` if the wait failed
abbrev pub end_of : Result How DeviceFault → Option How
end_of (Ok how) = Some how
end_of (Err e) = None

-- whether a read told the end of the output: it had room for a byte, and read none
abbrev pub is_end : ℕ → Result ℕ DeviceFault → Bool
is_end room (Ok n) = n == 0 && not (room == 0)
is_end room (Err e) = false

-- a write of these bytes: they were written, or it failed, the first ones were, and the count rose
abbrev pub Writes : Result Unit DeviceFault → List ℕ → ChildShown → ChildShown → Type 0
Writes (Ok u) bytes old new = new ≡ record old { story = and_then old.story (Said bytes ∷ []) }
Writes (Err e) bytes old new = Rose old.count new.count × (first others : List ℕ) × (bytes ≡ first ++ others)
    × (new ≡ record old { count = new.count; story = and_then old.story (Said first ∷ []) })

-- its input was closed
abbrev pub closed : ChildShown → ChildShown
closed c = record c { closed = true }

-- what a read has heard: the bytes at the front of its buffer, or nothing if it failed
abbrev pub heard_by : Result ℕ DeviceFault → List ℕ → List Passed
heard_by (Ok n) buf = Heard (take n buf) ∷ []
heard_by (Err e) buf = []

-- a read with room for so many bytes, which left the buffer so: one that failed raised the count, it is one read more, whether it told the end is known, and
-- what it has heard
abbrev pub Reads : ℕ → Result ℕ DeviceFault → List ℕ → ChildShown → ChildShown → Type 0
Reads room r buf old new = IsRaised r old.count new.count
    × (new ≡ record old { count = new.count; reads = raised old.reads; at_end = is_end room r; story = and_then old.story (heard_by r buf) })

-- a wait: one that failed raised the count, and what it came to is known, and whether the input was open
abbrev pub Waits : Result How DeviceFault → ChildShown → ChildShown → Type 0
Waits r old new = IsRaised r old.count new.count × (new ≡ record old { count = new.count; waited = Some (end_of r); hasty = not old.closed })

-- what was done with a child: its counts did not fall, and it was not waited for
pub record GoesOn (old new : ChildShown) : Type 0 where
  pub count : old.count ≤ new.count
  pub reads : old.reads ≤ new.reads
  pub waited : new.waited ≡ old.waited
  pub hasty : new.hasty ≡ old.hasty

-- a write of a callout, of which an empty one needs none
abbrev pub callout_said : List ℕ → List Passed
callout_said [] = []
callout_said (byte ∷ bytes) = Said (byte ∷ bytes) ∷ []

-- a piped handler was given the callout: it was written to its input, or the first bytes of it were and a write failed; then that was closed
abbrev pub IsGiven : List ℕ → ChildShown → ChildShown → Type 0
IsGiven callout old new = (new.closed ≡ true) × ((new.story ≡ and_then old.story (callout_said callout))
    ⊎ (Rose old.count new.count × (first others : List ℕ) × (callout ≡ first ++ others) × (new.story ≡ and_then old.story (Said first ∷ []))))

-- pieces of an output, of a byte or more each
abbrev pub ArePieces : List (List ℕ) → Type 0
ArePieces pieces = All (λ (piece : List ℕ). piece ≢ []) pieces

-- the end of an output that was read to it
abbrev pub end_heard : Result Unit ReadFault → List Passed
end_heard (Ok u) = Heard [] ∷ []
end_heard (Err f) = []

-- a child was read, and nothing else passed: these pieces of its output were heard, and then its end, where it was read to that
abbrev pub HearsPieces : List (List ℕ) → Result Unit ReadFault → ChildShown → ChildShown → Type 0
HearsPieces pieces read old new = (new.closed ≡ old.closed) × ArePieces pieces × (new.story ≡ and_then old.story (map Heard pieces ++ end_heard read))

-- some pieces of its output were
abbrev pub IsHeard : Result Unit ReadFault → ChildShown → ChildShown → Type 0
IsHeard read old new = (pieces : List (List ℕ)) × HearsPieces pieces read old new

-- and they were kept, behind what was kept before
abbrev pub IsKept : Result Unit ReadFault → ChildShown → ChildShown → Option (List ℕ) → Option (List ℕ) → Type 0
IsKept read old new before after = (pieces : List (List ℕ)) × HearsPieces pieces read old new × (after ≡ kept_of before pieces)

-- a piped handler was given the callout, and then its output read and kept
abbrev pub IsPiped : List ℕ → Result Unit ReadFault → ChildShown → ChildShown → Option (List ℕ) → Option (List ℕ) → Type 0
IsPiped callout read old new before after = (given : ChildShown) × IsGiven callout old given × GoesOn given new × IsKept read given new before after

-- why a child was not read to its end: a read failed, and the count rose; or it was read as often as it may be
abbrev pub FailsReading : ReadFault → ChildShown → ChildShown → Type 0
FailsReading Failed old new = Rose old.count new.count
FailsReading UsedUp old new = 1048576 ≤ new.reads

-- a child was read up to so many times, and just as often where its reads are used up
abbrev pub ReadsUpTo : ℕ → Result Unit ReadFault → ChildShown → ChildShown → Type 0
ReadsUpTo times (Err UsedUp) old new = new.reads ≡ raised_by times old.reads
ReadsUpTo times r old new = new.reads ≤ raised_by times old.reads

-- a child more is out
abbrev pub one_more : LauncherShown → LauncherShown
one_more l = record l { out = l.out + 1; deepest = max l.deepest (l.out + 1) }

-- a command was to be started
abbrev pub with_tried : Command → LauncherShown → LauncherShown
with_tried command l = record l { tried = and_then l.tried (record { out = l.out; command = command } ∷ []) }

-- a start of this command: a new child is out, or the count rose and all else is as before
abbrev pub Starts : {A : Type 0} → Command → Result A StartFault → LauncherShown → LauncherShown → Type 0
Starts command (Ok child) old new = new ≡ one_more (with_tried command old)
Starts command (Err e) old new = Rose old.count new.count × (new ≡ record (with_tried command old) { count = new.count })

-- a child came back: its failures are the launcher's
abbrev pub taken_back : LauncherShown → ChildShown → LauncherShown
taken_back l c = record l {
  count = both l.count c.count;
  longest = max l.longest c.reads;
  out = l.out - 1;
  reads = c.reads;
  at_end = c.at_end;
  last = c.waited;
  story = c.story;
  hasty = l.hasty || c.hasty;
}
