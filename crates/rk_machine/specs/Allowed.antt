-- Forms of what a step may answer and leave.
use Rattle.std.specs.Prelude.{◌≡◌, ◌⊎◌, Bool, List, [], ◌∷◌, Option, Some, None, if◌then◌else◌}
use Rattle.rk_names.specs.declared.errors.Errno.{Errno}
use Rattle.rk_names.specs.declared.errors.Errno.TheVariants as errno
use Rattle.rk_message.specs.declared.reply.Reply.TheVariants.{Number}
use Rattle.rk_machine.specs.declared.event.Answer.{Answer}
use Rattle.rk_machine.specs.declared.event.Answer.TheVariants.{Done, Refused}
use Rattle.rk_machine.specs.World.{World, tidied}

-- the answer to what gives nothing back
abbrev pub done : Answer
done = Done (Number 0)

-- ---- refusals

-- the first refusal that applies
abbrev pub first_of : List (Option Errno) → Option Errno
first_of [] = None
first_of (None ∷ rest) = first_of rest
first_of (Some error ∷ rest) = Some error

-- this error, where the test holds
abbrev pub refused_if : Bool → Errno → Option Errno
refused_if b error = if b then Some error else None

-- ---- answer and world

-- this answer, and this world is left
abbrev pub Leaves : Answer → World → Answer → World → Type 0
Leaves given left answer new = (answer ≡ given) × (new ≡ left)

-- this answer, and nothing changes
abbrev pub Tells : Answer → World → Answer → World → Type 0
Tells given old answer new = Leaves given old answer new

-- this answer, and this world is left, but for its keys that have no link and are not under construction
abbrev pub Settles : Answer → World → Answer → World → Type 0
Settles given left answer new = Leaves given (tidied left) answer new

-- refused, if there is a refusal, and nothing changes; else the last argument holds
abbrev pub Unless : Option Errno → World → Answer → World → Type 0 → Type 0
Unless None old answer new P = P
Unless (Some error) old answer new P = Tells (Refused error) old answer new

-- out of memory may be answered, and changes nothing
abbrev pub OrNoMemory : World → Answer → World → Type 0 → Type 0
OrNoMemory old answer new P = Tells (Refused errno.Enomem) old answer new ⊎ P
