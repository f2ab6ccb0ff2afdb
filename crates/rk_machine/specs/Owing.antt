-- What is owed: the steps for which whoever records a run has to keep room.
use Rattle.std.specs.Prelude.{ℕ, ◌+◌, Bool, true, false, cond, is_some, List, Option, Some, None}
use Rattle.rk_macro.specs.declared.subject.Subject.{Subject}
use Rattle.std.specs.Option.{option_map_or}
use Rattle.std.specs.FinMap as map
use Rattle.rk_names.specs.declared.numbers.SessionId.{SessionId}
use Rattle.rk_names.specs.declared.numbers.SessionId.TheVariants.{Client, Handler}
use Rattle.rk_message.specs.Ask.{Ask}
use Rattle.rk_message.specs.declared.ask.AskOf.TheVariants as ask
use Rattle.rk_auth.specs.declared.session.Session.{Session}
use Rattle.rk_auth.specs.declared.construction.Stage.{Stage}
use Rattle.rk_auth.specs.declared.construction.Stage.TheVariants.{Starting, Plain, Piped, Negating}
use Rattle.rk_auth.specs.declared.construction.Construction.{Construction}
use Rattle.rk_auth.specs.Sessions.{Sessions}
use Rattle.rk_machine.specs.Event.{Event}
use Rattle.rk_machine.specs.declared.event.EventOf.TheVariants.{Opened, Asked, Launched, Ended, Collect, Gone}
use Rattle.rk_machine.specs.declared.event.Ran.TheVariants as ran
use Rattle.rk_machine.specs.declared.event.Answer.{Answer}
use Rattle.rk_machine.specs.declared.event.Answer.TheVariants.{Start, Negate, Waiting}
use Rattle.rk_machine.specs.World.{World}
use Rattle.rk_machine.specs.Laws.{is_done}
use Rattle.rk_machine.specs.Weights.{weight}

-- ---- in a world

-- a session that waits is owed its collect
abbrev pub wait_owes : Session → ℕ
wait_owes s = cond (is_some s.wait) 1 0

-- a client is owed its end, and the collect of its wait
abbrev pub client_owes : Session → ℕ
client_owes s = 1 + wait_owes s

-- a construction is owed its launch and its end; while a piped handler may still fail, also those of the one that follows it
abbrev pub stage_owes : Stage → ℕ
stage_owes Starting = 4
stage_owes (Plain s) = 1 + wait_owes s
stage_owes Piped = 3
stage_owes Negating = 2

-- the same, of a construction by its stage
abbrev pub construction_owes : Construction → ℕ
construction_owes c = stage_owes c.stage

-- what is owed to one client, or to one construction with its handler; nothing if it is not there
abbrev pub places : Sessions → SessionId → ℕ
places a (Client n) = option_map_or client_owes (map.get a.clients n) 0
places a (Handler k) = option_map_or construction_owes (map.get a.constructions k) 0

-- the same, in a world
abbrev pub owed_to : World → SessionId → ℕ
owed_to w s = places w.sessions s

-- what is owed to all clients and all constructions
abbrev pub owed : World → ℕ
owed w = weight client_owes w.sessions.clients + weight construction_owes w.sessions.constructions

-- ---- by a step

-- the client or the construction that an event is about
abbrev pub whose : Event → SessionId
whose (Opened s) = s
whose (Asked s a) = s
whose (Launched k r) = Handler k
whose (Ended k how payload) = Handler k
whose (Collect s) = s
whose (Gone s) = s

-- the event is an ask
abbrev pub is_ask : Event → Bool
is_ask (Asked s a) = true
is_ask _ = false

-- what an ask that is answered so adds to what is owed to whoever asks: the collect of its wait
abbrev pub wait_made : Answer → ℕ
wait_made (Start k subject) = 1
wait_made (Waiting k) = 1
wait_made _ = 0

-- what is owed to the construction that an answer starts
abbrev pub start_owes : Answer → ℕ
start_owes (Start k subject) = 4
start_owes _ = 0

-- the ask is a REQUEST, which alone may start a construction
abbrev pub is_request : Ask → Bool
is_request (ask.Request typ description callout ring) = true
is_request _ = false

-- the event's own step, and all that may be owed after it. That is the end of a client that comes; two launches and two ends of a construction that
-- starts, and the collect of its starter
abbrev pub need : Event → ℕ
need (Opened s) = 2
need (Asked s a) = cond (is_request a) 6 1
need _ = 1

-- ---- constructions

-- how many there are
abbrev pub constructions : World → ℕ
constructions w = map.len w.sessions.constructions

-- how many an answer begins
abbrev pub begun : Answer → ℕ
begun (Start k subject) = 1
begun _ = 0

-- how many an event ends, if it is answered 0
abbrev pub closes : Event → ℕ
closes (Launched k ran.Failed) = 1
closes (Ended k how payload) = 1
closes _ = 0

-- the answer says that another handler follows
abbrev pub is_followed : Answer → Bool
is_followed (Negate k) = true
is_followed _ = false

-- how many this event with this answer ends
abbrev pub closed : Event → Answer → ℕ
closed e a = cond (is_done a) (closes e) 0

-- ---- ends of handlers, each of which may bring a payload

-- how many ends are owed to a construction in this stage
abbrev pub stage_ends : Stage → ℕ
stage_ends Starting = 2
stage_ends (Plain s) = 1
stage_ends Piped = 2
stage_ends Negating = 1

-- the same, of a construction by its stage
abbrev pub construction_ends : Construction → ℕ
construction_ends c = stage_ends c.stage

-- how many ends are owed to all constructions
abbrev pub ends_owed : World → ℕ
ends_owed w = weight construction_ends w.sessions.constructions

-- how many are owed to the construction whose handler this is
abbrev pub ends_owed_to : World → SessionId → ℕ
ends_owed_to w (Client n) = 0
ends_owed_to w (Handler k) = option_map_or construction_ends (map.get w.sessions.constructions k) 0

-- how many are owed to the construction that an answer starts
abbrev pub start_ends : Answer → ℕ
start_ends (Start k subject) = 2
start_ends _ = 0

-- how many of them an event takes, if it is owed
abbrev pub takes : Event → ℕ
takes (Ended k how payload) = 1
takes _ = 0

-- ---- what is asked for

-- the type, the description and the callout of a request that may start a construction
abbrev pub asked_in : Ask → Option (List ℕ × (List ℕ × List ℕ))
asked_in (ask.Request typ description (Some callout) ring) = Some (typ, (description, callout))
asked_in _ = None

-- those that an event brings
abbrev pub asked_of : Event → Option (List ℕ × (List ℕ × List ℕ))
asked_of (Asked s a) = asked_in a
asked_of _ = None

-- those of the subject of a start
abbrev pub names_in : Subject → List ℕ × (List ℕ × List ℕ)
names_in s = (s.typ, (s.desc, s.callout))
