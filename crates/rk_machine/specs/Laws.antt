-- The laws of a list of steps, newest first, by looking back in it alone: `before` is what came before a step. request_key(2), request-key(8),
-- keyctl_assume_authority(3), keyctl_instantiate(3)
use Rattle.std.specs.Prelude.{
  ◌≡◌,
  ◌⊎◌,
  ◌≤◌,
  ℕ,
  ◌+◌,
  ℤ,
  pos,
  negsuc,
  Bool,
  true,
  false,
  not,
  ◌&&◌,
  ◌||◌,
  ◌==◌,
  List,
  [],
  ◌∷◌,
  Option,
  Some,
  None,
  option_map,
  if◌then◌else◌,
}
use Rattle.std.specs.Option.{option_map_or}
use Rattle.std.specs.List.{list_any}
use Rattle.rk_names.specs.declared.numbers.SessionId.{SessionId}
use Rattle.rk_names.specs.declared.numbers.SessionId.TheVariants.{Client, Handler}
use Rattle.rk_names.specs.declared.errors.Errno.TheVariants as errno
use Rattle.rk_names.specs.declared.errors.KeyError.{KeyError}
use Rattle.rk_names.specs.Numbers.{key_errno}
use Rattle.rk_macro.specs.declared.subject.Subject.{Subject}
use Rattle.rk_message.specs.Ask.{Ask}
use Rattle.rk_message.specs.declared.ask.AskOf.TheVariants as ask
use Rattle.rk_message.specs.declared.reply.Reply.TheVariants.{Number, Rings}
use Rattle.rk_rings.specs.Places.{is_one_of}
use Rattle.rk_machine.specs.Event.{Event}
use Rattle.rk_machine.specs.declared.event.EventOf.TheVariants.{Asked, Launched, Ended, Collect, Gone}
use Rattle.rk_machine.specs.declared.event.Ran.TheVariants as ran
use Rattle.rk_machine.specs.declared.event.Answer.{Answer}
use Rattle.rk_machine.specs.declared.event.Answer.TheVariants.{Done, Start, Waiting, Negate, Refused}
use Rattle.rk_machine.specs.World.{World}
use Rattle.rk_machine.specs.Steps.{Beginning, Past, Run}

-- some step of these passes the test
abbrev pub happened : (Past → Bool) → List Past → Type 0
happened p before = list_any p before ≡ true

-- no step of these passes the test
abbrev pub never : (Past → Bool) → List Past → Type 0
never p before = list_any p before ≡ false

-- ---- what a step is

-- the answer is the number 0
abbrev pub is_done : Answer → Bool
is_done (Done (Number n)) = n == 0
is_done _ = false

-- effective: not answered as misuse. A launch, the end of a handler and the end of a client are effective where they are answered 0;
-- that all others are misuse is `EffectiveOrMisuse`, below
abbrev pub is_effective : Past → Bool
is_effective s = is_done s.answer

-- the answer is Waiting: the session has to wait on a key
abbrev pub is_waiting : Answer → Bool
is_waiting (Waiting k) = true
is_waiting _ = false

-- the number in an ask names the key k; a negative number names none
abbrev pub names : ℤ → ℕ → Bool
names (pos j) k = j == k
names (negsuc j) k = false

-- both are the same client, or the handler of the same key
abbrev pub same_session : SessionId → SessionId → Bool
same_session (Client m) (Client n) = m == n
same_session (Handler j) (Handler k) = j == k
same_session _ _ = false

-- the session whose ask is answered by the start of the construction of k; None in any other step
abbrev pub starter_in : ℕ → Event → Answer → Option SessionId
starter_in k (Asked s a) (Start j subject) = if j == k then Some s else None
starter_in k _ _ = None

-- the same, of a step in a list
abbrev pub starter_of : ℕ → Past → Option SessionId
starter_of k s = starter_in k s.event s.answer

-- the answer starts the construction of k
abbrev pub starts_by : Answer → ℕ → Bool
starts_by (Start j subject) k = j == k
starts_by _ k = false

-- in this step the construction of k starts
abbrev pub is_start : ℕ → Past → Bool
is_start k s = starts_by s.answer k

-- the event tells what became of the start of k's handler: it runs, or it could not be started
abbrev pub launches : Event → ℕ → Bool
launches (Launched j r) k = j == k
launches _ k = false

-- an effective launch of the handler of k; also one that failed
abbrev pub is_launch : ℕ → Past → Bool
is_launch k s = is_effective s && launches s.event k

-- the answer says that another handler is to be started for k
abbrev pub negates_by : Answer → ℕ → Bool
negates_by (Negate j) k = j == k
negates_by _ k = false

-- the piped handler of k has ended, and another is to be started: request-key.conf(5), the op negate
abbrev pub is_negate : ℕ → Past → Bool
is_negate k s = negates_by s.answer k

-- the steps after the one by which another handler was to be started for k; all of them if there is none
abbrev pub since_negate : ℕ → List Past → List Past
since_negate k [] = []
since_negate k (s ∷ before) = if is_negate k s then [] else s ∷ since_negate k before

-- the event tells that the handler of k has ended, or could not be started
abbrev pub ends : Event → ℕ → Bool
ends (Launched j ran.Failed) k = j == k
ends (Ended j how payload) k = j == k
ends _ k = false

-- an effective ending of the construction of k, also by a launch that failed; an end that another handler follows is answered Negate, and is none
abbrev pub is_ending : ℕ → Past → Bool
is_ending k s = is_effective s && ends s.event k

-- an INSTANTIATE, NEGATE or REJECT of k: keyctl_instantiate(3), keyctl_negate(3), keyctl_reject(3)
abbrev pub completes : Ask → ℕ → Bool
completes (ask.Instantiate key payload ring) k = names key k
completes (ask.Negate key timeout ring) k = names key k
completes (ask.Reject key timeout e ring) k = names key k
completes _ k = false

-- the event is such an ask
abbrev pub completes_by : Event → ℕ → Bool
completes_by (Asked s a) k = completes a k
completes_by _ k = false

-- k is completed: such an ask of it is answered 0
abbrev pub is_completion : ℕ → Past → Bool
is_completion k s = is_done s.answer && completes_by s.event k

-- the event tells that this session is gone
abbrev pub goes : Event → SessionId → Bool
goes (Gone t) s = same_session t s
goes _ s = false

-- an effective end of this session, a client
abbrev pub is_gone : SessionId → Past → Bool
is_gone s p = is_effective p && goes p.event s

-- ---- who waits

-- the key on which s begins to wait in this step, and whether as its starter; None if no wait of s begins
abbrev pub wait_begun : SessionId → Event → Answer → Option (ℕ × Bool)
wait_begun s (Asked t a) (Start k subject) = if same_session t s then Some (k, true) else None
wait_begun s (Asked t a) (Waiting k) = if same_session t s then Some (k, false) else None
wait_begun s _ _ = None

-- the event is a collect of s
abbrev pub collects : SessionId → Event → Bool
collects s (Collect t) = same_session t s
collects s _ = false

-- s is the handler of a key whose construction ends in this step
abbrev pub is_ended : SessionId → Past → Bool
is_ended (Client n) p = false
is_ended (Handler k) p = is_ending k p

-- what ends a wait of s: a collect that is answered other than Waiting, the end of the client s, the ending of the handler s
abbrev pub is_wait_ended : SessionId → Past → Bool
is_wait_ended s p = collects s p.event && not (is_waiting p.answer) || is_gone s p || is_ended s p

-- the key on which s waits after these steps, and whether as its starter; None if it does not wait
abbrev pub waited : SessionId → List Past → Option (ℕ × Bool)
waited s [] = None
waited s (p ∷ before) =
    option_map_or (λ wait. Some wait) (wait_begun s p.event p.answer) (if is_wait_ended s p then None else waited s before)

-- ---- one construction: it happens once, in order; a second launch comes only after a piped handler failed

-- one construction: what a step that concerns k finds before it
pub record OnceFor (k : ℕ) (s : Past) (before : List Past) : Type 0 where
  -- a start is the only one
  pub start : is_start k s ≡ true → never (is_start k) before
  -- a launch is after the start, the only one since another handler was to be started, and before the ending
  pub launch : is_launch k s ≡ true → happened (is_start k) before × never (is_launch k) (since_negate k before) × never (is_ending k) before
  -- another handler is to be started after a launch, once, and before completion and ending
  pub negate : is_negate k s ≡ true → happened (is_launch k) before × never (is_negate k) before × never (is_completion k) before × never (is_ending k) before
  -- a completion is after a launch, of the later handler if there are two; it is the only one, and before the ending
  pub completion : is_completion k s ≡ true → happened (is_launch k) (since_negate k before) × never (is_completion k) before × never (is_ending k) before
  -- an ending is after a launch, of the later handler if there are two, or is itself a launch that failed; it is the only one
  pub ending : is_ending k s ≡ true → happened (is_launch k) (since_negate k (s ∷ before)) × never (is_ending k) before

-- each construction happens once, in order
abbrev pub EachOnce : List Past → Type 0
EachOnce [] = Unit {0}
EachOnce (s ∷ before) = ((k : ℕ) → OnceFor k s before) × EachOnce before

-- ---- one outcome, for all who wait

-- the key of the wait that this step ends by a collect; None if it ends none so
abbrev pub wait_collected : Past → List Past → Option ℕ
wait_collected p before =
    elim p.event as (λ _. Option ℕ) [
      | Collect t ↦ if is_waiting p.answer then None else option_map (λ wait. wait.0) (waited t before)
      | _ ↦ None
    ]

-- each collect that ended a wait on k was answered so
abbrev pub EachToldOf : ℕ → Answer → List Past → Type 0
EachToldOf k answer [] = Unit {0}
EachToldOf k answer (p ∷ before) = (wait_collected p before ≡ Some k → p.answer ≡ answer) × EachToldOf k answer before

-- an outcome of k: its serial, or one of the four errors of a key. request_key(2), "ERRORS"
abbrev pub IsOutcome : ℕ → Answer → Type 0
IsOutcome k answer = (answer ≡ Done (Number k)) ⊎ ((e : KeyError) × (answer ≡ Refused (key_errno e)))

-- one outcome: what a collect is answered agrees with the steps before it
pub record OneOutcome (s : Past) (before : List Past) : Type 0 where
  -- a collect that ends a wait on k is answered an outcome of k, and each earlier one that ended a wait on k was answered the same
  pub one : (k : ℕ) → wait_collected s before ≡ Some k → IsOutcome k s.answer × EachToldOf k s.answer before
  -- Waiting names the key of the wait; it comes only before the ending of that key, and to one who is not its starter only before its completion
  pub waits : (t : SessionId) (j k : ℕ) (starter : Bool) → s.event ≡ Collect t → s.answer ≡ Waiting j → waited t before ≡ Some (k, starter)
      → (j ≡ k) × never (is_ending k) before × (starter ≡ false → never (is_completion k) before)

-- each key has one outcome, for all who wait
abbrev pub EachOutcome : List Past → Type 0
EachOutcome [] = Unit {0}
EachOutcome (s ∷ before) = OneOutcome s before × EachOutcome before

-- ---- own authority: a completion is its own handler's

-- the number that an ASSUME of Handler k names, if it is answered 0; None in any other step. ASSUME of 0 gives up: keyctl_assume_authority(3)
abbrev pub assumed_at : ℕ → Event → Answer → Option ℤ
assumed_at k (Asked s (ask.Assume key)) answer = if same_session s (Handler k) && is_done answer then Some key else None
assumed_at k _ answer = None

-- the same, of a step in a list
abbrev pub assumed_in : ℕ → Past → Option ℤ
assumed_in k p = assumed_at k p.event p.answer

-- what the latest ASSUME of Handler k that was answered Number 0 named
abbrev pub last_assumed : ℕ → List Past → Option ℤ
last_assumed k [] = None
last_assumed k (p ∷ before) = option_map_or (λ key. Some key) (assumed_in k p) (last_assumed k before)

-- own authority: who completes k is the handler of k, and the latest ASSUME of that handler that was answered 0 named k
abbrev pub OwnCompletion : Past → List Past → Type 0
OwnCompletion s before =
    (k : ℕ) → is_completion k s ≡ true → ((a : Ask) × (s.event ≡ Asked (Handler k) a)) × (last_assumed k before ≡ Some (pos k))

-- each completion is its own handler's
abbrev pub EachOwn : List Past → Type 0
EachOwn [] = Unit {0}
EachOwn (s ∷ before) = OwnCompletion s before × EachOwn before

-- ---- first requester: a start has the context of its root

-- what a HELLO that was answered with rings gave; a ring is 0 if it gave none
pub record Root : Type 0 where
  pub uid : ℕ
  pub gid : ℕ
  pub thread : ℕ
  pub process : ℕ
  pub session : ℕ

-- what client n is given in this step: it says HELLO, and is answered with rings. None in any other step
abbrev pub hello_in : ℕ → Event → Answer → Option Root
hello_in n (Asked (Client m) (ask.Hello hello)) (Done (Rings thread process session user)) =
    if m == n then Some (record { uid = hello.uid; gid = hello.gid; thread = thread; process = process; session = session }) else None
hello_in n _ _ = None

-- the root of a session after this step, by the step or by the roots before it
abbrev pub root_at : Past → (SessionId → Option Root) → SessionId → Option Root
root_at p before (Client n) = option_map_or (λ r. Some r) (hello_in n p.event p.answer) (before (Client n))
root_at p before (Handler k) = option_map_or (λ s. before s) (starter_of k p) (before (Handler k))

-- of a client its latest HELLO, of a handler the root of the session that asked for its key; None if there is none
abbrev pub root_of : List Past → SessionId → Option Root
root_of [] s = None
root_of (p ∷ before) s = root_at p (root_of before) s

-- client n is there after these steps, and its latest HELLO gave it this ring as its thread, process or session ring
abbrev pub holds : ℕ → ℕ → List Past → Bool
holds n ring [] = false
holds n ring (p ∷ before) =
    if is_gone (Client n) p then false
    else option_map_or (λ r. is_one_of ring (r.thread ∷ r.process ∷ r.session ∷ [])) (hello_in n p.event p.answer) (holds n ring before)

-- what is shown of a ring: its number while some client holds it, and 0 if none does
abbrev pub Shows : List Past → ℕ → ℕ → Type 0
Shows before ring shown =
    (((n : ℕ) × (holds n ring before ≡ true)) × (shown ≡ ring)) ⊎ (((n : ℕ) → holds n ring before ≡ false) × (shown ≡ 0))

-- the subject of a start has the uid and gid of the root, and shows the rings of the root: request-key(8)
pub record HasRoot (subject : Subject) (root : Root) (before : List Past) : Type 0 where
  pub uid : subject.uid ≡ root.uid
  pub gid : subject.gid ≡ root.gid
  pub thread : Shows before root.thread subject.thread
  pub process : Shows before root.process subject.process
  pub session : Shows before root.session subject.session

-- first requester: where an ask is answered by a start, its session has a root, and the subject has that root
abbrev pub Rooted : Past → List Past → Type 0
Rooted s before =
    (t : SessionId) (a : Ask) (k : ℕ) (subject : Subject) → s.event ≡ Asked t a → s.answer ≡ Start k subject
    → (root : Root) × (root_of before t ≡ Some root) × HasRoot subject root before

-- each start has the context of its root
abbrev pub EachRooted : List Past → Type 0
EachRooted [] = Unit {0}
EachRooted (s ∷ before) = Rooted s before × EachRooted before

-- ---- no circle of waits, and no deep chain of starts

-- s waits on a key whose handler is t, or on one whose handler waits for t in turn
pub data WaitsFor : (past : List Past) (s t : SessionId) → Type 0 where
  at_once : {past : List Past} {s : SessionId} (k : ℕ) (starter : Bool) → waited s past ≡ Some (k, starter) → WaitsFor past s (Handler k)
  further : {past : List Past} {s t : SessionId} (k : ℕ) (starter : Bool) → waited s past ≡ Some (k, starter) → WaitsFor past (Handler k) t → WaitsFor past s t

-- no circle: no session waits, over the handlers of the keys on which sessions wait, for itself
abbrev pub NoCircle : List Past → Type 0
NoCircle past = (s : SessionId) → ¬ (WaitsFor past s s)

-- at no point was there a circle
abbrev pub NeverCircle : List Past → Type 0
NeverCircle [] = NoCircle []
NeverCircle (s ∷ before) = NoCircle (s ∷ before) × NeverCircle before

-- the depth of a session after this step, by the step or by the depths before it
abbrev pub depth_at : Past → (SessionId → ℕ) → SessionId → ℕ
depth_at p before (Client n) = 0
depth_at p before (Handler k) = option_map_or (λ s. before s + 1) (starter_of k p) (before (Handler k))

-- how many starts lead to a session: 0 for a client, and for a handler one more than for the session that asked for its key
abbrev pub start_depth : List Past → SessionId → ℕ
start_depth [] s = 0
start_depth (p ∷ before) s = depth_at p (start_depth before) s

-- at most 8 starts lead to a handler
abbrev pub NotDeep : List Past → Type 0
NotDeep past = (k : ℕ) → start_depth past (Handler k) ≤ 8

-- at no point did more than 8 starts lead to a handler
abbrev pub NeverDeep : List Past → Type 0
NeverDeep [] = NotDeep []
NeverDeep (s ∷ before) = NotDeep (s ∷ before) × NeverDeep before

-- ---- what is not effective is misuse

-- a launch, the end of a handler and the end of a client are answered 0, or EINVAL as misuse; or Negate, if another handler follows the one that ended
abbrev pub EffectiveOrMisuse : Event → Answer → Type 0
EffectiveOrMisuse (Launched k r) a = (is_done a ≡ true) ⊎ (a ≡ Refused errno.Einval)
EffectiveOrMisuse (Ended k how payload) a = (is_done a ≡ true) ⊎ ((a ≡ Negate k) ⊎ (a ≡ Refused errno.Einval))
EffectiveOrMisuse (Gone s) a = (is_done a ≡ true) ⊎ (a ≡ Refused errno.Einval)
EffectiveOrMisuse _ a = Unit {0}

-- each step of the list is answered so
abbrev pub EachEffectiveOrMisuse : List Past → Type 0
EachEffectiveOrMisuse [] = Unit {0}
EachEffectiveOrMisuse (s ∷ before) = EffectiveOrMisuse s.event s.answer × EachEffectiveOrMisuse before

-- ---- the laws

-- the step s, with those before it, obeys each law
pub record KeepsLaws (s : Past) (before : List Past) : Type 0 where
  -- one construction
  pub once : (k : ℕ) → OnceFor k s before
  -- one outcome
  pub outcome : OneOutcome s before
  -- own authority
  pub own : OwnCompletion s before
  -- first requester
  pub root : Rooted s before
  -- no circle after this step
  pub circle : NoCircle (s ∷ before)
  -- what is not effective is misuse
  pub effective : EffectiveOrMisuse s.event s.answer
  -- no chain of more than 8 starts after this step
  pub depth : NotDeep (s ∷ before)

-- every step of the list obeys the laws, with those before it
abbrev pub Lawful : List Past → Type 0
Lawful [] = Unit {0}
Lawful (s ∷ before) = KeepsLaws s before × Lawful before

-- the steps are a run that leads to the world, and obey the laws
abbrev pub ContinuesTo : Beginning → List Past → World → Type 0
ContinuesTo from past w = Run from past w × Lawful past
