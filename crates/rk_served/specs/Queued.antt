-- Who stands in a queue, and when nobody else may move.
use Rattle.std.specs.Prelude.{◌≡◌, ◌⊎◌, ℕ, false, List, [], Option, Some, None, MatchOption}
use Rattle.std.specs.List.{All, Contains}
use Rattle.std.specs.Global.{Vec}
use Rattle.std.specs.BinaryHeap.{heap_items, heap_len}
use Rattle.std.specs.declared.cmp.Reverse.{Reverse}
use Rattle.std.specs.Ordering.{nat_cmp}
use Rattle.std.specs.Option.{option_map_or}
use Rattle.std.specs.FinMap as map
use Rattle.rk_names.specs.declared.numbers.SessionId.{SessionId}
use Rattle.rk_names.specs.declared.numbers.SessionId.TheVariants.{Client, Handler}
use Rattle.rk_auth.specs.Sessions.{unspent}
use Rattle.rk_machine.specs.World.{World}
use Rattle.rk_machine.specs.Views.{awaited, is_ready}
use Rattle.rk_machine.proofs.Effects.OfOneConstruction.{Goods}
use Rattle.rk_served.specs.declared.happening.Happening.{Happening}
use Rattle.rk_served.specs.declared.happening.Happening.TheVariants as happening
use Rattle.rk_served.specs.declared.queue.Queue.{Queue}
use Rattle.rk_served.specs.Left.{Left}
use Rattle.rk_served.specs.Moves.{CannotMove}
use Rattle.rk_served.specs.WhoIsThere.{peer_of}
use Rattle.rk_served.specs.Movers.{reversed}

-- how many entries the heap of those that may move has; one session may have more than one
abbrev pub size : Queue → ℕ
size q = heap_len q.movers

-- one of those that may move
abbrev pub IsMover : Queue → SessionId → Type 0
IsMover q s = Contains (heap_items q.movers) (reversed s)

-- those that wait for k
abbrev pub waiters_at : map.FinMap nat_cmp (Vec (Reverse SessionId)) → ℕ → List (Reverse SessionId)
waiters_at facts k = option_map_or (λ list. list.items) (map.get facts k) []

-- one of them
abbrev pub IsWaiter : Queue → ℕ → SessionId → Type 0
IsWaiter q k s = Contains (waiters_at q.waiting.facts k) (reversed s)

-- each that may move by the old queue may move by the new one; others may have come
abbrev pub KeepsMovers : Queue → Queue → Type 0
KeepsMovers old new = (s : SessionId) → IsMover old s → IsMover new s

-- each that waits for a key in the old queue waits for that key in the new one; others may have come
abbrev pub KeepsWaiters : Queue → Queue → Type 0
KeepsWaiters old new = (k : ℕ) (s : SessionId) → IsWaiter old k s → IsWaiter new k s

-- who waits for a key still does, or may move
abbrev pub KeepsKnown : Queue → Queue → Type 0
KeepsKnown old new = (k : ℕ) (s : SessionId) → IsWaiter old k s → IsMover new s ⊎ IsWaiter new k s

-- ---- nobody else may move

-- who is none of these can't move, and where he waits for a key, he is one of those
pub record Watches (Moves : SessionId → Type 0) (Waits : ℕ → SessionId → Type 0) (left : Left) : Type 0 where
  pub movers : All (λ x. Moves x.who ⊎ CannotMove left.world x.who x.channel) left.peers
  pub waiters : (k : ℕ) (s : SessionId) → awaited left.world s ≡ Some k → Moves s ⊎ Waits k s
  -- no handler has assumed another's authority
  pub own : Goods left.world.sessions

-- a queue knows all who may move, and all who wait
abbrev pub IsWatched : Queue → Left → Type 0
IsWatched q left = Watches (IsMover q) (IsWaiter q) left

-- the same, beside one who was taken out
abbrev pub IsWatchedBut : SessionId → Queue → Left → Type 0
IsWatchedBut who q left = Watches (λ s. (s ≡ who) ⊎ IsMover q s) (IsWaiter q) left

-- nobody may move, and the queue knows all who wait
pub record IsStill (q : Queue) (left : Left) : Type 0 where
  pub watched : IsWatched q left
  pub none : (s : SessionId) → IsMover q s → ⊥

-- ---- who moved may have freed others

-- k is the key of this one, or the one for which it waits
abbrev pub IsKeyOf : World → SessionId → ℕ → Type 0
IsKeyOf w who k = (who ≡ Handler k) ⊎ (awaited w who ≡ Some k)

-- he waits for what is not there yet, and the queue knows him by the key
pub record Expects (w : World) (who : SessionId) (q : Queue) : Type 0 where
  pub key : ℕ
  pub awaits : awaited w who ≡ Some key
  pub not_ready : is_ready w who ≡ false
  pub known : IsWaiter q key who

-- the session of this one can't move, if it is there
abbrev pub RestsBy : SessionId → Left → Type 0
RestsBy who left = MatchOption (peer_of left.peers who) (Unit {0}) (λ x. CannotMove left.world x.who x.channel)

-- he does not wait, and nothing can come of his stream before more bytes do
pub record HasDone (left : Left) (who : SessionId) : Type 0 where
  pub no_wait : awaited left.world who ≡ None
  pub rests : RestsBy who left

-- the queue knows of this one as much as is to be known: he may move, or he can't and is known where he waits
abbrev pub Knows : Left → SessionId → Queue → Type 0
Knows left who q = IsMover q who ⊎ (Expects left.world who q ⊎ HasDone left who)

-- the queue knows this one again; the others are as they were
pub record PutsBack (left : Left) (who : SessionId) (old new : Queue) : Type 0 where
  pub itself : Knows left who new
  pub movers : KeepsMovers old new
  pub waiters : KeepsWaiters old new

-- all who wait for a key of this one whose authority is spent may move, and the queue knows this one again
pub record Stirs (left : Left) (who : SessionId) (old new : Queue) : Type 0 where
  pub itself : Knows left who new
  pub movers : KeepsMovers old new
  pub known : KeepsKnown old new
  pub woken : (k : ℕ) → IsKeyOf left.world who k → unspent left.world.sessions k ≡ None → (s : SessionId) → IsWaiter old k s → IsMover new s

-- what a happening stirs: bytes nobody but him to whom they came
abbrev pub StirsBy : Left → Happening → Queue → Queue → Type 0
StirsBy left (happening.Bytes n bytes) old new = PutsBack left (Client n) old new
StirsBy left (happening.HandlerBytes k bytes) old new = PutsBack left (Handler k) old new
StirsBy left (happening.Accept n) old new = Stirs left (Client n) old new
StirsBy left (happening.Gone n) old new = Stirs left (Client n) old new
StirsBy left (happening.StartResult k r) old new = Stirs left (Handler k) old new
StirsBy left (happening.HandlerReadFault k) old new = Stirs left (Handler k) old new
StirsBy left (happening.HandlerEnded k how) old new = Stirs left (Handler k) old new
StirsBy left (happening.WaitFault k) old new = Stirs left (Handler k) old new

-- the key of a handler; a client has none
abbrev pub own_key : SessionId → Option ℕ
own_key (Client n) = None
own_key (Handler k) = Some k

-- all who wait for this key, if there is one, may move, if its authority is spent
pub record Wakes (w : World) (key : Option ℕ) (old new : Queue) : Type 0 where
  pub movers : KeepsMovers old new
  pub known : KeepsKnown old new
  pub woken : (k : ℕ) → key ≡ Some k → unspent w.sessions k ≡ None → (s : SessionId) → IsWaiter old k s → IsMover new s

-- this one can't move, and where it waits, the queue knows it
pub record Parks (w : World) (who : SessionId) (old new : Queue) : Type 0 where
  pub movers : KeepsMovers old new
  pub waiters : KeepsWaiters old new
  pub itself : (k : ℕ) → awaited w who ≡ Some k → IsWaiter new k who
  pub same_size : size new ≡ size old
