-- HELLO: a client gets its context. keyctl_join_session_keyring(3); user-keyring(7)
use Rattle.std.specs.Prelude.{◌≡◌, ◌⊎◌, ℕ, ◌+◌, Bool, true, false, cond, not, nat_lt, is_none, [], ◌∷◌, Option, Some, None, unwrap_or}
use Rattle.std.specs.Option.{option_map_or}
use Rattle.std.specs.List.{list_any}
use Rattle.std.specs.FinMap as map
use Rattle.rk_names.specs.declared.numbers.SessionId.{SessionId}
use Rattle.rk_names.specs.declared.errors.Errno.{Errno}
use Rattle.rk_names.specs.declared.errors.Errno.TheVariants as errno
use Rattle.rk_table.specs.Says.{Says}
use Rattle.rk_message.specs.declared.reply.Reply.TheVariants.{Rings}
use Rattle.rk_keys.specs.Serials.{IsFresh, HasSerials}
use Rattle.rk_rings.specs.declared.kind.RingKind.{RingKind}
use Rattle.rk_rings.specs.declared.kind.RingKind.TheVariants as kind
use Rattle.rk_rings.specs.Ring.{Ring, empty_ring, is_users, is_sessions}
use Rattle.rk_auth.specs.Changes.{session_changed, with_context}
use Rattle.rk_machine.specs.declared.event.Answer.{Answer}
pub use Rattle.rk_message.specs.declared.greeting.Greeting.{Greeting}
use Rattle.rk_machine.specs.declared.event.Answer.TheVariants.{Done}
use Rattle.rk_machine.specs.World.{World, drawn}
use Rattle.rk_machine.specs.Allowed.{first_of, refused_if, Leaves, Unless, OrNoMemory}

-- some ring is the user ring of this uid: user-keyring(7)
abbrev pub has_user_ring : World → ℕ → Bool
has_user_ring w uid = list_any (λ r. is_users r.kind r.uid uid) (map.values w.rings)

-- ---- refusals

-- a ring to join is a session ring of the same uid
abbrev pub join_refusal : World → Greeting → Option Errno
join_refusal w g =
    option_map_or
    (λ join. option_map_or (λ r. refused_if (not (is_sessions r.kind r.uid g.uid)) errno.Eacces) (map.get w.rings join) (Some errno.Enokey))
    g.join None

-- how many rings it makes
abbrev pub rings_made : World → Greeting → ℕ
rings_made w g = cond g.thread 1 0 + cond g.process 1 0 + cond (is_none g.join) 1 0 + cond (has_user_ring w g.uid) 0 1

-- the error of the ring to join, then EDQUOT: more than 1,024 rings, or too few serials left (`left` says whether enough are)
abbrev pub hello_refusal : World → Greeting → Bool → Option Errno
hello_refusal w g left =
    first_of (join_refusal w g ∷ refused_if (nat_lt 1024 (map.len w.rings + rings_made w g)) errno.Edquot ∷ refused_if (not left) errno.Edquot ∷ [])

-- ---- the rings, one after the other

-- a ring is made, under any unused serial
abbrev pub Makes : RingKind → ℕ → World → World → ℕ → Type 0
Makes kind uid old new ring =
    IsFresh old.serials ring × (new ≡ record (drawn ring old) { rings = map.insert old.rings ring (empty_ring kind uid) })

-- a ring is made if it is wanted
abbrev pub MakesIf : Bool → RingKind → ℕ → World → World → Option ℕ → Type 0
MakesIf false kind uid old new ring = (ring ≡ None) × (new ≡ old)
MakesIf true kind uid old new ring = (r : ℕ) × (ring ≡ Some r) × Makes kind uid old new r

-- a session ring is made, or joined
abbrev pub HasSessionRing : Option ℕ → ℕ → World → World → ℕ → Type 0
HasSessionRing None uid old new ring = Makes kind.Session uid old new ring
HasSessionRing (Some join) uid old new ring = (ring ≡ join) × (new ≡ old)

-- the user ring of a uid is made once, and stays
abbrev pub HasUserRing : ℕ → World → World → ℕ → Type 0
HasUserRing uid old new ring =
    ((r : Ring) × (map.get old.rings ring ≡ Some r) × (is_users r.kind r.uid uid ≡ true) × (new ≡ old))
    ⊎ ((has_user_ring old uid ≡ false) × Makes kind.User uid old new ring)

-- the rings of a context are made or found, in the order thread, process, session, user
pub record MakesRings (g : Greeting) (old new : World) (thread process : Option ℕ) (session user : ℕ) : Type 0 where
  -- the world with the thread ring
  pub w1 : World
  -- the world with the process ring, too
  pub w2 : World
  -- the world with the session ring, too
  pub w3 : World
  pub thread_made : MakesIf g.thread kind.Thread g.uid old w1 thread
  pub process_made : MakesIf g.process kind.Process g.uid w1 w2 process
  pub session_made : HasSessionRing g.join g.uid w2 w3 session
  pub user_made : HasUserRing g.uid w3 new user

-- the client gets a context with these rings, and is answered their numbers: 0 for a thread or process ring that it did not want
abbrev pub Greets : World → SessionId → Greeting → Answer → World → Type 0
Greets old s g answer new =
    (thread process : Option ℕ) × (session user : ℕ) × (made : World) × MakesRings g old made thread process session user
    × Leaves (Done (Rings (unwrap_or thread 0) (unwrap_or process 0) session user))
    (record made {
      sessions = session_changed s
          (with_context (record { uid = g.uid; gid = g.gid; thread = thread; process = process; session = session; user = user })) made.sessions;
    }) answer new

-- HELLO is refused, finds no memory, or greets
unfoldable pub Hellos : World → SessionId → Greeting → Answer → World → Type 0
Hellos old s g answer new =
    (left : Bool) × Says left (HasSerials old.serials (rings_made old g))
    × Unless (hello_refusal old g left) old answer new (OrNoMemory old answer new (Greets old s g answer new))
