-- After what one session has done, nobody may move but those of whom the queue knows.
use Rattle.rk_served.proofs.Words.{refl, ◌∙◌, ap, sym, List, ◌≡◌, [], subst, ℕ, inr, true, ◌∷◌, inl, ◌++◌, Bool, false, cond, not, ◌⊎◌, get_or, All-filter}
use Rattle.rk_served.proofs.Words.{All-nil, All-cons, All-head, All-tail, All-set, MatchOption-at_some, slice_get-get_or, MatchBool, get-empty, Vec, Contains}
use Rattle.rk_served.proofs.Words.{All, nat_cmp, Some, Option, None, slice_get, slice_set, is_some, nat_eq, option_map, MatchOption, option_and_then, Reverse}
use Rattle.rk_served.proofs.Words.{SessionId, Handler, Client, stage_of, Sessions, wait_of, unspent, handler_in, Construction, Line, Ask, Subject, ready_waits}
use Rattle.rk_served.proofs.Words.{effect, kind_in, kind_of, IsIdle, idle_step, idle_fresh, same-true, same-self, flag, flag_of, unless, done, refused_if}
use Rattle.rk_served.proofs.Words.{Event, same_session, Beginning, may_launch, Step, has_wait, is_ready, awaited, World, Answer, Start, Negate, Launched, Gone}
use Rattle.rk_served.proofs.Words.{Opened, Ended, Collect, Asked, How, MovesNext, RestsBy, MovesBy, TriesAt, Left, peer, without, Part, nothing, reversed}
use Rattle.rk_served.proofs.Words.{collects, refuses, asks, shuts_client, shuts_handler, Answered, puts_reply, starts_one, fails_to_start, Move, CannotMove}
use Rattle.rk_served.proofs.Words.{Lengthens, channel_with, IsAtRest, Adds, EndsBy, is_last, is_followed, is_not_followed, OwnStep, whose, IsWatched, waiters_at, Stirs, StirsBy, PutsBack, Expects, Parks, IsMover}
use Rattle.rk_served.proofs.Words.{IsWaiter, Watches, IsWatchedBut, IsStill, IsKeyOf, own_key, Wakes, KeepsMovers, comes_before, HasItsPeers, peer_of}
use Rattle.rk_served.proofs.Words.{are_apart, Happening, Started, Failed, Output, Channel, Starts, Talks, Pipes, Peer}
use Rattle.std.specs.FinMap as map
use Rattle.rk_auth.specs.declared.session.Session.{Session}
use Rattle.rk_machine.proofs.Effects.StagesAfter.{Shape, shape}
use Rattle.rk_table.specs.Stored.{Stored}
use Rattle.rk_names.specs.declared.errors.Errno.TheVariants as errno
use Rattle.rk_names.specs.declared.errors.KeyError.TheVariants as error
use Rattle.rk_keys.specs.declared.key.Condition.TheVariants.{Negative}
use Rattle.rk_auth.specs.declared.session.Wait.{Wait}
use Rattle.rk_auth.specs.declared.construction.Authority.{Authority}
use Rattle.rk_machine.specs.declared.event.Ran.TheVariants as ran
use Rattle.rk_machine.specs.Owing.{whose as about}
use Rattle.rk_machine.proofs.Effects.OfOneConstruction.{Goods}
use Rattle.rk_machine.proofs.Effects.WaitsAreTheWorlds.{after, tied}
use Rattle.rk_machine.proofs.Effects.AuthoritiesAfter.{unspent_ended}
use Rattle.rk_machine.proofs.Effects.WhoIsWoken.{others, still_awaited, woken}
use Rattle.rk_machine.proofs.OneConstruction.EachOnce.{goods_after}
use Rattle.rk_served.specs.declared.happening.Happening.TheVariants as happening
use Rattle.rk_served.specs.declared.queue.Queue.{Queue}
use Rattle.std.specs.Prelude.{Result, Ok, Err, OnOk}
use Rattle.std.specs.BinaryHeap.{heap_items}
use Rattle.rk_served.specs.Queued.{KeepsWaiters, Knows, HasDone}
use Rattle.rk_served.proofs.Kept.{move_keeps_peers}
use Rattle.rk_served.proofs.PeerLists.{turned, who_is, at_place}
use Rattle.rk_served.proofs.PeersFit.{fits, failed_fresh, failed_kinds}
use Rattle.rk_served.proofs.Standings.{before_self}

-- ---- what one session's doing leaves of the others

-- others wait as they did; and who may collect only now waits for one of these keys, whose authority is spent
pub record Frees (who : SessionId) (Keys : ℕ → Type 0) (old new : World) : Type 0 where
  pub waits : (s : SessionId) → same_session who s ≡ false → awaited new s ≡ awaited old s
  pub ready : (s : SessionId) → same_session who s ≡ false → is_ready new s ≡ true
      → (is_ready old s ≡ true) ⊎ ((k : ℕ) × (awaited old s ≡ Some k) × Keys k × (unspent new.sessions k ≡ None))
  pub own : Goods new.sessions

frees_none : (who : SessionId) (Keys : ℕ → Type 0) (old new : World) → new ≡ old → Goods old.sessions → Frees who Keys old new
frees_none who Keys old new same good = record {
  waits = λ s apart. ap (λ (w : World). awaited w s) same;
  ready = λ s apart r. inl (ap (λ (w : World). is_ready w s) (sym same) ∙ r);
  own = subst (λ (w : World). Goods w.sessions) (sym same) good;
}

frees_weaker : (who : SessionId) (Keys Keys' : ℕ → Type 0) (old new : World) → ((k : ℕ) → Keys k → Keys' k) → Frees who Keys old new → Frees who Keys' old new
frees_weaker who Keys Keys' old new h f = record {
  waits = f.waits;
  ready = λ s apart r. elim (f.ready s apart r) [
    | inl e ↦ inl e
    | inr x ↦ inr (x.0, x.1, h x.0 x.2, x.3)
  ];
  own = f.own;
}

-- a step about this one
frees_step : (who : SessionId) (old : World) (now : ℕ) (e : Event) (a : Answer) (new : World) → Step old now e a new → about e ≡ who → IsIdle old
    → Goods old.sessions → Frees who (λ k. who ≡ Handler k) old new
frees_step who old now e a new step is idle good = record {
  waits = λ s apart. still_awaited old e new s (left_of s apart);
  ready = λ s apart r. elim (woken old now e a new step s (left_of s apart) r) [
    | inl h ↦ inl h
    | inr x ↦ inr (x.0.key, ap (option_map (λ (v : Wait). v.key)) x.1, sym is ∙ x.2, x.3)
  ];
  own = goods_after old now e a new step good;
}
  where
    left_of : (s : SessionId) → same_session who s ≡ false → Rattle.rk_machine.proofs.Effects.WhoIsWoken.Others old e new s
    left_of s apart = others old now e a new step (idle_fresh old idle) good s (ap (λ x. same_session x s) is ∙ apart)

-- one after the other
frees_then : (who : SessionId) (Keys Keys' : ℕ → Type 0) (old mid new : World) → ((k : ℕ) → unspent mid.sessions k ≡ None → unspent new.sessions k ≡ None)
    → Frees who Keys old mid → Frees who Keys' mid new → Frees who (λ k. Keys k ⊎ Keys' k) old new
frees_then who Keys Keys' old mid new spent f g = record {
  waits = λ s apart. g.waits s apart ∙ f.waits s apart;
  ready = λ s apart r. elim (g.ready s apart r) [
    | inl e ↦ elim (f.ready s apart e) [
      | inl h ↦ inl h
      | inr x ↦ inr (x.0, x.1, inl x.2, spent x.0 x.3)
    ]
    | inr x ↦ inr (x.0, sym (f.waits s apart) ∙ x.1, inr x.2, x.3)
  ];
  own = g.own;
}

none_in : (b : Bool) (o : Option Authority) → o ≡ None → cond b None o ≡ None
none_in true o h = refl
none_in false o h = h

-- a start that failed issues no authority
spent_stays : (old : World) (now k : ℕ) (a : Answer) (new : World) → Step old now (Launched k ran.Failed) a new → (j : ℕ) → unspent old.sessions j ≡ None
    → unspent new.sessions j ≡ None
unfolding Step
spent_stays old now k a new h j none =
    unless (refused_if (not (may_launch ran.Failed (stage_of old.sessions k))) errno.Einval) old a new _ _
    (λ error ra same. ap (λ (w : World). unspent w.sessions j) same ∙ none)
    (λ allowed g. ap (λ (w : World). unspent w.sessions j) g.1 ∙ unspent_ended now k (Negative error.NoKey) old j
    ∙ none_in (nat_eq k j) (unspent old.sessions j) none) h

-- ---- a start that fails at once

-- the handler of a key without a construction does not wait
no_handler : (w : World) (k : ℕ) → kind_of w.sessions k ≡ None → awaited w (Handler k) ≡ None
no_handler w k h = found (map.get w.sessions.constructions k) h
  where
    found : (o : Option Construction) → kind_in o ≡ None
        → option_map (λ (v : Wait). v.key) (option_and_then (λ (one : Session). one.wait) (option_and_then (λ (c : Construction). handler_in c.stage) o)) ≡ None
    found None e = refl
    found (Some c) e = absurd (cc)

key_in : (a : Sessions) (s : SessionId) (k : ℕ) (b : Bool) → flag_of a s ≡ Some (k, b) → option_map (λ (v : Wait). v.key) (wait_of a s) ≡ Some k
key_in a s k b h = found (wait_of a s) h
  where
    found : (o : Option Wait) → option_map flag o ≡ Some (k, b) → option_map (λ (v : Wait). v.key) o ≡ Some k
    found None e = absurd (cc)
    found (Some v) e = ap (option_map (λ (f : ℕ × Bool). f.0)) e

-- who waits awaits a key
waits_for : (o : Option Wait) → is_some o ≡ is_some (option_map (λ (v : Wait). v.key) o)
waits_for None = refl
waits_for (Some v) = refl

not_ready : (w : World) (s : SessionId) → awaited w s ≡ None → is_ready w s ≡ true → ⊥
not_ready w s none r = let e = sym (ready_waits w s r) ∙ waits_for (wait_of w.sessions s) ∙ ap is_some none in cc

-- equal handlers are of one key
same_handler : {i j : ℕ} → ◌≡◌ {A = SessionId} (Handler i) (Handler j) → i ≡ j
same_handler e = cc

module _ (who : SessionId) (old : World) (now : ℕ) (ask : Ask) (k : ℕ) (subject : Subject) (mid : World) (a : Answer) (new : World)
    (first : Step old now (Asked who ask) (Start k subject) mid) (second : Step mid now (Launched k ran.Failed) a new) (idle : IsIdle old)
    (good : Goods old.sessions) where
  begun : Frees who (λ j. who ≡ Handler j) old mid
  begun = frees_step who old now (Asked who ask) (Start k subject) mid first refl idle good

  over : Frees (Handler k) (λ j. Handler k ≡ Handler j) mid new
  over = frees_step (Handler k) mid now (Launched k ran.Failed) a new second refl (idle_step old now (Asked who ask) (Start k subject) mid first idle) begun.own

  -- the handler of the new key waits neither before nor after
  none_old : awaited old (Handler k) ≡ None
  none_old = no_handler old k (failed_fresh old mid new now k who ask subject a first second idle)

  none_new : awaited new (Handler k) ≡ None
  none_new = no_handler new k (failed_kinds old mid new now k who ask subject a first second idle k
      ∙ failed_fresh old mid new now k who ask subject a first second idle)

  -- the asker has begun to wait, or it is the handler of that key itself
  its_key : (b : Bool) → same_session who (Handler k) ≡ b → IsKeyOf new who k
  its_key true same = inl (same-true who (Handler k) same)
  its_key false apart =
      inr (over.waits who (turned who (Handler k) apart) ∙ key_in mid.sessions who k true
      (tied old now (Asked who ask) (Start k subject) mid (effect old now (Asked who ask) (Start k subject) mid first) (idle_fresh old idle) who
      ∙ begins (same-self who)))
    where
      begins : same_session who who ≡ true → after now who (Asked who ask) (Start k subject) (flag_of old.sessions who) ≡ Some (k, true)
      begins same =
          ap (λ b. Rattle.std.specs.Option.option_map_or (λ (w : ℕ × Bool). Some w) (cond b (Some (k, true)) None) (cond
          (Rattle.rk_machine.specs.Laws.is_wait_ended who (Rattle.rk_machine.proofs.Effects.WaitsAreTheWorlds.step now (Asked who ask) (Start k subject)))
          None (flag_of old.sessions who))) same

  -- nobody else is freed but by the asker's keys
  fails_at_once : Frees who (IsKeyOf new who) old new
  fails_at_once = record {
    waits = λ s apart. by_waits s apart (same_session (Handler k) s) refl;
    ready = λ s apart r. by_ready s apart r (same_session (Handler k) s) refl;
    own = over.own;
  }
    where
      by_waits : (s : SessionId) → same_session who s ≡ false → (b : Bool) → same_session (Handler k) s ≡ b → awaited new s ≡ awaited old s
      by_waits s apart true same = subst (λ (t : SessionId). awaited new t ≡ awaited old t) (same-true (Handler k) s same) (none_new ∙ sym none_old)
      by_waits s apart false other = over.waits s other ∙ begun.waits s apart

      by_ready : (s : SessionId) → same_session who s ≡ false → is_ready new s ≡ true → (b : Bool) → same_session (Handler k) s ≡ b
          → (is_ready old s ≡ true) ⊎ ((j : ℕ) × (awaited old s ≡ Some j) × IsKeyOf new who j × (unspent new.sessions j ≡ None))
      by_ready s apart r true same = absurd (not_ready new s (ap (awaited new) (sym (same-true (Handler k) s same)) ∙ none_new) r)
      by_ready s apart r false other = elim (over.ready s other r) [
        | inl h ↦ elim (begun.ready s apart h) [
          | inl e ↦ inl e
          | inr x ↦ inr (x.0, x.1, inl x.2, spent_stays mid now k a new second x.0 x.3)
        ]
        | inr x ↦ inr (
          x.0,
          sym (begun.waits s apart) ∙ x.1,
          subst (IsKeyOf new who) (same_handler x.2) (its_key (same_session who (Handler k)) refl),
          x.3,
        )
      ]

-- ---- the peers

all_added : (P : Peer → Type 0) (before after : List Peer) (y : Peer) → All P (before ++ after) → P y → All P (before ++ y ∷ after)
all_added P [] after y h own = All-cons P y after own h
all_added P (b ∷ bs) after y h own = All-cons P b (bs ++ y ∷ after) (All-head P b (bs ++ after) h) (all_added P bs after y (All-tail P b (bs ++ after) h) own)

-- what this one has done: its own peer is another or gone, a construction may have come that is to be started, and others are as they were
pub record Moved (who : SessionId) (old new : Left) : Type 1 where
  pub frees : Frees who (IsKeyOf new.world who) old.world new.world
  pub peers : (P : Peer → Type 0) → ((x : Peer) → x.who ≡ who → P x) → ((k : ℕ) (piped : Bool) (m : Option Subject) → P (peer (Handler k) (Starts piped) m))
      → All P old.peers → All P new.peers

-- one step about this one, which frees others by its keys
frees_by : (old new : World) (now : ℕ) (e : Event) (a : Answer) → Step old now e a new → IsIdle old → Goods old.sessions
    → Frees (about e) (IsKeyOf new (about e)) old new
frees_by old new now e a step idle good =
    frees_weaker (about e) _ (IsKeyOf new (about e)) old new (λ k h. inl h) (frees_step (about e) old now e a new step refl idle good)

module _ (who : SessionId) (old new : Left) (frees : Frees who (IsKeyOf new.world who) old.world new.world) where
  same_peers : new.peers ≡ old.peers → Moved who old new
  same_peers same = record {
    frees = frees;
    peers = λ P own starts all. subst (All P) (sym same) all;
  }

  one_set : (i : ℕ) (x : Peer) → x.who ≡ who → new.peers ≡ slice_set old.peers i x → Moved who old new
  one_set i x is same = record {
    frees = frees;
    peers = λ P own starts all. subst (All P) (sym same) (All-set P old.peers i x (own x is) all);
  }

  one_gone : (s : SessionId) → new.peers ≡ without s old.peers → Moved who old new
  one_gone s same = record {
    frees = frees;
    peers = λ P own starts all. subst (All P) (sym same) (All-filter (λ x. not (same_session x.who s)) P old.peers all);
  }

  one_come : (x : Peer) → x.who ≡ who → Adds x old.peers new.peers → Moved who old new
  one_come x is adds = record {
    frees = frees;
    peers = λ P own starts all. subst (All P) (sym adds.peers) (all_added P adds.before adds.after x (subst (All P) adds.others all) (own x is));
  }

  one_starts : (k : ℕ) (piped : Bool) (m : Option Subject) (before after : List Peer) → old.peers ≡ before ++ after
      → new.peers ≡ before ++ peer (Handler k) (Starts piped) m ∷ after → Moved who old new
  one_starts k piped m before after others same = record {
    frees = frees;
    peers = λ P own starts all. subst (All P) (sym same) (all_added P before after _ (subst (All P) others all) (starts k piped m));
  }

-- after a change of its own peer
moved_then : (who : SessionId) (old mid new : Left) (i : ℕ) (x : Peer) → x.who ≡ who → mid.world ≡ old.world → mid.peers ≡ slice_set old.peers i x
    → Moved who mid new → Moved who old new
moved_then who old mid new i x is world set m = record {
  frees = subst (λ (w : World). Frees who (IsKeyOf new.world who) w new.world) world m.frees;
  peers = λ P own starts all. m.peers P own starts (subst (All P) (sym set) (All-set P old.peers i x (own x is) all));
}

-- ---- moves

moved_by_ask : (conf : List Line) (now : ℕ) (old : Left) (who : SessionId) (ask : Ask) (part : Part) (new : Left) → Answered conf now old who ask part new
    → IsIdle old.world → Goods old.world.sessions → Moved who old new
moved_by_ask conf now old who ask part new (puts_reply h) idle good =
    same_peers who old new (frees_by old.world new.world now (Asked who ask) h.answer h.step idle good) h.peers
moved_by_ask conf now old who ask part new (starts_one h) idle good =
    one_starts who old new (frees_by old.world new.world now (Asked who ask) (Start h.key h.subject) h.step idle good) h.key h.command.piped
    (Some h.subject) h.before h.after h.others h.peers
moved_by_ask conf now old who ask part new (fails_to_start h) idle good =
    same_peers who old new (fails_at_once who old.world now ask h.key h.subject h.mid h.answer new.world h.first h.second idle good) h.peers

-- whoever sits at a place has moved, if one who sits there has
mover : {x y : Peer} {who : SessionId} (old new : Left) (i : ℕ) → slice_get old.peers i ≡ Some y → slice_get old.peers i ≡ Some x → x.who ≡ who
    → Moved y.who old new → Moved who old new
mover old new i at at' is m = subst (λ (s : SessionId). Moved s old new) (who_is (sym at ∙ at') ∙ is) m

-- what a move or an own step has done, which begins where all is in order
module _ (conf : List Line) (now : ℕ) (old : Left) (part : Part) (new : Left) (idle : IsIdle old.world) (good : Goods old.world.sessions) where
  freed : (e : Event) (a : Answer) → Step old.world now e a new.world → Frees (about e) (IsKeyOf new.world (about e)) old.world new.world
  freed e a step = frees_by old.world new.world now e a step idle good

  none_freed : (who : SessionId) → new.world ≡ old.world → Frees who (IsKeyOf new.world who) old.world new.world
  none_freed who same = frees_none who _ old.world new.world same good

  pub move_moved : (index : ℕ) → Move conf now old index part new → (x : Peer) → slice_get old.peers index ≡ Some x → (who : SessionId) → x.who ≡ who
      → Moved who old new
  move_moved index (collects m) x at who is = mover old new index m.at at is (same_peers m.who old new (freed (Collect m.who) m.answer m.step) m.peers)
  move_moved index (refuses m) x at who is =
      mover old new index m.free.at at is (one_set m.who old new (none_freed m.who m.world) index (peer m.who (Talks m.rest) m.made_for) refl m.peers)
  move_moved index (asks m) x at who is =
      mover old new index m.free.at at is (moved_then m.who old _ new index (peer m.who (Talks m.rest) m.made_for) refl refl refl
      (moved_by_ask conf now _ m.who m.ask part new m.answered idle good))
  move_moved index (shuts_client m) x at who is =
      mover old new index m.free.at at is (one_gone (Client m.client) old new (freed (Gone (Client m.client)) m.answer m.step) (Client m.client) m.peers)
  move_moved index (shuts_handler m) x at who is =
      mover old new index m.free.at at is (one_set (Handler m.key) old new (none_freed (Handler m.key) m.world) index _ refl m.peers)

  -- ---- own steps

  moved_by_end : (k : ℕ) (how : How) (payload : Option (List ℕ)) (made_for : Option Subject) → EndsBy conf now k (Ended k how payload) made_for old part new
      → Moved (Handler k) old new
  moved_by_end k how payload made_for (is_last h peers) = one_gone (Handler k) old new (freed (Ended k how payload) done h.step) (Handler k) peers
  moved_by_end k how payload made_for (is_followed h) =
      let mid : Left = record { world = old.world; peers = without (Handler k) old.peers } in
      let moved : Moved (Handler k) mid new = one_starts (Handler k) mid new (freed (Ended k how payload) (Negate k) h.step) k
      h.command.piped _ h.adds.before h.adds.after h.adds.others h.adds.peers in
      record {
        frees = moved.frees;
        peers = λ P own starts all. moved.peers P own starts (All-filter (λ x. not (same_session x.who (Handler k))) P old.peers all);
      }
  moved_by_end k how payload made_for (is_not_followed h) =
      let first = frees_step (Handler k) old.world now (Ended k how payload) (Negate k) h.mid h.first refl idle good in
      let mid_idle = idle_step old.world now (Ended k how payload) (Negate k) h.mid h.first idle in
      let second = frees_step (Handler k) h.mid now (Launched k ran.Failed) done new.world h.second refl mid_idle first.own in
      one_gone (Handler k) old new
      (frees_weaker (Handler k) _ (IsKeyOf new.world (Handler k)) old.world new.world (λ j x. elim x [ inl e ↦ inl e | inr e ↦ inl e ])
      (frees_then (Handler k) _ _ old.world h.mid new.world (spent_stays h.mid now k done new.world h.second) first second)) (Handler k) h.peers

  pub own_moved : (h : Happening) → OwnStep conf now h old part new → Moved (whose h) old new
  own_moved (happening.Accept n) (inl b) = one_come (Client n) old new (freed (Opened (Client n)) done b.0.step) _ refl b.1
  own_moved (happening.Accept n) (inr b) = same_peers (Client n) old new (freed (Opened (Client n)) _ b.1.step) b.2
  own_moved (happening.Bytes n bytes) b = one_set (Client n) old new (none_freed (Client n) b.world) b.replaces.index _ refl b.replaces.peers
  own_moved (happening.Gone n) b = one_gone (Client n) old new (freed (Gone (Client n)) done b.0.step) (Client n) b.1
  own_moved (happening.StartResult k Started) b = by_kind b.piped b.steps.step b.replaces.peers
    where
      by_kind : (p : Bool) → Step old.world now (Launched k (cond p ran.Piped ran.Plain)) done new.world
          → new.peers ≡ slice_set old.peers b.replaces.index (peer (Handler k) (cond p (Pipes []) (Talks Rattle.rk_served.specs.Streams.no_bytes)) (Some b.subject))
          → Moved (Handler k) old new
      by_kind true step peers = one_set (Handler k) old new (freed (Launched k ran.Piped) done step) b.replaces.index _ refl peers
      by_kind false step peers = one_set (Handler k) old new (freed (Launched k ran.Plain) done step) b.replaces.index _ refl peers
  own_moved (happening.StartResult k Failed) b = one_gone (Handler k) old new (freed (Launched k ran.Failed) done b.0.step) (Handler k) b.1
  own_moved (happening.HandlerBytes k bytes) b = one_set (Handler k) old new (none_freed (Handler k) b.world) b.replaces.index _ refl b.replaces.peers
  own_moved (happening.HandlerReadFault k) b = moved_by_end k _ _ _ b.ends
  own_moved (happening.HandlerEnded k how) b = moved_by_end k _ _ _ b.ends
  own_moved (happening.WaitFault k) b = moved_by_end k _ _ _ b.ends

-- ---- the queue

-- one of those that may move, or one that can't
abbrev Known : (SessionId → Type 0) → World → Peer → Type 0
Known M w x = M x.who ⊎ CannotMove w x.who x.channel

-- one of the queue, or this one
abbrev IsMoverOr : SessionId → Queue → SessionId → Type 0
IsMoverOr who q s = (s ≡ who) ⊎ IsMover q s

waits_still : (old new : World) (s : SessionId) → awaited new s ≡ awaited old s → has_wait old s ≡ true → has_wait new s ≡ true
waits_still old new s same h = waits_for (wait_of new.sessions s) ∙ ap is_some same ∙ sym (waits_for (wait_of old.sessions s)) ∙ h

-- nobody has two, so what holds of its peer holds of each that is its own
alone : (P : Peer → Type 0) (who : SessionId) (xs : List Peer) → are_apart xs ≡ true → MatchOption (peer_of xs who) (Unit {0}) P
    → All (λ x. x.who ≡ who → P x) xs
alone P who xs apart h i d within is =
    let x = get_or xs i d in
    MatchOption-at_some _ P x (ap (peer_of xs) (sym is) ∙ at_place xs i x apart (slice_get-get_or xs i d within)) h

-- the queue knows this one
module _ (who : SessionId) (left : Left) (q : Queue) where
  expects_known : (x : Peer) → x.who ≡ who → Expects left.world who q → Known (IsMover q) left.world x
  expects_known x is e = inr (subst (λ (s : SessionId). CannotMove left.world s x.channel) (sym is) (by_channel x.channel))
    where
      by_channel : (p : Channel) → CannotMove left.world who p
      by_channel (Talks u) = (e.not_ready, inl (waits_for (wait_of left.world.sessions who) ∙ ap is_some e.awaits))
      by_channel _ = tt

  -- so it may move, or can't
  itself_known : are_apart left.peers ≡ true → Knows left who q → All (λ x. x.who ≡ who → Known (IsMover q) left.world x) left.peers
  itself_known apart (inl m) i d within is = inl (subst (IsMover q) (sym is) m)
  itself_known apart (inr (inl e)) i d within is = expects_known (get_or left.peers i d) is e
  itself_known apart (inr (inr r)) i d within is = inr (alone (λ x. CannotMove left.world x.who x.channel) who left.peers apart r.rests i d within is)

  -- and where it waits it is known
  itself_waits : (k : ℕ) (s : SessionId) → s ≡ who → awaited left.world s ≡ Some k → Knows left who q → IsMover q s ⊎ IsWaiter q k s
  itself_waits k s is on itself = subst (λ (t : SessionId). IsMover q t ⊎ IsWaiter q k t) (sym is) (elim itself [
    | inl m ↦ inl m
    | inr e ↦ elim e [
      | inl x ↦ inr (subst (λ (j : ℕ). IsWaiter q j who) (same_key x) x.known)
      | inr r ↦ absurd (none_key r)
    ]
  ])
    where
      same_key : (x : Expects left.world who q) → x.key ≡ k
      same_key x = let e = sym x.awaits ∙ ap (awaited left.world) (sym is) ∙ on in cc

      none_key : HasDone left who → ⊥
      none_key r = let e = sym r.no_wait ∙ ap (awaited left.world) (sym is) ∙ on in cc

  -- with what is known of the others, all are known
  all_known : are_apart left.peers ≡ true → Knows left who q → All (λ x. (x.who ≡ who) ⊎ Known (IsMover q) left.world x) left.peers
      → All (Known (IsMover q) left.world) left.peers
  all_known apart itself others i d within = elim (others i d within) [
    | inl is ↦ itself_known apart itself i d within is
    | inr h ↦ h
  ]

-- who was stirred has moved: the queue knows all again
pub watched_on : (who : SessionId) (old new : Left) (q q' : Queue) → are_apart new.peers ≡ true → Moved who old new → IsWatchedBut who q old
    → Stirs new who q q' → IsWatched q' new
watched_on who old new q q' apart m w stirs = record {
  movers = all_known who new q' apart stirs.itself
      (m.peers (λ x. (x.who ≡ who) ⊎ Known (IsMover q') new.world x) (λ x is. inl is) (λ k piped made_for. inr (inr tt))
      (λ i d within. one_mover _ _ (w.movers i d within)));
  waiters = λ k s on. one_waiter k s on (same_session who s) refl;
  own = m.frees.own;
}
  where
    is_apart : (s : SessionId) → same_session who s ≡ false → s ≡ who → ⊥
    is_apart s other is = let e = ap (same_session who) is ∙ same-self who in cc

    mover : (s : SessionId) → same_session who s ≡ false → (s ≡ who) ⊎ IsMover q s → IsMover q' s
    mover s other (inl is) = absurd (is_apart s other is)
    mover s other (inr h) = stirs.movers s h

    woken_mover : (s : SessionId) (k : ℕ) → same_session who s ≡ false → awaited old.world s ≡ Some k → IsKeyOf new.world who k
        → unspent new.world.sessions k ≡ None → IsMover q' s
    woken_mover s k other on key spent = elim (w.waiters k s on) [
      | inl h ↦ mover s other h
      | inr h ↦ stirs.woken k key spent s h
    ]

    idle_still : (s : SessionId) (u : Rattle.rk_served.specs.Unused.Unused) → same_session who s ≡ false → CannotMove old.world s (Talks u) → (b : Bool)
        → is_ready new.world s ≡ b → IsMover q' s ⊎ CannotMove new.world s (Talks u)
    idle_still s u other h false r = inr (r, elim h.1 [ inl e ↦ inl (waits_still old.world new.world s (m.frees.waits s other) e) | inr e ↦ inr e ])
    idle_still s u other h true r = elim (m.frees.ready s other r) [
      | inl e ↦ absurd (let f = h.0 in cc)
      | inr x ↦ inl (woken_mover s x.0 other x.1 x.2 x.3)
    ]

    apart_mover : (s : SessionId) (p : Channel) → CannotMove old.world s p → same_session who s ≡ false → IsMover q' s ⊎ CannotMove new.world s p
    apart_mover s (Talks u) h other = idle_still s u other h (is_ready new.world s) refl
    apart_mover s _ h other = inr tt

    by_session : (s : SessionId) (p : Channel) → CannotMove old.world s p → (b : Bool) → same_session who s ≡ b
        → (s ≡ who) ⊎ (IsMover q' s ⊎ CannotMove new.world s p)
    by_session s p h true same = inl (sym (same-true who s same))
    by_session s p h false other = inr (apart_mover s p h other)

    one_mover : (s : SessionId) (p : Channel) → ((s ≡ who) ⊎ IsMover q s) ⊎ CannotMove old.world s p → (s ≡ who) ⊎ (IsMover q' s ⊎ CannotMove new.world s p)
    one_mover s p (inl (inl is)) = inl is
    one_mover s p (inl (inr h)) = inr (inl (stirs.movers s h))
    one_mover s p (inr h) = by_session s p h (same_session who s) refl

    one_waiter : (k : ℕ) (s : SessionId) → awaited new.world s ≡ Some k → (b : Bool) → same_session who s ≡ b → IsMover q' s ⊎ IsWaiter q' k s
    one_waiter k s on true same = itself_waits who new q' k s (sym (same-true who s same)) on stirs.itself
    one_waiter k s on false other = elim (w.waiters k s (sym (m.frees.waits s other) ∙ on)) [
      | inl h ↦ inl (mover s other h)
      | inr h ↦ stirs.known k s h
    ]

same_waiters : (q q' : Queue) → q'.waiting ≡ q.waiting → (k : ℕ) (s : SessionId) → IsWaiter q k s → IsWaiter q' k s
same_waiters q q' same k s h = subst (λ (t : Stored (Vec (Reverse SessionId))). Contains (waiters_at t.facts k) (reversed s)) (sym same) h

-- others know as much
knows_more : (M M' : SessionId → Type 0) (W W' : ℕ → SessionId → Type 0) (left : Left) → ((s : SessionId) → M s → M' s)
    → ((k : ℕ) (s : SessionId) → W k s → W' k s) → Watches M W left → Watches M' W' left
knows_more M M' W W' left movers waiters w = record {
  movers = λ i d within. elim (w.movers i d within) [ inl e ↦ inl (movers _ e) | inr e ↦ inr e ];
  waiters = λ k s on. elim (w.waiters k s on) [ inl e ↦ inl (movers s e) | inr e ↦ inr (waiters k s e) ];
  own = w.own;
}

-- none was there to be taken out
pub emptied : (q q' : Queue) (left left' : Left) → left' ≡ left → IsWatched q left → ((s : SessionId) → IsMover q s → ⊥) → ((s : SessionId) → IsMover q' s → ⊥)
    → q'.waiting ≡ q.waiting → IsStill q' left'
emptied q q' left left' is w none still_none waiting =
    subst (IsStill q') (sym is)
    (record {
      watched = knows_more (IsMover q) (IsMover q') (IsWaiter q) (IsWaiter q') left (λ s e. absurd (none s e)) (same_waiters q q' waiting) w;
      none = still_none;
    })

-- one was taken out
pub watched_popped : (who : SessionId) (q q' : Queue) (left : Left) → IsWatched q left → ((s : SessionId) → IsMover q s → (s ≡ who) ⊎ IsMover q' s)
    → q'.waiting ≡ q.waiting → IsWatchedBut who q' left
watched_popped who q q' left w others same = knows_more (IsMover q) _ (IsWaiter q) (IsWaiter q') left others (same_waiters q q' same) w

-- ---- one that can't move

-- if the one who was taken out can't move, and is put among those who wait, the queue knows all
pub watched_parked : (who : SessionId) (q q' : Queue) (left : Left) → are_apart left.peers ≡ true → IsWatchedBut who q left
    → MatchOption (peer_of left.peers who) (Unit {0}) (λ x. CannotMove left.world x.who x.channel) → Parks left.world who q q' → IsWatched q' left
watched_parked who q q' left apart w rests parks = record {
  movers = λ i d within. one (get_or left.peers i d) (w.movers i d within) (alone (λ x. CannotMove left.world x.who x.channel) who left.peers apart rests i d within);
  waiters = λ k s on. elim (w.waiters k s on) [
    | inl e ↦ elim e [ inl is ↦ inr (subst (IsWaiter q' k) (sym is) (parks.itself k (ap (awaited left.world) (sym is) ∙ on))) | inr m ↦ inl (parks.movers s m) ]
    | inr e ↦ inr (parks.waiters k s e)
  ];
  own = w.own;
}
  where
    one : (x : Peer) → Known (IsMoverOr who q) left.world x → (x.who ≡ who → CannotMove left.world x.who x.channel) → Known (IsMover q') left.world x
    one x (inl (inl is)) own = inr (own is)
    one x (inl (inr m)) own = inl (parks.movers x.who m)
    one x (inr e) own = inr e

-- ---- at rest, and who is first

-- if the queue knows all who may move, and has none, no session can move
pub at_rest : (q : Queue) (left : Left) → IsWatched q left → ((s : SessionId) → IsMover q s → ⊥) → IsAtRest left
at_rest q left w none i d within = elim (w.movers i d within) [ inl e ↦ absurd (none _ e) | inr e ↦ e ]

first_of_all : (who : SessionId) (q : Queue) (left : Left) → IsWatchedBut who q left → ((s : SessionId) → IsMover q s → comes_before s who ≡ false)
    → All (λ x. comes_before x.who who ≡ true → CannotMove left.world x.who x.channel) left.peers
first_of_all who q left w first i d within = one (get_or left.peers i d) (w.movers i d within)
  where
    one : (x : Peer) → Known (IsMoverOr who q) left.world x → comes_before x.who who ≡ true → CannotMove left.world x.who x.channel
    one x (inl (inl is)) before = absurd (let f : comes_before x.who who ≡ false = ap (λ s. comes_before s who) is ∙ before_self who in cc)
    one x (inl (inr m)) before = absurd (let f = first x.who m in cc)
    one x (inr e) before = e

-- ---- one try

pub tried_by : (conf : List Line) (now i : ℕ) (who : SessionId) (old new : Left) (put put' : List Output) (x : Peer) → slice_get old.peers i ≡ Some x → x.who ≡ who
    → peer_of old.peers who ≡ Some x → (b : Bool) → TriesAt conf now i b old put new put'
    → MatchBool b (MovesBy conf now who old put new put') ((new ≡ old) × (put' ≡ put) × RestsBy who old)
tried_by conf now i who old new put put' x at is found true h = record { index = i; mover = x; at = at; who_is = is; one = h }
tried_by conf now i who old new put put' x at is found false h = (
  h.0,
  h.1,
  subst (λ (o : Option Peer). MatchOption o (Unit {0}) (λ z. CannotMove old.world z.who z.channel)) (sym found) (MatchOption-at_some _ _ x at h.2),
)

-- the first one that may move has moved
pub moves_first : (conf : List Line) (now : ℕ) (who : SessionId) (q : Queue) (old new : Left) (put put' : List Output) → MovesBy conf now who old put new put'
    → IsWatchedBut who q old → ((s : SessionId) → IsMover q s → comes_before s who ≡ false) → MovesNext conf now old put new put'
moves_first conf now who q old new put put' h w first = record {
  part = h.one.part;
  first = record {
    index = h.index;
    mover = h.mover;
    at = h.at;
    first = subst (λ (s : SessionId). All (λ x. comes_before x.who s ≡ true → CannotMove old.world x.who x.channel) old.peers) (sym h.who_is)
        (first_of_all who q old w first);
    move = h.one.move;
  };
  outputs = h.one.outputs;
}

-- all that it takes to go on after a move
pub watched_after : (conf : List Line) (now : ℕ) (who : SessionId) (q q' : Queue) (old new : Left) (put put' : List Output)
    → MovesBy conf now who old put new put' → HasItsPeers old → IsWatchedBut who q old → Stirs new who q q' → IsWatched q' new
watched_after conf now who q q' old new put put' h s w stirs =
    watched_on who old new q q' (move_keeps_peers conf now old h.index h.one.part new h.one.move s).apart
    (move_moved conf now old h.one.part new (fits old s).idle w.own h.index h.one.move h.mover h.at who h.who_is) w stirs

-- bytes change nothing but the stream of him to whom they came
watched_lengthened : (who : SessionId) (more : List ℕ) (old : Left) (part : Part) (new : Left) (q q' : Queue) → are_apart new.peers ≡ true
    → Lengthens who more old part new → IsWatched q old → PutsBack new who q q' → IsWatched q' new
watched_lengthened who more old part new q q' apart b w back = record {
  movers = all_known who new q' apart back.itself
      (subst (All Other) (sym b.replaces.peers) (All-set Other old.peers b.replaces.index (peer who (channel_with more b.channel) b.made_for) (inl refl)
      (λ i d within. inr (others.movers i d within))));
  waiters = others.waiters;
  own = others.own;
}
  where
    Other : Peer → Type 0
    Other x = (x.who ≡ who) ⊎ Known (IsMover q') new.world x

    others : IsWatched q' (record { world = new.world; peers = old.peers })
    others =
        subst (λ (v : World). IsWatched q' (record { world = v; peers = old.peers })) (sym b.world)
        (knows_more (IsMover q) (IsMover q') (IsWaiter q) (IsWaiter q') old back.movers back.waiters w)

-- after any other own step
watched_stirred : (conf : List Line) (now : ℕ) (happens : Happening) (old new : Left) (part : Part) (q q' : Queue) → are_apart new.peers ≡ true
    → OwnStep conf now happens old part new → HasItsPeers old → IsStill q old → Stirs new (whose happens) q q' → IsWatched q' new
watched_stirred conf now happens old new part q q' apart b s still stirs =
    watched_on (whose happens) old new q q' apart (own_moved conf now old part new (fits old s).idle still.watched.own happens b)
    (knows_more (IsMover q) _ (IsWaiter q) (IsWaiter q) old (λ s e. inr e) (λ k s e. e) still.watched) stirs

-- and after any
pub watched_begun : (conf : List Line) (now : ℕ) (happens : Happening) (old new : Left) (part : Part) (q q' : Queue) → are_apart new.peers ≡ true
    → OwnStep conf now happens old part new → HasItsPeers old → IsStill q old → StirsBy new happens q q' → IsWatched q' new
watched_begun conf now (happening.Bytes n bytes) old new part q q' apart b s still by =
    watched_lengthened (Client n) bytes old part new q q' apart b still.watched by
watched_begun conf now (happening.HandlerBytes k bytes) old new part q q' apart b s still by =
    watched_lengthened (Handler k) bytes old part new q q' apart b still.watched by
watched_begun conf now (happening.Accept n) old new part q q' apart b s still by =
    watched_stirred conf now (happening.Accept n) old new part q q' apart b s still by
watched_begun conf now (happening.Gone n) old new part q q' apart b s still by =
    watched_stirred conf now (happening.Gone n) old new part q q' apart b s still by
watched_begun conf now (happening.StartResult k started) old new part q q' apart b s still by =
    watched_stirred conf now (happening.StartResult k started) old new part q q' apart b s still by
watched_begun conf now (happening.HandlerReadFault k) old new part q q' apart b s still by =
    watched_stirred conf now (happening.HandlerReadFault k) old new part q q' apart b s still by
watched_begun conf now (happening.HandlerEnded k how) old new part q q' apart b s still by =
    watched_stirred conf now (happening.HandlerEnded k how) old new part q q' apart b s still by
watched_begun conf now (happening.WaitFault k) old new part q q' apart b s still by =
    watched_stirred conf now (happening.WaitFault k) old new part q q' apart b s still by

-- ---- who is stirred

-- one is put among those who may move, if memory is there
pub back_pushed : {X E : Type 0} (r : Result X E) (left : Left) (who : SessionId) (q q' : Queue) → OnOk r (IsMover q' who) → OnOk r (KeepsMovers q q')
    → q'.waiting ≡ q.waiting → OnOk r (PutsBack left who q q')
back_pushed (Ok x) left who q q' itself movers same = record { itself = inl itself; movers = movers; waiters = same_waiters q q' same }
back_pushed (Err e) left who q q' itself movers same = tt

-- or among those who wait
pub back_parked : {X E : Type 0} (r : Result X E) (left : Left) (who : SessionId) (k : ℕ) (q q' : Queue) → awaited left.world who ≡ Some k
    → is_ready left.world who ≡ false → OnOk r (IsWaiter q' k who) → q'.movers ≡ q.movers → OnOk r (KeepsWaiters q q') → OnOk r (PutsBack left who q q')
back_parked (Ok x) left who k q q' awaits idle known same waiters = record {
  itself = inr (inl (record { key = k; awaits = awaits; not_ready = idle; known = known }));
  movers = λ s h. subst (λ (xs : List (Reverse SessionId)). Contains xs (reversed s)) (sym (ap heap_items same)) h;
  waiters = waiters;
}
back_parked (Err e) left who k q q' awaits idle known same waiters = tt

-- or nowhere
pub back_done : (left : Left) (who : SessionId) (q : Queue) → awaited left.world who ≡ None → RestsBy who left → PutsBack left who q q
back_done left who q none rests = record { itself = inr (inr (record { no_wait = none; rests = rests })); movers = λ s h. h; waiters = λ k s h. h }

-- those who wait for its own key or for the key on which it waits are stirred, and it is put back
pub stirred : (left : Left) (who : SessionId) (q0 q1 q2 q3 : Queue) → Wakes left.world (own_key who) q0 q1 → Wakes left.world (awaited left.world who) q1 q2
    → PutsBack left who q2 q3 → Stirs left who q0 q3
stirred left who q0 q1 q2 q3 own other back = record {
  itself = back.itself;
  movers = λ s h. after_own s (own.movers s h);
  known = λ k s h. elim (own.known k s h) [
    | inl m ↦ inl (after_own s m)
    | inr x ↦ elim (other.known k s x) [ inl m ↦ inl (back.movers s m) | inr y ↦ inr (back.waiters k s y) ]
  ];
  woken = λ k key spent s h. elim key [
    | inl is ↦ after_own s (own.woken k (ap own_key is) spent s h)
    | inr is ↦ elim (own.known k s h) [ inl m ↦ after_own s m | inr x ↦ back.movers s (other.woken k is spent s x) ]
  ];
}
  where
    after_own : (s : SessionId) → IsMover q1 s → IsMover q3 s
    after_own s m = back.movers s (other.movers s m)

-- for no key nobody is woken
pub none_woken : (w : World) (q : Queue) → Wakes w None q q
none_woken w q = record {
  movers = λ s h. h;
  known = λ k s h. inr h;
  woken = λ k key spent s h. absurd (let e : ◌≡◌ {A = Option ℕ} None (Some k) = key in cc);
}

-- ---- at the beginning

none_awaited : (from : Beginning) (s : SessionId) → awaited (nothing from).world s ≡ None
none_awaited from (Client n) =
    ap (λ (o : Option Session). option_map (λ (v : Wait). v.key) (option_and_then (λ (one : Session). one.wait) o)) (get-empty nat_cmp n)
none_awaited from (Handler k) = no_handler (nothing from).world k (ap kind_in (get-empty nat_cmp k))

-- before anything happens nobody may move
pub nothing_still : (from : Beginning) (q : Queue) → ((s : SessionId) → IsMover q s → ⊥) → IsStill q (nothing from)
nothing_still from q none = record {
  watched = record {
    movers = All-nil _;
    waiters = λ k s on. absurd (let e : ◌≡◌ {A = Option ℕ} None (Some k) = sym (none_awaited from s) ∙ on in cc);
    own = λ k x j is own. absurd (let e : ◌≡◌ {A = Option Shape} None (Some x) = sym (ap (option_map shape) (get-empty nat_cmp k)) ∙ is in cc);
  };
  none = none;
}
