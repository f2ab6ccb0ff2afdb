-- In every run a construction starts in the context of its first requester, who said HELLO.
use Rattle.rk_machine.proofs.Words.{option_map_or, nat_cmp, Option, Some, None, nat_eq, option_map, option_and_then, ◌≡◌, ℕ, Bool, true, false, cond, refl, ap}
use Rattle.rk_machine.proofs.Words.{◌∙◌, sym, ◌⊎◌, ◌&&◌, inl, inr, subst, List, [], ◌∷◌, eq-eqb, Context, SessionId, Client, Handler, Subject, Ask, Ring}
use Rattle.rk_machine.proofs.Words.{RingKind, unspent, Authority, Construction, Session, Asker, asker_of, Event, is_done, Root, goes, starter_in, hello_in}
use Rattle.rk_machine.proofs.Words.{root_of, holds, HasRoot, Rooted, EachRooted, subject_of, Query, Past, Beginning, Run, World, empty_world, Answer, Start}
use Rattle.rk_machine.proofs.Words.{Asked, none_some, some_same, was_some}
use Rattle.std.specs.FinMap as map
use Rattle.rk_rings.specs.declared.kind.RingKind.TheVariants as kind
use Rattle.rk_machine.proofs.Effects.KindsOfStep.{effect}
use Rattle.rk_machine.proofs.Effects.DrawnSerials.{is_drawn}
use Rattle.rk_machine.proofs.Effects.SerialsStayDrawn.{KeepsDrawn, keeps_drawn}
use Rattle.rk_machine.proofs.Effects.OfOneConstruction.{Goods}
use Rattle.rk_machine.proofs.OneConstruction.EachOnce.{clash, knows}
use Rattle.rk_machine.proofs.Effects.RingsAfter.{kind_at, is_users_kind}
use Rattle.rk_machine.proofs.Effects.ContextsAfter.{context_at}
use Rattle.rk_machine.proofs.Effects.WhoActs.{client_acts, handler_acts}
use Rattle.rk_machine.proofs.Effects.HelloMakesRings.{Has, its_thread, its_process, its_session, Made}
use Rattle.rk_machine.proofs.Effects.OfContextsAndRings.{root_in, IsCalm, NoStart, goes_in, Move, rests, one_starts, one_comes, one_goes, move, calm_asked}
use Rattle.rk_machine.proofs.FirstRequester.WhoHoldsRings.{Held, held_same, held_comes, held_goes}
use Rattle.rk_machine.proofs.FirstRequester.RingsShown.{has_ring, holds_in, Fits, client_fits, fits_on, shows_ring, shows_some}

-- what the list tells of clients, rings and authorities is what the world has
pub record KnowsRoots (past : List Past) (w : World) : Type 0 where
  pub held : Held w
  pub rooted : (n : ℕ) (c : Context) → context_at w.sessions n ≡ Some c → root_of past (Client n) ≡ Some (root_in c)
  pub holders : (n ring : ℕ) → holds n ring past ≡ holds_in (context_at w.sessions n) ring
  pub authorities : (k : ℕ) (one : Authority) → unspent w.sessions k ≡ Some one → (root_of past (Handler k) ≡ Some (root_in one.context)) × Fits w one.context

-- ---- the list's side

module _ (s : Past) (before : List Past) where
  root_later : (k : ℕ) (o : Option SessionId) → starter_in k s.event s.answer ≡ o
      → root_of (s ∷ before) (Handler k) ≡ option_map_or (λ t. root_of before t) o (root_of before (Handler k))
  root_later k o is = ap (λ v. option_map_or (λ t. root_of before t) v (root_of before (Handler k))) is

  root_client : (n : ℕ) (o : Option Root) → hello_in n s.event s.answer ≡ o
      → root_of (s ∷ before) (Client n) ≡ option_map_or (λ r. Some r) o (root_of before (Client n))
  root_client n o is = ap (λ v. option_map_or (λ r. Some r) v (root_of before (Client n))) is

  holds_after : (n ring : ℕ) (gone : Bool) (o : Option Root) → (is_done s.answer && goes s.event (Client n)) ≡ gone → hello_in n s.event s.answer ≡ o
      → holds n ring (s ∷ before) ≡ cond gone false (option_map_or (λ r. has_ring r ring) o (holds n ring before))
  holds_after n ring gone o over is = (λ i. cond (over i) false (option_map_or (λ r. has_ring r ring) (is i) (holds n ring before)))

-- ---- who asks

asker_root : (past : List Past) (w : World) (t : SessionId) (asker : Asker) → Goods w.sessions → KnowsRoots past w → asker_of w t ≡ Some asker
    → (root_of past t ≡ Some (root_in asker.context)) × Fits w asker.context
asker_root past w (Client n) asker good known is =
    let own = (client_acts w n asker is).0 in
    (known.rooted n asker.context own, client_fits w n asker.context known.held own)
asker_root past w (Handler j) asker good known is =
    let by = handler_acts w j asker good is in
    subst (λ (c : Context). (root_of past (Handler j) ≡ Some (root_in c)) × Fits w c) (sym by.2) (known.authorities j by.0 by.1)

-- ---- each step

module _ (old : World) (s : Past) (new : World) (before : List Past) (good : Goods old.sessions) (keeps : KeepsDrawn old new)
    (known : KnowsRoots before old) where
  -- an authority that was there keeps its root, where no start is of its key
  still_rooted : (k : ℕ) (one : Authority) → starter_in k s.event s.answer ≡ None
      → ((r : ℕ) (j : RingKind) → is_drawn old r ≡ true → kind_at new r ≡ Some j → kind_at old r ≡ Some j)
      → unspent old.sessions k ≡ Some one → (root_of (s ∷ before) (Handler k) ≡ Some (root_in one.context)) × Fits new one.context
  still_rooted k one none fewer is =
      let was = known.authorities k one is in
      (root_later s before k None none ∙ was.0, fits_on old new one.context keeps fewer was.1)

  clients_rest : ((n : ℕ) → hello_in n s.event s.answer ≡ None) → ((n : ℕ) → context_at new.sessions n ≡ context_at old.sessions n)
      → (n : ℕ) (c : Context) → context_at new.sessions n ≡ Some c → root_of (s ∷ before) (Client n) ≡ Some (root_in c)
  clients_rest hello contexts n c is = root_client s before n None (hello n) ∙ known.rooted n c (sym (contexts n) ∙ is)

  holders_rest : IsCalm s.event s.answer → ((n : ℕ) → context_at new.sessions n ≡ context_at old.sessions n) → (n ring : ℕ)
      → holds n ring (s ∷ before) ≡ holds_in (context_at new.sessions n) ring
  holders_rest quiet contexts n ring =
      holds_after s before n ring false None (quiet.gone n) (quiet.hello n) ∙ known.holders n ring ∙ ap (λ o. holds_in o ring) (sym (contexts n))

  -- an authority that comes has its asker's context
  begun_rooted : (t : SessionId) (q : ℕ) (x : Ask) (asker : Asker) (subject : Subject) (authority : Authority) → s.event ≡ Asked t x
      → s.answer ≡ Start q subject → asker_of old t ≡ Some asker
      → authority.context ≡ asker.context → ((r : ℕ) (j : RingKind) → is_drawn old r ≡ true → kind_at new r ≡ Some j → kind_at old r ≡ Some j)
      → (k : ℕ) (one : Authority) (b : Bool) → nat_eq q k ≡ b → cond b (Some authority) (unspent old.sessions k) ≡ Some one
      → (root_of (s ∷ before) (Handler k) ≡ Some (root_in one.context)) × Fits new one.context
  begun_rooted t q x asker subject authority ev ra is same fewer k one true at own =
      let by = asker_root before old t asker good known is in
      let context : asker.context ≡ one.context = sym same ∙ ap (λ (a : Authority). a.context) (some_same own) in (
        root_later s before k (Some t) ((λ i. starter_in k (ev i) (ra i)) ∙ ap (λ b. cond b (Some t) None) at) ∙ by.0
            ∙ ap (λ (c : Context). Some (root_in c)) context,
        fits_on old new one.context keeps fewer (subst (λ (c : Context). Fits old c) context by.1),
      )
  begun_rooted t q x asker subject authority ev ra is same fewer k one false at own =
      still_rooted k one ((λ i. starter_in k (ev i) (ra i)) ∙ ap (λ b. cond b (Some t) None) at) fewer own

  -- the client that said HELLO has the root that it got, and the others theirs
  clients_come : (n : ℕ) (c : Context) → ((m : ℕ) → hello_in m s.event s.answer ≡ cond (nat_eq n m) (Some (root_in c)) None)
      → (m : ℕ) (d : Context) (b : Bool) → nat_eq n m ≡ b → cond b (Some c) (context_at old.sessions m) ≡ Some d
      → root_of (s ∷ before) (Client m) ≡ Some (root_in d)
  clients_come n c hello m d true at is =
      root_client s before m (Some (root_in c)) (hello m ∙ ap (λ b. cond b (Some (root_in c)) None) at) ∙ ap (λ (x : Context). Some (root_in x)) (some_same is)
  clients_come n c hello m d false at is = root_client s before m None (hello m ∙ ap (λ b. cond b (Some (root_in c)) None) at) ∙ known.rooted m d is

  holders_come : (n : ℕ) (c : Context) → ((m : ℕ) → hello_in m s.event s.answer ≡ cond (nat_eq n m) (Some (root_in c)) None)
      → ((m : ℕ) → (is_done s.answer && goes s.event (Client m)) ≡ false)
      → (m ring : ℕ) (b : Bool) → nat_eq n m ≡ b → holds m ring (s ∷ before) ≡ holds_in (cond b (Some c) (context_at old.sessions m)) ring
  holders_come n c hello gone m ring true at =
      holds_after s before m ring false (Some (root_in c)) (gone m) (hello m ∙ ap (λ b. cond b (Some (root_in c)) None) at)
  holders_come n c hello gone m ring false at =
      holds_after s before m ring false None (gone m) (hello m ∙ ap (λ b. cond b (Some (root_in c)) None) at) ∙ known.holders m ring

  -- a ring of old comes under no serial again
  not_again : (c : Context) → Made c old new → (r : ℕ) (k : RingKind) → is_drawn old r ≡ true → kind_at new r ≡ Some k → kind_at old r ≡ Some k
  not_again c made r k drawn is = by_origin (made.grown.made r k is)
    where
      by_origin : (kind_at old r ≡ Some k) ⊎ ((is_drawn old r ≡ false) × ((is_users_kind k ≡ true) ⊎ Has c r k)) → kind_at old r ≡ Some k
      by_origin (inl was) = was
      by_origin (inr comes) = absurd (clash _ comes.0 drawn)

  clients_go : (n m : ℕ) (d : Context) (b : Bool) → ((m : ℕ) → hello_in m s.event s.answer ≡ None) → cond b None (context_at old.sessions m) ≡ Some d
      → root_of (s ∷ before) (Client m) ≡ Some (root_in d)
  clients_go n m d true hello is = absurd (none_some is)
  clients_go n m d false hello is = root_client s before m None (hello m) ∙ known.rooted m d is

  holders_go : (n m ring : ℕ) (b : Bool) → (is_done s.answer && goes s.event (Client m)) ≡ b → hello_in m s.event s.answer ≡ None
      → holds m ring (s ∷ before) ≡ holds_in (cond b None (context_at old.sessions m)) ring
  holders_go n m ring true over hello = holds_after s before m ring true None over hello
  holders_go n m ring false over hello = holds_after s before m ring false None over hello ∙ known.holders m ring

  roots_after : Move old s.event s.answer new → KnowsRoots (s ∷ before) new
  roots_after (rests quiet none rings contexts authorities) = record {
    held = held_same old new rings contexts keeps known.held;
    rooted = clients_rest quiet.hello contexts;
    holders = holders_rest quiet contexts;
    authorities = λ k one is. still_rooted k one (none k) (λ r j drawn at. sym (rings r) ∙ at) (authorities k one is);
  }
  roots_after (one_starts t x asker q query callout authority ev ra is low same context depth rings contexts issued) =
      let quiet : IsCalm s.event s.answer = calm_asked s.event s.answer _ t x ev ra refl in
      record {
        held = held_same old new rings contexts keeps known.held;
        rooted = clients_rest quiet.hello contexts;
        holders = holders_rest quiet contexts;
        authorities = λ k one at.
            begun_rooted t q x asker (subject_of old q query callout) authority ev ra is context (λ r j drawn here. sym (rings r) ∙ here) k one
            (nat_eq q k) refl (sym (issued k) ∙ at);
      }
  roots_after (one_comes n c hello gone none fresh contexts made authorities) = record {
    held = held_comes old new n c fresh contexts (made known.held.sound) known.held;
    rooted = λ m d is. clients_come n c hello m d (nat_eq n m) refl (sym (contexts m) ∙ is);
    holders = λ m ring. holders_come n c hello gone m ring (nat_eq n m) refl ∙ ap (λ o. holds_in o ring) (sym (contexts m));
    authorities = λ k one is. still_rooted k one (none k) (not_again c (made known.held.sound)) (authorities k one is);
  }
  roots_after (one_goes n hello gone none contexts rings authorities) = record {
    held = held_goes old new n contexts rings keeps known.held;
    rooted = λ m d is. clients_go n m d (nat_eq n m) hello (sym (contexts m) ∙ is);
    holders = λ m ring. holders_go n m ring (nat_eq n m) (gone m) (hello m) ∙ ap (λ o. holds_in o ring) (sym (contexts m));
    authorities =
        λ k one is. still_rooted k one (none k) (λ r j drawn at. was_some (goes_in old n r) (kind_at old r) j (sym (rings r) ∙ at)) (authorities k one is);
  }

  -- ---- the law

  has_root : (q : Query) (k : ℕ) (callout : List ℕ) → Fits old q.context → HasRoot (subject_of old k q callout) (root_in q.context) before
  has_root q k callout fits = record {
    uid = refl;
    gid = refl;
    thread = shows_some before old known.held known.holders q.context.thread (λ r is. fits r kind.Thread (its_thread refl is));
    process = shows_some before old known.held known.holders q.context.process (λ r is. fits r kind.Process (its_process refl is));
    session = shows_ring before old known.held known.holders q.context.session (fits q.context.session kind.Session (its_session refl refl));
  }

  no_start : NoStart s.event s.answer → (t : SessionId) (x : Ask) (k : ℕ) (subject : Subject) → s.event ≡ Asked t x → s.answer ≡ Start k subject → ⊥
  no_start none t x k subject ev ra =
      none_some (sym (none k) ∙ (λ i. starter_in k (ev i) (ra i)) ∙ ap (λ b. cond b (Some t) None) (eq-eqb k k refl))

  rooted_in : Move old s.event s.answer new → Rooted s before
  rooted_in (rests quiet none rings contexts authorities) t x k subject ev ra = absurd (no_start none t x k subject ev ra)
  rooted_in (one_comes n c hello gone none fresh contexts made authorities) t x k subject ev ra = absurd (no_start none t x k subject ev ra)
  rooted_in (one_goes n hello gone none contexts rings authorities) t x k subject ev ra = absurd (no_start none t x k subject ev ra)
  rooted_in (one_starts u y asker q query callout authority asks answer is low same context depth rings contexts issued) t x k subject ev ra =
      let by = asker_root before old u asker good known is in
      let who : u ≡ t = same_asker (sym asks ∙ ev) in
      let what : subject_of old q query callout ≡ subject = same_subject (sym answer ∙ ra) in (
        root_in query.context,
        ap (root_of before) (sym who) ∙ by.0 ∙ ap (λ (c : Context). Some (root_in c)) (sym same),
        subst (λ (z : Subject). HasRoot z (root_in query.context) before) what (has_root query q callout (subst (λ (c : Context). Fits old c) (sym same) by.1)),
      )
    where
      same_asker : {u t : SessionId} {y x : Ask} → ◌≡◌ {A = Event} (Asked u y) (Asked t x) → u ≡ t
      same_asker e = cc

      same_subject : {q k : ℕ} {a b : Subject} → ◌≡◌ {A = Answer} (Start q a) (Start k b) → a ≡ b
      same_subject e = cc

-- ---- every run

nothing_known : (from : Beginning) → KnowsRoots [] (empty_world from.negative from.first from.stride)
nothing_known from = record {
  held = record {
    sound = record { zero = no_ring 0; drawn = λ r is. no_ring r };
    lives = λ n c is. absurd (none_some (sym (no_client n) ∙ is));
    alone = λ m n c d r one two share. absurd (none_some (sym (no_client m) ∙ one));
    kept = λ r k is users. absurd (none_some (sym (no_ring r) ∙ is));
  };
  rooted = λ n c is. absurd (none_some (sym (no_client n) ∙ is));
  holders = λ n ring. ap (λ o. holds_in o ring) (sym (no_client n));
  authorities = λ k one is. absurd (none_some (sym (ap (option_and_then (λ (c : Construction). c.authority)) (map.get-empty nat_cmp k)) ∙ is));
}
  where
    no_ring : (r : ℕ) → kind_at (empty_world from.negative from.first from.stride) r ≡ None
    no_ring r = ap (option_map (λ (x : Ring). x.kind)) (map.get-empty nat_cmp r)

    no_client : (n : ℕ) → context_at (empty_world from.negative from.first from.stride).sessions n ≡ None
    no_client n = ap (option_and_then (λ (one : Session). one.context)) (map.get-empty nat_cmp n)

roots_known : (from : Beginning) (past : List Past) (w : World) → Run from past w → KnowsRoots past w
roots_known from [] w run = subst (λ (v : World). KnowsRoots [] v) (sym run) (nothing_known from)
roots_known from (s ∷ before) w run =
    let known = roots_known from before run.0 run.1 in
    let is = effect run.0 s.now s.event s.answer w run.2 in
    roots_after run.0 s w before (knows from before run.0 run.1).0 (keeps_drawn run.0 s.now s.event s.answer w is) known
    (move run.0 s.now s.event s.answer w is)

-- each start has the context of its root
pub each_rooted : (from : Beginning) (past : List Past) (w : World) → Run from past w → EachRooted past
each_rooted from [] w run = tt
each_rooted from (s ∷ before) w run =
    let known = roots_known from before run.0 run.1 in
    let is = effect run.0 s.now s.event s.answer w run.2 in (
      rooted_in run.0 s w before (knows from before run.0 run.1).0 (keeps_drawn run.0 s.now s.event s.answer w is) known
          (move run.0 s.now s.event s.answer w is),
      each_rooted from before run.0 run.1,
    )
