-- In every run the waits have no circle: fewer waits keep that, and so does one more wait whose key does not lead back.
use Rattle.rk_machine.proofs.Words.{◌≡◌, ℕ, ◌∙◌, ◌⊎◌, ◌∷◌, Bool, true, false, cond, refl, ap, sym, inl, inr, subst, List, [], option_map_or, nat_cmp, Option}
use Rattle.rk_machine.proofs.Words.{Some, None, option_map, option_and_then, is_none, SessionId, Client, Handler, Leads, its_own, further, Sessions, session_of}
use Rattle.rk_machine.proofs.Words.{handler_in, Construction, Session, Wait, Event, same_session, is_wait_ended, waited, WaitsFor, at_once, and_further}
use Rattle.rk_machine.proofs.Words.{NoCircle, NeverCircle, Past, Beginning, Run, World, empty_world, Answer, some_same, some_none}
use Rattle.std.specs.FinMap as map
use Rattle.rk_machine.specs.Laws.{wait_begun}
use Rattle.rk_machine.proofs.Effects.StagesAfter.{shape}
use Rattle.rk_machine.proofs.OneConstruction.EachOnce.{knows}
use Rattle.rk_machine.proofs.Effects.WaitsAfter.{same-true, flag, flag_in, flag_of}
use Rattle.rk_machine.proofs.Effects.WaitsAreTheWorlds.{step, begun_refused, after, tied, IdleFresh}
use Rattle.rk_machine.proofs.Effects.KindsOfStep.{effect}
use Rattle.rk_machine.proofs.Effects.OfSessions.{InSessions, in_sessions, is_refused, starts, waits_for}

-- ---- circles of any waits

-- by the key on which one waits, and the session of that key's handler
pub data Follows (f : SessionId → Option ℕ) : SessionId → SessionId → Type 0 where
  next : {s : SessionId} (k : ℕ) → f s ≡ Some k → Follows f s (Handler k)
  later : {s t : SessionId} (k : ℕ) → f s ≡ Some k → Follows f (Handler k) t → Follows f s t

abbrev IsFree : (SessionId → Option ℕ) → Type 0
IsFree f = (s : SessionId) → Follows f s s → ⊥

module _ (f g : SessionId → Option ℕ) where
  fewer_follows : ((s : SessionId) (k : ℕ) → g s ≡ Some k → f s ≡ Some k) → {s t : SessionId} → Follows g s t → Follows f s t
  fewer_follows h (next k e) = next k (h _ k e)
  fewer_follows h (later k e rest) = later k (h _ k e) (fewer_follows h rest)

  fewer : ((s : SessionId) (k : ℕ) → g s ≡ Some k → f s ≡ Some k) → IsFree f → IsFree g
  fewer h free s circle = free s (fewer_follows h circle)

-- the same session, or one comes from the one to the other
abbrev Reaches : (SessionId → Option ℕ) → SessionId → SessionId → Type 0
Reaches f s t = (s ≡ t) ⊎ Follows f s t

module _ (f g : SessionId → Option ℕ) (s0 : SessionId) (k0 : ℕ) where
  reach_first : {s t : SessionId} (k : ℕ) → f s ≡ Some k → Reaches f (Handler k) t → Follows f s t
  reach_first {s} {t} k e (inl same) = subst (λ (x : SessionId). Follows f s x) same (next k e)
  reach_first k e (inr rest) = later k e rest

  one_next : {s : SessionId} (k : ℕ) → ((s ≡ s0) × (k ≡ k0)) ⊎ (f s ≡ Some k) → Follows f s (Handler k) ⊎ (Reaches f s s0 × Reaches f (Handler k0) (Handler k))
  one_next k (inl same) = inr (inl same.0, inl (ap Handler (sym same.1)))
  one_next k (inr e) = inl (next k e)

  one_later : {s t : SessionId} (k : ℕ) → ((s ≡ s0) × (k ≡ k0)) ⊎ (f s ≡ Some k)
      → Follows f (Handler k) t ⊎ (Reaches f (Handler k) s0 × Reaches f (Handler k0) t)
      → Follows f s t ⊎ (Reaches f s s0 × Reaches f (Handler k0) t)
  one_later {s} {t} k (inl same) (inl rest) = inr (inl same.0, inr (subst (λ (n : ℕ). Follows f (Handler n) t) same.1 rest))
  one_later k (inl same) (inr both) = inr (inl same.0, both.1)
  one_later k (inr e) (inl rest) = inl (later k e rest)
  one_later k (inr e) (inr both) = inr (inr (reach_first k e both.0), both.1)

  one_more : ((s : SessionId) (k : ℕ) → g s ≡ Some k → ((s ≡ s0) × (k ≡ k0)) ⊎ (f s ≡ Some k)) → {s t : SessionId} → Follows g s t
      → Follows f s t ⊎ (Reaches f s s0 × Reaches f (Handler k0) t)
  one_more h (next k e) = one_next k (h _ k e)
  one_more h (later k e rest) = one_later k (h _ k e) (one_more h rest)

  reach_on : {s t u : SessionId} → Follows f s t → Reaches f t u → Follows f s u
  reach_on {s} h (inl same) = subst (λ (x : SessionId). Follows f s x) same h
  reach_on (next k e) (inr rest) = later k e rest
  reach_on (later k e h) (inr rest) = later k e (reach_on h (inr rest))

  reach_both : {s t u : SessionId} → Reaches f s t → Reaches f t u → Reaches f s u
  reach_both {s} {t} {u} (inl same) r = subst (λ (x : SessionId). Reaches f x u) (sym same) r
  reach_both (inr h) r = inr (reach_on h r)

  no_way : IsFree f → (Reaches f (Handler k0) s0 → ⊥) → (s : SessionId) → Follows f s s ⊎ (Reaches f s s0 × Reaches f (Handler k0) s) → ⊥
  no_way free apart s (inl circle) = free s circle
  no_way free apart s (inr both) = apart (reach_both both.1 both.0)

  added : ((s : SessionId) (k : ℕ) → g s ≡ Some k → ((s ≡ s0) × (k ≡ k0)) ⊎ (f s ≡ Some k)) → (Reaches f (Handler k0) s0 → ⊥) → IsFree f → IsFree g
  added h apart free s circle = no_way free apart s (one_more h circle)

-- ---- the waits of a world

abbrev key_in : Option (ℕ × Bool) → Option ℕ
key_in o = option_map (λ v. v.0) o

abbrev waits_in : World → SessionId → Option ℕ
waits_in w s = key_in (flag_of w.sessions s)

-- what leads to a session by the waits of the world, leads to it
next_of_flag : (o : Option Wait) → option_map (λ w. w.key) o ≡ key_in (option_map flag o)
next_of_flag None = refl
next_of_flag (Some w) = refl

leads_by : (w : World) (k : ℕ) {t : SessionId} → Follows (waits_in w) (Handler k) t → Leads w.sessions k t
leads_by w k (next j h) = further k j (next_of_flag (option_and_then (λ one. one.wait) (session_of w.sessions (Handler k))) ∙ h) (its_own j)
leads_by w k (later j h rest) = further k j (next_of_flag (option_and_then (λ one. one.wait) (session_of w.sessions (Handler k))) ∙ h) (leads_by w j rest)

not_reached : (w : World) (k : ℕ) (t : SessionId) → ¬ (Leads w.sessions k t) → Reaches (waits_in w) (Handler k) t → ⊥
not_reached w k t apart (inl same) = apart (subst (λ (x : SessionId). Leads w.sessions k x) same (its_own k))
not_reached w k t apart (inr h) = apart (leads_by w k h)

no_follow : (f : SessionId → Option ℕ) {s t : SessionId} → f s ≡ None → Follows f s t → ⊥
no_follow f none (next k h) = some_none (sym h ∙ none)
no_follow f none (later k h rest) = some_none (sym h ∙ none)

is_there : (o : Option Session) → o ≡ None → is_none o ≡ false → ⊥
is_there None e h = cc
is_there (Some s) e h = cc

-- the handler of a key that was never drawn is not there
new_not_reached : (w : World) (k : ℕ) (t : SessionId) → map.get w.sessions.constructions k ≡ None → is_none (session_of w.sessions t) ≡ false
    → Reaches (waits_in w) (Handler k) t → ⊥
new_not_reached w k t none there (inl same) =
    is_there (session_of w.sessions t) (ap (session_of w.sessions) (sym same) ∙ ap (option_and_then (λ (c : Construction). handler_in c.stage)) none) there
new_not_reached w k t none there (inr h) =
    no_follow (waits_in w) (ap (λ o. key_in (flag_in (option_and_then (λ (c : Construction). handler_in c.stage) o))) none) h

-- ---- each step

cleared_keys : (b : Bool) (r : Option (ℕ × Bool)) (k : ℕ) → key_in (option_map_or (λ w. Some w) None (cond b None r)) ≡ Some k → key_in r ≡ Some k
cleared_keys true r k h = absurd (some_none (sym h))
cleared_keys false r k h = h

-- whether a step begins a wait: none, or that of t on k, whose waits do not lead back to t
data Begun (old : World) (e : Event) (a : Answer) : Type 0 where
  none_begun : ((s : SessionId) → wait_begun s e a ≡ None) → Begun old e a
  one_begun : (t : SessionId) (k : ℕ) (b : Bool) → ((s : SessionId) → wait_begun s e a ≡ cond (same_session t s) (Some (k, b)) None)
      → (Reaches (waits_in old) (Handler k) t → ⊥) → Begun old e a

module _ (old : World) (now : ℕ) (e : Event) (a : Answer) (new : World)
    (ties : (s : SessionId) → flag_of new.sessions s ≡ after now s e a (flag_of old.sessions s)) where
  -- by the waits before the step
  by_before : (s : SessionId) (k : ℕ) → wait_begun s e a ≡ None → waits_in new s ≡ Some k → waits_in old s ≡ Some k
  by_before s k none h =
      cleared_keys (is_wait_ended s (step now e a)) (flag_of old.sessions s) k
      (sym (ap (λ o. key_in (option_map_or (λ w. Some w) o (cond (is_wait_ended s (step now e a)) None (flag_of old.sessions s)))) none)
      ∙ sym (ap key_in (ties s)) ∙ h)

  by_begun : (t s : SessionId) (m k : ℕ) (b : Bool) (same : Bool) → same_session t s ≡ same → wait_begun s e a ≡ cond same (Some (m, b)) None
      → waits_in new s ≡ Some k → ((s ≡ t) × (k ≡ m)) ⊎ (waits_in old s ≡ Some k)
  by_begun t s m k b true is begun h =
      inl (
        sym (same-true t s is),
        sym (some_same (sym (ap (λ o. key_in (option_map_or (λ w. Some w) o (cond (is_wait_ended s (step now e a)) None (flag_of old.sessions s)))) begun)
            ∙ sym (ap key_in (ties s)) ∙ h)),
      )
  by_begun t s m k b false is begun h = inr (by_before s k begun h)

  free_after : Begun old e a → IsFree (waits_in old) → IsFree (waits_in new)
  free_after (none_begun none) = fewer (waits_in old) (waits_in new) (λ s k h. by_before s k (none s) h)
  free_after (one_begun t m b begun apart) = added (waits_in old) (waits_in new) t m (λ s k h. by_begun t s m k b (same_session t s) refl (begun s) h) apart

begun_by : (old new : World) (now : ℕ) (e : Event) (a : Answer) (b : Sessions) → InSessions old new now e a b → IdleFresh old → Begun old e a
begun_by old new now e a b (is_refused y error w free) idle = none_begun (λ s. begun_refused s y error)
begun_by old new now e a b (starts t typ description callout r k subject authority names can fresh drawn) idle =
    one_begun t k true (λ s. refl) (new_not_reached old k t (idle k fresh.unused) can.there)
begun_by old new now e a b (waits_for t x k asks can apart) idle = one_begun t k false (λ s. refl) (not_reached old k t apart)
begun_by old new now e a b _ idle = none_begun (λ s. refl)

-- ---- every run

-- in every run, serials that were never drawn have no construction
pub idle_known : (from : Beginning) (past : List Past) (w : World) → Run from past w → IdleFresh w
idle_known from past w run k fresh = no_construction (map.get w.sessions.constructions k) (((knows from past w run).1 k).idle fresh)
  where
    no_construction : (o : Option Construction) → option_map shape o ≡ None → o ≡ None
    no_construction None h = refl
    no_construction (Some c) h = absurd (cc)

-- the waits of the world are those of the list, and free of circles
pub record KnowsWaits (past : List Past) (w : World) : Type 0 where
  pub same : (s : SessionId) → flag_of w.sessions s ≡ waited s past
  pub free : IsFree (waits_in w)

knows_no_wait : (from : Beginning) (s : SessionId) → flag_of (empty_world from.negative from.first from.stride).sessions s ≡ None
knows_no_wait from (Client n) = ap flag_in (map.get-empty nat_cmp n)
knows_no_wait from (Handler k) = ap (λ o. flag_in (option_and_then (λ (c : Construction). handler_in c.stage) o)) (map.get-empty nat_cmp k)

-- in every run, the waits of the world are those of the list, and free of circles
pub waits_known : (from : Beginning) (past : List Past) (w : World) → Run from past w → KnowsWaits past w
waits_known from [] w run = subst (λ v. KnowsWaits [] v) (sym run) (record {
  same = knows_no_wait from;
  free = λ s circle. no_follow (waits_in (empty_world from.negative from.first from.stride)) (ap key_in (knows_no_wait from s)) circle;
})
waits_known from (s ∷ before) w run =
    let known = waits_known from before run.0 run.1 in
    let is = effect run.0 s.now s.event s.answer w run.2 in
    let idle = idle_known from before run.0 run.1 in
    let ties : (t : SessionId) → flag_of w.sessions t ≡ after s.now t s.event s.answer (flag_of run.0.sessions t) =
    tied run.0 s.now s.event s.answer w is idle in
    record {
      same = λ t. ties t ∙ ap (after s.now t s.event s.answer) (known.same t);
      free = free_after run.0 s.now s.event s.answer w ties
          (begun_by run.0 w s.now s.event s.answer w.sessions (in_sessions run.0 s.now s.event s.answer w is) idle) known.free;
    }

follows_waits : (past : List Past) (w : World) → ((s : SessionId) → flag_of w.sessions s ≡ waited s past) → {s t : SessionId} → WaitsFor past s t
    → Follows (waits_in w) s t
follows_waits past w same (at_once k starter h) = next k (ap key_in (same _ ∙ h))
follows_waits past w same (and_further k starter h rest) = later k (ap key_in (same _ ∙ h)) (follows_waits past w same rest)

no_circle : (from : Beginning) (past : List Past) (w : World) → Run from past w → NoCircle past
no_circle from past w run s circle = (waits_known from past w run).free s (follows_waits past w (waits_known from past w run).same circle)

-- at no point is there a circle of waits
pub never_circle : (from : Beginning) (past : List Past) (w : World) → Run from past w → NeverCircle past
never_circle from [] w run = no_circle from [] w run
never_circle from (s ∷ before) w run = (no_circle from (s ∷ before) w run, never_circle from before run.0 run.1)
