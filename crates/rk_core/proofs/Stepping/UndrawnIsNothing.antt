-- A serial that was never drawn is that of no key, no ring and no construction.
use Rattle.rk_core.proofs.Words.{◌≡◌, ℕ, Bool, true, false, cond, ◌||◌, refl, sym, ap, ◌∙◌, Option, Some, None, nat_eq, option_map, is_some, option_map_or}
use Rattle.rk_core.proofs.Words.{nat_cmp, SessionId, Client, Handler, changed_at, changed_all, kept_where, Key, Condition, concluded, Ring, Session, Stage}
use Rattle.rk_core.proofs.Words.{Sessions, unspent, session_changed, in_handler, in_new_stage, spent, without_authority, without_construction, all_told, told}
use Rattle.rk_core.proofs.Words.{World, drawn, rings_changed, outcome_of, announced, keys_ended, sessions_ended, expiry_after, get_inserted, get_removed}
use Rattle.rk_core.proofs.Words.{get_changed_at, get_changed_all, get_kept_where, is_drawn, drawn_is}
use Rattle.std.specs.FinMap as map
use Rattle.rk_auth.specs.Changes.{launched}

-- ---- maps

module _ {V : Type 0} where
  -- a change at one key puts nothing where nothing was
  pub none_changed : (k : ℕ) (f : V → V) (m : map.FinMap nat_cmp V) (q : ℕ) → map.get m q ≡ None → map.get (changed_at k f m) q ≡ None
  none_changed k f m q none =
      get_changed_at k f m q ∙ ap (λ o. cond (nat_eq k q) (option_map f o) o) none
      ∙ elim (nat_eq k q) as (λ b. ◌≡◌ {A = Option V} (cond b None None) None) [ true ↦ refl | false ↦ refl ]

  pub none_changed_all : (f : V → V) (m : map.FinMap nat_cmp V) (q : ℕ) → map.get m q ≡ None → map.get (changed_all f m) q ≡ None
  none_changed_all f m q none = get_changed_all f m q ∙ ap (option_map f) none

  -- dropping entries puts nothing where nothing was
  pub none_kept : (p : ℕ → V → Bool) (m : map.FinMap nat_cmp V) (q : ℕ) → map.get m q ≡ None → map.get (kept_where p m) q ≡ None
  none_kept p m q none = get_kept_where p m q ∙ ap (λ o. cond (option_map_or (p q) o false) o None) none

  pub none_removed : (m : map.FinMap nat_cmp V) (k q : ℕ) → map.get m q ≡ None → map.get (map.remove m k) q ≡ None
  none_removed m k q none =
      get_removed m k q ∙ ap (cond (nat_eq k q) None) none ∙ elim (nat_eq k q) as
      (λ b. ◌≡◌ {A = Option V} (cond b None None) None) [ true ↦ refl | false ↦ refl ]

  -- an entry at one key puts nothing at another
  pub none_inserted : (m : map.FinMap nat_cmp V) (k : ℕ) (v : V) (q : ℕ) → nat_eq k q ≡ false → map.get m q ≡ None → map.get (map.insert m k v) q ≡ None
  none_inserted m k v q other none = get_inserted m k v q ∙ (λ i. cond (other i) (Some v) (none i))

-- ---- constructions

abbrev pub IsFree : Sessions → ℕ → Type 0
IsFree a q = map.get a.constructions q ≡ None

-- a change of a session leaves a serial without a construction
pub free_changed : (s : SessionId) (f : Session → Session) (a : Sessions) (q : ℕ) → IsFree a q → IsFree (session_changed s f a) q
free_changed (Client n) f a q none = none
free_changed (Handler k) f a q none = none_changed k (in_handler f) a.constructions q none

-- a launch leaves a serial without a construction
pub free_launched : (k : ℕ) (st : Stage) (a : Sessions) (q : ℕ) → IsFree a q → IsFree (launched k st a) q
free_launched k st a q none = none_changed k (in_new_stage st) a.constructions q none

free_spent : (k : ℕ) (a : Sessions) (q : ℕ) → IsFree a q → IsFree (spent k a) q
free_spent k a q none = none_changed k without_authority a.constructions q none

free_announced : (now k : ℕ) (keys : map.FinMap nat_cmp Key) (a : Sessions) (q : ℕ) → IsFree a q → IsFree (announced now k keys a) q
free_announced now k keys a q none =
    elim (map.get keys k) as (λ o. IsFree (option_map_or (λ (key : Key). all_told k (outcome_of k key now) a) o a) q) [
      | None ↦ none
      | Some key ↦ none_changed_all (in_handler (told k (outcome_of k key now))) a.constructions q none
    ]

-- concluding a key leaves a serial without a construction
pub free_concluded : (now k : ℕ) (keys : map.FinMap nat_cmp Key) (a : Sessions) (q : ℕ) → IsFree a q → IsFree (announced now k keys (spent k a)) q
free_concluded now k keys a q none = free_announced now k keys (spent k a) q (free_spent k a q none)

-- a handler's end leaves a serial without a construction
pub free_ended : (now k : ℕ) (condition : Condition) (w : World) (q : ℕ) → IsFree w.sessions q
    → IsFree (without_construction k (sessions_ended now k condition w)) q
free_ended now k condition w q none =
    none_removed (sessions_ended now k condition w).constructions k q (
    elim (is_some (unspent w.sessions k)) as (λ b. IsFree (cond b (announced now k (keys_ended now k condition w) (spent k w.sessions)) w.sessions) q) [
      | true ↦ free_concluded now k (keys_ended now k condition w) w.sessions q none
      | false ↦ none
    ])

-- a handler's end leaves a serial without a key
pub none_ended : (now k : ℕ) (condition : Condition) (w : World) (q : ℕ) → map.get w.keys q ≡ None → map.get (keys_ended now k condition w) q ≡ None
none_ended now k condition w q none =
    elim (is_some (unspent w.sessions k)) as (λ b. map.get (cond b (changed_at k (concluded condition (expiry_after condition now w.negative)) w.keys) w.keys) q
    ≡ None) [
      | true ↦ none_changed k (concluded condition (expiry_after condition now w.negative)) w.keys q none
      | false ↦ none
    ]

-- ---- rings

-- a change of one ring leaves a serial without a ring
pub none_linked : (ring : Option ℕ) (f : Ring → Ring) (rings : map.FinMap nat_cmp Ring) (q : ℕ) → map.get rings q ≡ None
    → map.get (rings_changed ring f rings) q ≡ None
none_linked None f rings q none = none
none_linked (Some ring) f rings q none = none_changed ring f rings q none

-- ---- the world

-- nothing bears this serial
pub record IsClear (w : World) (q : ℕ) : Type 0 where
  pub keys : map.get w.keys q ≡ None
  pub rings : map.get w.rings q ≡ None
  pub constructions : IsFree w.sessions q

-- another serial than one that was drawn
pub apart : (k q : ℕ) (w : World) → is_drawn (drawn k w) q ≡ false → nat_eq k q ≡ false
apart k q w h = first (nat_eq k q) (is_drawn w q) (sym (drawn_is k w q) ∙ h)
  where
    first : (a b : Bool) → (a || b) ≡ false → a ≡ false
    first true b h = h
    first false b h = refl
