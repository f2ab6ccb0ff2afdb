-- The unspent authority of each key, after each thing that a step may do.
use Rattle.rk_machine.proofs.Words.{◌≡◌, ℕ, ◌∙◌, Bool, true, false, cond, refl, ap, nat_cmp, Option, Some, None, nat_eq, is_some, option_map, option_and_then}
use Rattle.rk_machine.proofs.Words.{SessionId, Client, Handler, Condition, Key, session_changed, in_handler, in_new_stage, spent, without_authority}
use Rattle.rk_machine.proofs.Words.{without_construction, with_construction, all_told, told, Sessions, unspent, Authority, Construction, Stage, Starting}
use Rattle.rk_machine.proofs.Words.{Outcome, Session, announced, sessions_ended, keys_ended, ended, World, get_inserted, get_removed, get_changed_at}
use Rattle.rk_machine.proofs.Words.{get_changed_all, of_choice}
use Rattle.std.specs.FinMap as map
use Rattle.rk_auth.specs.Changes.{launched}
use Rattle.rk_machine.proofs.Effects.LeftByOutcomes.{left_announced}

abbrev authority_in : Option Construction → Option Authority
authority_in o = option_and_then (λ c. c.authority) o

-- the construction has an authority that is not spent
abbrev pub is_unspent : World → ℕ → Bool
is_unspent w k = is_some (unspent w.sessions k)

-- ---- changes that leave it

kept : (f : Construction → Construction) → ((c : Construction) → (f c).authority ≡ c.authority) → (b : Bool) (o : Option Construction)
    → authority_in (cond b (option_map f o) o) ≡ authority_in o
kept f h true None = refl
kept f h true (Some c) = h c
kept f h false o = refl

-- a change of a session leaves every unspent authority
pub unspent_changed : (id : SessionId) (f : Session → Session) (a : Sessions) (q : ℕ) → unspent (session_changed id f a) q ≡ unspent a q
unspent_changed (Client n) f a q = refl
unspent_changed (Handler k) f a q =
    ap authority_in (get_changed_at k (in_handler f) a.constructions q) ∙ kept (in_handler f) (λ c. refl) (nat_eq k q) (map.get a.constructions q)

pub unspent_told : (k : ℕ) (o : Outcome) (a : Sessions) (q : ℕ) → unspent (all_told k o a) q ≡ unspent a q
unspent_told k o a q =
    ap authority_in (get_changed_all (in_handler (told k o)) a.constructions q) ∙ kept (in_handler (told k o)) (λ c. refl) true (map.get a.constructions q)

pub unspent_announced : (now k : ℕ) (keys : map.FinMap nat_cmp Key) (a : Sessions) (q : ℕ) → unspent (announced now k keys a) q ≡ unspent a q
unspent_announced now k keys a q = left_announced (λ b. unspent b q) (λ j o b. unspent_told j o b q) now k keys a

-- a launch leaves every unspent authority
pub unspent_launched : (k : ℕ) (st : Stage) (a : Sessions) (q : ℕ) → unspent (launched k st a) q ≡ unspent a q
unspent_launched k st a q =
    ap authority_in (get_changed_at k (in_new_stage st) a.constructions q) ∙ kept (in_new_stage st) (λ c. refl) (nat_eq k q) (map.get a.constructions q)

-- ---- changes of it

spent_in : (b : Bool) (o : Option Construction) → authority_in (cond b (option_map without_authority o) o) ≡ cond b None (authority_in o)
spent_in true None = refl
spent_in true (Some c) = refl
spent_in false o = refl

pub unspent_spent : (k : ℕ) (a : Sessions) (q : ℕ) → unspent (spent k a) q ≡ cond (nat_eq k q) None (unspent a q)
unspent_spent k a q = ap authority_in (get_changed_at k without_authority a.constructions q) ∙ spent_in (nat_eq k q) (map.get a.constructions q)

-- where k is concluded its authority is spent, and every other stays
pub unspent_concluded : (now k : ℕ) (keys : map.FinMap nat_cmp Key) (a : Sessions) (q : ℕ)
    → unspent (announced now k keys (spent k a)) q ≡ cond (nat_eq k q) None (unspent a q)
unspent_concluded now k keys a q = unspent_announced now k keys (spent k a) q ∙ unspent_spent k a q

pub unspent_removed : (k : ℕ) (a : Sessions) (q : ℕ) → unspent (without_construction k a) q ≡ cond (nat_eq k q) None (unspent a q)
unspent_removed k a q = ap authority_in (get_removed a.constructions k q) ∙ of_choice authority_in (nat_eq k q) None (map.get a.constructions q)

twice : {A : Type 0} (b : Bool) (o : Option A) → cond b None (cond b None o) ≡ cond b None o
twice true o = refl
twice false o = refl

-- if the handler of k ends its authority is spent, and every other stays
pub unspent_ended : (now k : ℕ) (condition : Condition) (w : World) (q : ℕ)
    → unspent (ended now k condition w).sessions q ≡ cond (nat_eq k q) None (unspent w.sessions q)
unspent_ended now k condition w q = unspent_removed k (sessions_ended now k condition w) q ∙ spent_or_not (is_some (unspent w.sessions k))
  where
    spent_or_not : (b : Bool) → cond (nat_eq k q) None (unspent (cond b (announced now k (keys_ended now k condition w) (spent k w.sessions)) w.sessions) q)
        ≡ cond (nat_eq k q) None (unspent w.sessions q)
    spent_or_not true =
        ap (cond (nat_eq k q) None) (unspent_concluded now k (keys_ended now k condition w) w.sessions q) ∙ twice (nat_eq k q) (unspent w.sessions q)
    spent_or_not false = refl

-- a new construction of k has an unspent authority, and every other stays
pub unspent_issued : (k : ℕ) (authority : Authority) (a : Sessions) (q : ℕ)
    → unspent (with_construction k authority a) q ≡ cond (nat_eq k q) (Some authority) (unspent a q)
unspent_issued k authority a q =
    ap authority_in (get_inserted a.constructions k _ q)
    ∙ of_choice authority_in (nat_eq k q) (Some (record { stage = Starting; authority = Some authority })) (map.get a.constructions q)
