-- How far each construction is, after each thing that a step may do.
use Rattle.rk_machine.proofs.Words.{◌≡◌, ℕ, ◌∙◌, Bool, true, false, cond, refl, ap, sym, Option, Some, None, nat_eq, is_some, option_map, option_and_then}
use Rattle.rk_machine.proofs.Words.{eqb-true, SessionId, Client, Handler, session_changed, in_handler, in_new_stage, spent, without_authority}
use Rattle.rk_machine.proofs.Words.{without_construction, with_construction, all_told, told, with_assumed, in_stage, Sessions, session_of, is_to_launch}
use Rattle.rk_machine.proofs.Words.{handler_in, Authority, Construction, Stage, Starting, Plain, Piped, Negating, Outcome, Session, get_inserted, get_removed}
use Rattle.rk_machine.proofs.Words.{get_changed_at, get_changed_all, of_choice}
use Rattle.std.specs.FinMap as map
use Rattle.rk_auth.specs.Changes.{launched}

-- whether a handler is to be started; whether its first one is not past or may be followed by another; whether its authority is unspent; what its
-- handler has assumed
pub record Shape : Type 0 where
  pub starting : Bool
  pub first : Bool
  pub unspent : Bool
  pub assumed : Option ℕ

abbrev pub assumed_in : Stage → Option ℕ
assumed_in st = option_and_then (λ s. s.assumed) (handler_in st)

-- no other handler has followed, and one may
abbrev pub is_first : Stage → Bool
is_first Starting = true
is_first (Plain s) = false
is_first Piped = true
is_first Negating = false

-- what the laws of one construction need to know of it
abbrev pub shape : Construction → Shape
shape c = record { starting = is_to_launch (Some c.stage); first = is_first c.stage; unspent = is_some c.authority; assumed = assumed_in c.stage }

-- the shape of the construction of k, if there is one
abbrev pub shape_of : Sessions → ℕ → Option Shape
shape_of a k = option_map shape (map.get a.constructions k)

-- ---- changes that leave it

kept_stage : (f : Session → Session) (st : Stage) → is_to_launch (Some (in_stage f st)) ≡ is_to_launch (Some st)
kept_stage f Starting = refl
kept_stage f (Plain s) = refl
kept_stage f Piped = refl
kept_stage f Negating = refl

kept_first : (f : Session → Session) (st : Stage) → is_first (in_stage f st) ≡ is_first st
kept_first f Starting = refl
kept_first f (Plain s) = refl
kept_first f Piped = refl
kept_first f Negating = refl

-- a change of a session that leaves what it has assumed
abbrev pub KeepsAssumed : (Session → Session) → Type 0
KeepsAssumed f = (s : Session) → (f s).assumed ≡ s.assumed

kept_assumed : (f : Session → Session) → KeepsAssumed f → (st : Stage) → assumed_in (in_stage f st) ≡ assumed_in st
kept_assumed f h Starting = refl
kept_assumed f h (Plain s) = h s
kept_assumed f h Piped = refl
kept_assumed f h Negating = refl

kept_shape : (f : Session → Session) → KeepsAssumed f → (c : Construction) → shape (in_handler f c) ≡ shape c
kept_shape f h c =
    λ i. record { starting = kept_stage f c.stage i; first = kept_first f c.stage i; unspent = is_some c.authority; assumed = kept_assumed f h c.stage i }

kept_all : (f : Session → Session) → KeepsAssumed f → (o : Option Construction) → option_map shape (option_map (in_handler f) o) ≡ option_map shape o
kept_all f h None = refl
kept_all f h (Some c) = ap (λ (s : Shape). Some s) (kept_shape f h c)

kept_at : (f : Session → Session) → KeepsAssumed f → (b : Bool) (o : Option Construction)
    → option_map shape (cond b (option_map (in_handler f) o) o) ≡ option_map shape o
kept_at f h true o = kept_all f h o
kept_at f h false o = refl

-- a session is changed
pub shape_session : (s : SessionId) (f : Session → Session) → KeepsAssumed f → (a : Sessions) (q : ℕ) → shape_of (session_changed s f a) q ≡ shape_of a q
shape_session (Client n) f h a q = refl
shape_session (Handler k) f h a q =
    ap (option_map shape) (get_changed_at k (in_handler f) a.constructions q) ∙ kept_at f h (nat_eq k q) (map.get a.constructions q)

-- every wait on a key gets its outcome
pub shape_told : (k : ℕ) (outcome : Outcome) (a : Sessions) (q : ℕ) → shape_of (all_told k outcome a) q ≡ shape_of a q
shape_told k outcome a q =
    ap (option_map shape) (get_changed_all (in_handler (told k outcome)) a.constructions q) ∙ kept_all (told k outcome) (λ s. refl) (map.get a.constructions q)

-- ---- what its handler assumes

-- where its handler runs
abbrev pub as_assumed : Option ℕ → Shape → Shape
as_assumed k s = record s { assumed = k }

-- a handler that is there has assumed this
pub shape_assumed : (k : ℕ) (o : Option ℕ) (a : Sessions) (q : ℕ) (s : Session) → session_of a (Handler k) ≡ Some s
    → shape_of (session_changed (Handler k) (with_assumed o) a) q ≡ cond (nat_eq k q) (option_map (as_assumed o) (shape_of a q)) (shape_of a q)
shape_assumed k o a q s is =
    ap (option_map shape) (get_changed_at k (in_handler (with_assumed o)) a.constructions q)
    ∙ elim (nat_eq k q) as (λ b. nat_eq k q ≡ b → option_map shape
    (cond b (option_map (in_handler (with_assumed o)) (map.get a.constructions q)) (map.get a.constructions q))
    ≡ cond b (option_map (as_assumed o) (shape_of a q)) (shape_of a q)) [
      | true ↦ λ same. here (map.get a.constructions q) (ap (λ j. option_and_then (λ c. handler_in c.stage) (map.get a.constructions j))
          (sym (eqb-true k q same)) ∙ is)
      | false ↦ λ _. refl
    ] refl
  where
    staged : (c : Construction) (st : Stage) → handler_in st ≡ Some s
        → ◌≡◌ {A = Shape} (record {
          starting = is_to_launch (Some (in_stage (with_assumed o) st));
          first = is_first
              (in_stage (with_assumed o) st);
          unspent = is_some c.authority;
          assumed = assumed_in (in_stage (with_assumed o) st);
        })
        (record { starting = is_to_launch (Some st); first = is_first st; unspent = is_some c.authority; assumed = o })
    staged c Starting e = absurd (cc)
    staged c (Plain t) e = refl
    staged c Piped e = absurd (cc)
    staged c Negating e = absurd (cc)

    here : (x : Option Construction) → option_and_then (λ c. handler_in c.stage) x ≡ Some s
        → option_map shape (option_map (in_handler (with_assumed o)) x) ≡ option_map (as_assumed o) (option_map shape x)
    here None e = refl
    here (Some c) e = ap (λ (y : Shape). Some y) (staged c c.stage e)

-- ---- changes of it

-- the same once its authority is spent
abbrev pub as_spent : Shape → Shape
as_spent s = record s { unspent = false; assumed = None }

-- in this stage, without a session that has assumed anything
abbrev pub as_staged : Stage → Shape → Shape
as_staged st s = record s { starting = is_to_launch (Some st); first = is_first st; assumed = None }

dropped : (st : Stage) → assumed_in (in_stage (with_assumed None) st) ≡ None
dropped Starting = refl
dropped (Plain s) = refl
dropped Piped = refl
dropped Negating = refl

spent_shape : (c : Construction) → shape (without_authority c) ≡ as_spent (shape c)
spent_shape c =
    λ i. record {
      starting = kept_stage (with_assumed None) c.stage i;
      first = kept_first
          (with_assumed None) c.stage i;
      unspent = false;
      assumed = dropped c.stage i;
    }

spent_at : (b : Bool) (o : Option Construction) → option_map shape (cond b (option_map without_authority o) o)
    ≡ cond b (option_map as_spent (option_map shape o)) (option_map shape o)
spent_at true None = refl
spent_at true (Some c) = ap (λ (s : Shape). Some s) (spent_shape c)
spent_at false o = refl

-- a construction whose authority is spent is shaped so, and every other is as it was
pub shape_spent : (k : ℕ) (a : Sessions) (q : ℕ) → shape_of (spent k a) q ≡ cond (nat_eq k q) (option_map as_spent (shape_of a q)) (shape_of a q)
shape_spent k a q = ap (option_map shape) (get_changed_at k without_authority a.constructions q) ∙ spent_at (nat_eq k q) (map.get a.constructions q)

launched_at : (st : Stage) → assumed_in st ≡ None → (b : Bool) (o : Option Construction)
    → option_map shape (cond b (option_map (in_new_stage st) o) o) ≡ cond b (option_map (as_staged st) (option_map shape o)) (option_map shape o)
launched_at st free true None = refl
launched_at st free true (Some c) =
    ap (λ (s : Shape). Some s) (λ i. record { starting = is_to_launch (Some st); first = is_first st; unspent = is_some c.authority; assumed = free i })
launched_at st free false o = refl

-- a construction whose handler is launched is in its stage, and every other is as it was
pub shape_launched : (k : ℕ) (st : Stage) (a : Sessions) (q : ℕ) → assumed_in st ≡ None
    → shape_of (launched k st a) q ≡ cond (nat_eq k q) (option_map (as_staged st) (shape_of a q)) (shape_of a q)
shape_launched k st a q free =
    ap (option_map shape) (get_changed_at k (in_new_stage st) a.constructions q) ∙ launched_at st free (nat_eq k q) (map.get a.constructions q)

-- a construction that is removed has no shape, and every other is as it was
pub shape_removed : (k : ℕ) (a : Sessions) (q : ℕ) → shape_of (without_construction k a) q ≡ cond (nat_eq k q) None (shape_of a q)
shape_removed k a q = ap (option_map shape) (get_removed a.constructions k q) ∙ of_choice (option_map shape) (nat_eq k q) None (map.get a.constructions q)

-- as a construction begins
abbrev pub first_shape : Shape
first_shape = record { starting = true; first = true; unspent = true; assumed = None }

-- a construction that begins has the first shape, and every other is as it was
pub shape_issued : (k : ℕ) (authority : Authority) (a : Sessions) (q : ℕ)
    → shape_of (with_construction k authority a) q ≡ cond (nat_eq k q) (Some first_shape) (shape_of a q)
shape_issued k authority a q =
    ap (option_map shape) (get_inserted a.constructions k _ q)
    ∙ of_choice (option_map shape) (nat_eq k q) (Some (record { stage = Starting; authority = Some authority })) (map.get a.constructions q)
