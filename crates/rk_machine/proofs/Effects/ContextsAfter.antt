-- The context of each client, after each thing that a step may do.
use Rattle.rk_machine.proofs.Words.{◌≡◌, ℕ, ◌∙◌, Bool, true, false, cond, refl, ap, sym, nat_cmp, Option, Some, None, nat_eq, option_map, option_and_then}
use Rattle.rk_machine.proofs.Words.{is_none, eqb-true, Context, SessionId, Client, Handler, Condition, Key, session_changed, all_told, told, with_context}
use Rattle.rk_machine.proofs.Words.{with_client, without_client, Sessions, new_session, Outcome, Session, announced, sessions_ended, World, get_inserted}
use Rattle.rk_machine.proofs.Words.{get_removed, get_changed_at, get_changed_all, of_choice}
use Rattle.std.specs.FinMap as map
use Rattle.rk_machine.proofs.Effects.LeftByOutcomes.{left_announced, left_settled}

abbrev context_in : Option Session → Option Context
context_in o = option_and_then (λ one. one.context) o

-- the context of a client that is there and has one
abbrev pub context_at : Sessions → ℕ → Option Context
context_at a n = context_in (map.get a.clients n)

-- ---- changes that leave it

kept : (f : Session → Session) → ((s : Session) → (f s).context ≡ s.context) → (b : Bool) (o : Option Session)
    → context_in (cond b (option_map f o) o) ≡ context_in o
kept f h true None = refl
kept f h true (Some s) = h s
kept f h false o = refl

-- a change of a session that leaves its context leaves every client's context
pub context_kept : (id : SessionId) (f : Session → Session) → ((s : Session) → (f s).context ≡ s.context) → (a : Sessions) (n : ℕ)
    → context_at (session_changed id f a) n ≡ context_at a n
context_kept (Client m) f h a n = ap context_in (get_changed_at m f a.clients n) ∙ kept f h (nat_eq m n) (map.get a.clients n)
context_kept (Handler k) f h a n = refl

context_told : (k : ℕ) (o : Outcome) (a : Sessions) (n : ℕ) → context_at (all_told k o a) n ≡ context_at a n
context_told k o a n = ap context_in (get_changed_all (told k o) a.clients n) ∙ kept (told k o) (λ s. refl) true (map.get a.clients n)

-- an outcome leaves every client's context
pub context_announced : (now k : ℕ) (keys : map.FinMap nat_cmp Key) (a : Sessions) (n : ℕ) → context_at (announced now k keys a) n ≡ context_at a n
context_announced now k keys a n = left_announced (λ b. context_at b n) (λ j o b. context_told j o b n) now k keys a

-- a handler's end leaves every client's context
pub context_ended : (now k : ℕ) (condition : Condition) (w : World) (n : ℕ) → context_at (sessions_ended now k condition w) n ≡ context_at w.sessions n
context_ended now k condition w n = left_settled (λ b. context_at b n) (λ j o b. context_told j o b n) (λ j b. refl) now k condition w

came_in : (b : Bool) (o : Option Session) → (b ≡ true → o ≡ None) → context_in (cond b (Some new_session) o) ≡ context_in o
came_in true o new = sym (ap context_in (new refl))
came_in false o new = refl

-- a client that comes has none yet
pub context_came : (m : ℕ) (a : Sessions) (n : ℕ) → map.get a.clients m ≡ None → context_at (with_client m a) n ≡ context_at a n
context_came m a n new =
    ap context_in (get_inserted a.clients m new_session n) ∙ came_in (nat_eq m n) (map.get a.clients n)
    (λ same. ap (map.get a.clients) (sym (eqb-true m n same)) ∙ new)

-- ---- changes of it

given_in : (c : Context) (b : Bool) (o : Option Session) → (b ≡ true → is_none o ≡ false)
    → context_in (cond b (option_map (with_context c) o) o) ≡ cond b (Some c) (context_in o)
given_in c true None there = absurd (none_there (there refl))
  where
    none_there : true ≡ false → ⊥
    none_there e = cc
given_in c true (Some s) there = refl
given_in c false o there = refl

-- a client that gets a context has it, and every other client's stays
pub context_given : (m : ℕ) (c : Context) (a : Sessions) (n : ℕ) → is_none (map.get a.clients m) ≡ false
    → context_at (session_changed (Client m) (with_context c) a) n ≡ cond (nat_eq m n) (Some c) (context_at a n)
context_given m c a n there =
    ap context_in (get_changed_at m (with_context c) a.clients n)
    ∙ given_in c (nat_eq m n) (map.get a.clients n) (λ same. ap (λ j. is_none (map.get a.clients j)) (sym (eqb-true m n same)) ∙ there)

-- a client that is gone has no context, and every other client's stays
pub context_gone : (m : ℕ) (a : Sessions) (n : ℕ) → context_at (without_client m a) n ≡ cond (nat_eq m n) None (context_at a n)
context_gone m a n = ap context_in (get_removed a.clients m n) ∙ of_choice context_in (nat_eq m n) None (map.get a.clients n)
