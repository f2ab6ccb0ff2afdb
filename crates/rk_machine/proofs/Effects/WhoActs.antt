-- Who acts: a client in its own context, a handler by the authority of its own key.
use Rattle.rk_machine.proofs.Words.{Option, Some, None, option_map, option_and_then, ◌≡◌, ℕ, refl, ap, ◌∙◌, sym, ◌+◌, Context, Client, Handler, Sessions}
use Rattle.rk_machine.proofs.Words.{unspent, session_of, assumed_authority, handler_in, Authority, Construction, Session, Asker, asker_of, client_asker}
use Rattle.rk_machine.proofs.Words.{handler_asker, World, none_some, some_same, some_none}
use Rattle.std.specs.FinMap as map
use Rattle.rk_machine.proofs.Effects.StagesAfter.{shape}
use Rattle.rk_machine.proofs.Effects.OfOneConstruction.{Goods}
use Rattle.rk_machine.proofs.Effects.ContextsAfter.{context_at}

-- ---- clients

abbrev as_client : Session → Context → Asker
as_client s c = record { context = c; assumed = None; requestor = None; depth = 1; setting = s.setting }

-- a client acts in its own context, at depth 1
pub client_acts : (w : World) (n : ℕ) (asker : Asker) → asker_of w (Client n) ≡ Some asker → (context_at w.sessions n ≡ Some asker.context) × (asker.depth ≡ 1)
client_acts w n asker is = by_session (map.get w.sessions.clients n) is
  where
    by_context : (s : Session) (c : Option Context) → option_map (as_client s) c ≡ Some asker
        → (c ≡ Some asker.context) × (asker.depth ≡ 1)
    by_context s None e = absurd (none_some e)
    by_context s (Some c) e =
        let same : as_client s c ≡ asker = some_same e in
        (ap (λ (x : Asker). Some x.context) same, sym (ap (λ (x : Asker). x.depth) same))

    by_session : (o : Option Session) → option_and_then client_asker o ≡ Some asker
        → (option_and_then (λ (one : Session). one.context) o ≡ Some asker.context) × (asker.depth ≡ 1)
    by_session None e = absurd (none_some e)
    by_session (Some s) e = by_context s s.context e

-- one that does not act has no context
pub no_context : (w : World) (n : ℕ) → asker_of w (Client n) ≡ None → context_at w.sessions n ≡ None
no_context w n none = by_session (map.get w.sessions.clients n) none
  where
    by_context : (s : Session) (c : Option Context) → option_map (as_client s) c ≡ None → c ≡ None
    by_context s None e = refl
    by_context s (Some c) e = absurd (some_none e)

    by_session : (o : Option Session) → option_and_then client_asker o ≡ None → option_and_then (λ (one : Session). one.context) o ≡ None
    by_session None e = refl
    by_session (Some s) e = by_context s s.context e

-- ---- handlers

-- what the handler of j has assumed is the authority of j
assumes_own : (a : Sessions) (j k : ℕ) → Goods a → option_and_then (λ (s : Session). s.assumed) (session_of a (Handler j)) ≡ Some k → k ≡ j
assumes_own a j k good h = in_construction (map.get a.constructions j) refl h
  where
    in_construction : (o : Option Construction) → map.get a.constructions j ≡ o
        → option_and_then (λ (s : Session). s.assumed) (option_and_then (λ c. handler_in c.stage) o) ≡ Some k → k ≡ j
    in_construction None is e = absurd (none_some e)
    in_construction (Some c) is e = (good j (shape c) k (ap (option_map shape) is) e).0

-- it acts in the context of its own key's unspent authority, one deeper
pub handler_acts : (w : World) (j : ℕ) (asker : Asker) → Goods w.sessions → asker_of w (Handler j) ≡ Some asker
    → (one : Authority) × (unspent w.sessions j ≡ Some one) × (asker.context ≡ one.context) × (asker.depth ≡ one.depth + 1)
handler_acts w j asker good h = acting (session_of w.sessions (Handler j)) refl h
  where
    by_authority : (s : Session) (k : ℕ) (o : Option Authority) → option_map (handler_asker s k) o ≡ Some asker
        → (one : Authority) × (o ≡ Some one) × (asker.context ≡ one.context) × (asker.depth ≡ one.depth + 1)
    by_authority s k None e = absurd (none_some e)
    by_authority s k (Some one) e =
        let same : handler_asker s k one ≡ asker = some_same e in
        (one, refl, sym (ap (λ (x : Asker). x.context) same), sym (ap (λ (x : Asker). x.depth) same))

    assuming : (s : Session) (o : Option ℕ) → option_and_then (λ (s : Session). s.assumed) (session_of w.sessions (Handler j)) ≡ o
        → option_and_then (λ k. option_map (handler_asker s k) (assumed_authority w.sessions (Handler j))) o ≡ Some asker
        → (one : Authority) × (unspent w.sessions j ≡ Some one) × (asker.context ≡ one.context) × (asker.depth ≡ one.depth + 1)
    assuming s None is e = absurd (none_some e)
    assuming s (Some k) is e =
        by_authority s k (unspent w.sessions j)
        (ap (λ o. option_map (handler_asker s k) o) (sym (ap (option_and_then (unspent w.sessions)) is
        ∙ ap (unspent w.sessions) (assumes_own w.sessions j k good is))) ∙ e)

    acting : (o : Option Session) → session_of w.sessions (Handler j) ≡ o
        → option_and_then (λ s. option_and_then (λ k. option_map (handler_asker s k) (assumed_authority w.sessions (Handler j))) s.assumed) o ≡ Some asker
        → (one : Authority) × (unspent w.sessions j ≡ Some one) × (asker.context ≡ one.context) × (asker.depth ≡ one.depth + 1)
    acting None is e = absurd (none_some e)
    acting (Some s) is e = assuming s s.assumed (ap (option_and_then (λ (s : Session). s.assumed)) is) e
