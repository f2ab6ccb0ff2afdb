-- What a collect finds.
use Rattle.rk_machine.proofs.Words.{Some, None, option_map, ◌≡◌, ℕ, Bool, true, false, cond, refl, ◌⊎◌, ◌&&◌, inl, inr, subst, List, Errno, SessionId}
use Rattle.rk_machine.proofs.Words.{ready_outcome, Sessions, wait_of, Outcome, Wait, Event, is_waiting, waited, Step, told_as, Past, World, Answer, Waiting}
use Rattle.rk_machine.proofs.Words.{Refused, Collect, by_option}
use Rattle.std.specs.FinMap as map
use Rattle.rk_machine.specs.Laws.{wait_collected}

-- no wait; one that may not be collected yet; or one that is
pub data Collected (w : World) (t : SessionId) (a : Answer) : Type 0 where
  nothing : (error : Errno) → wait_of w.sessions t ≡ None → a ≡ Refused error → Collected w t a
  not_yet : (wait : Wait) → wait_of w.sessions t ≡ Some wait → ready_outcome w.sessions wait ≡ None → a ≡ Waiting wait.key → Collected w t a
  now_told : (wait : Wait) (outcome : Outcome) → wait_of w.sessions t ≡ Some wait → ready_outcome w.sessions wait ≡ Some outcome → a ≡ told_as outcome
      → Collected w t a

-- a collect finds what the session's wait has
pub at_collect : (old : World) (now : ℕ) (e : Event) (t : SessionId) (a : Answer) (new : World) → e ≡ Collect t → Step old now e a new → Collected old t a
unfolding Step
at_collect old now e t a new ev step =
    by_option (wait_of old.sessions t) _ _ _ (λ none g. nothing _ none g.0)
    (λ wait is g. by_option (ready_outcome old.sessions wait) _ _ _ (λ none f. not_yet wait is none f.0)
    (λ outcome ready f. now_told wait outcome is ready f.0) g)
    (subst (λ (y : Event). Step old now y a new) ev step)

-- an outcome that may be collected is the wait's
pub ready_is : (a : Sessions) (w : Wait) (o : Outcome) → ready_outcome a w ≡ Some o → w.outcome ≡ Some o
ready_is a w o h = by_test (w.starter && map.contains_key a.constructions w.key) h
  where
    by_test : (b : Bool) → cond b None w.outcome ≡ Some o → w.outcome ≡ Some o
    by_test true h = absurd (cc)
    by_test false h = h

-- a wait that may not be collected has none, or is a starter's whose construction goes on
pub not_ready : (a : Sessions) (w : Wait) → ready_outcome a w ≡ None
    → ((w.starter ≡ true) × (map.contains_key a.constructions w.key ≡ true)) ⊎ (w.outcome ≡ None)
not_ready a w h = by_tests w.starter (map.contains_key a.constructions w.key) refl refl h
  where
    by_tests : (b c : Bool) → w.starter ≡ b → map.contains_key a.constructions w.key ≡ c → cond (b && c) None w.outcome ≡ None
        → ((w.starter ≡ true) × (map.contains_key a.constructions w.key ≡ true)) ⊎ (w.outcome ≡ None)
    by_tests true true is there h = inl (is, there)
    by_tests true false is there h = inr h
    by_tests false c is there h = inr h

-- the list's side: a step that ends a wait on k by a collect
pub collect_of : (p : Past) (before : List Past) (k : ℕ) → wait_collected p before ≡ Some k
    → (t : SessionId) × (p.event ≡ Collect t) × (is_waiting p.answer ≡ false) × (option_map (λ (wait : ℕ × Bool). wait.0) (waited t before) ≡ Some k)
collect_of p before k h = by_event p.event refl h
  where
    by_answer : (t : SessionId) (b : Bool) → p.event ≡ Collect t → is_waiting p.answer ≡ b
        → cond b None (option_map (λ (wait : ℕ × Bool). wait.0) (waited t before)) ≡ Some k
        → (t : SessionId) × (p.event ≡ Collect t) × (is_waiting p.answer ≡ false) × (option_map (λ (wait : ℕ × Bool). wait.0) (waited t before) ≡ Some k)
    by_answer t true is waits h = absurd (cc)
    by_answer t false is waits h = (t, is, waits, h)

    by_event : (y : Event) → p.event ≡ y → wait_collected (record p { event = y }) before ≡ Some k
        → (t : SessionId) × (p.event ≡ Collect t) × (is_waiting p.answer ≡ false) × (option_map (λ (wait : ℕ × Bool). wait.0) (waited t before) ≡ Some k)
    by_event (Collect t) is h = by_answer t (is_waiting p.answer) is refl h
    by_event _ is h = absurd (cc)
