-- What a subject shows of a ring: its number while a client holds it, and 0 after that.
use Rattle.rk_machine.proofs.Words.{list_any, option_map_or, Option, Some, None, is_some, option_map, option_and_then, unwrap_or, ◌==◌, ◌≡◌, ℕ, Bool, true}
use Rattle.rk_machine.proofs.Words.{false, cond, refl, ap, ◌∙◌, ◌||◌, sym, inl, inr, subst, List, [], ◌∷◌, eqb-true, eq-eqb, Context, is_one_of, live, Ring}
use Rattle.rk_machine.proofs.Words.{RingKind, Session, Root, holds, Shows, Past, World, some_entry, no_entry, none_some, some_same}
use Rattle.std.specs.FinMap as map
use Rattle.rk_rings.specs.declared.kind.RingKind.TheVariants as kind
use Rattle.rk_machine.proofs.Effects.DrawnSerials.{is_drawn}
use Rattle.rk_machine.proofs.Effects.SerialsStayDrawn.{KeepsDrawn}
use Rattle.rk_machine.proofs.OneConstruction.EachOnce.{clash}
use Rattle.rk_machine.proofs.Effects.RingsAfter.{kind_at, is_users_kind}
use Rattle.rk_machine.proofs.Effects.ContextsAfter.{context_at}
use Rattle.rk_machine.proofs.Effects.HelloMakesRings.{Has, its_thread, its_process, its_session}
use Rattle.rk_machine.proofs.Effects.OfContextsAndRings.{root_in}
use Rattle.rk_machine.proofs.FirstRequester.WhoHoldsRings.{Held}

-- ---- rings of a context, as HELLO was answered

-- the ring is among those that the root's HELLO was answered
abbrev pub has_ring : Root → ℕ → Bool
has_ring root ring = is_one_of ring (root.thread ∷ root.process ∷ root.session ∷ [])

-- the ring is among those of a context, if there is one
abbrev pub holds_in : Option Context → ℕ → Bool
holds_in o ring = option_map_or (λ c. has_ring (root_in c) ring) o false

first_true : (a b : Bool) → a ≡ true → (a || b) ≡ true
first_true a b h = ap (λ x. x || b) h

second_true : (a b : Bool) → b ≡ true → (a || b) ≡ true
second_true true b h = refl
second_true false b h = h

named : (o : Option ℕ) (r : ℕ) → o ≡ Some r → (unwrap_or o 0 == r) ≡ true
named o r is = ap (λ p. unwrap_or p 0 == r) is ∙ eq-eqb r r refl

answered : (c : Context) (r : ℕ) (k : RingKind) → Has c r k → has_ring (root_in c) r ≡ true
answered c r k (its_thread same is) = first_true (unwrap_or c.thread 0 == r) _ (named c.thread r is)
answered c r k (its_process same is) = second_true (unwrap_or c.thread 0 == r) _ (first_true (unwrap_or c.process 0 == r) _ (named c.process r is))
answered c r k (its_session same is) =
    second_true (unwrap_or c.thread 0 == r) _ (second_true (unwrap_or c.process 0 == r) _ (first_true (c.session == r) _ (eq-eqb c.session r is)))

not_none : (o : Option ℕ) (r : ℕ) → (r ≡ 0 → ⊥) → unwrap_or o 0 ≡ r → o ≡ Some r
not_none None r positive is = absurd (positive (sym is))
not_none (Some q) r positive is = ap (λ (n : ℕ). Some n) is

has_answered : (c : Context) (r : ℕ) → (r ≡ 0 → ⊥) → has_ring (root_in c) r ≡ true → (k : RingKind) × Has c r k
has_answered c r positive h = by_tests (unwrap_or c.thread 0 == r) (unwrap_or c.process 0 == r) (c.session == r) refl refl refl h
  where
    by_tests : (t p s : Bool) → (unwrap_or c.thread 0 == r) ≡ t → (unwrap_or c.process 0 == r) ≡ p → (c.session == r) ≡ s → (t || (p || (s || false))) ≡ true
        → (k : RingKind) × Has c r k
    by_tests true p s thread process session h = (kind.Thread, its_thread refl (not_none c.thread r positive (eqb-true _ r thread)))
    by_tests false true s thread process session h = (kind.Process, its_process refl (not_none c.process r positive (eqb-true _ r process)))
    by_tests false false true thread process session h = (kind.Session, its_session refl (eqb-true c.session r session))
    by_tests false false false thread process session h = absurd (cc)

-- ---- rings that a context once had

-- it was drawn, and is no user ring
pub record IsPast (w : World) (r : ℕ) : Type 0 where
  pub positive : r ≡ 0 → ⊥
  pub drawn : is_drawn w r ≡ true
  pub not_users : (k : RingKind) → kind_at w r ≡ Some k → is_users_kind k ≡ false

-- each ring of the context is so
abbrev pub Fits : World → Context → Type 0
Fits w c = (r : ℕ) (k : RingKind) → Has c r k → IsPast w r

no_users : (c : Context) (r : ℕ) (k : RingKind) → Has c r k → is_users_kind k ≡ false
no_users c r k (its_thread same is) = ap is_users_kind same
no_users c r k (its_process same is) = ap is_users_kind same
no_users c r k (its_session same is) = ap is_users_kind same

is_true : (b : Bool) → (b ≡ false → ⊥) → b ≡ true
is_true true h = refl
is_true false h = absurd (h refl)

-- a client's rings are so
pub client_fits : (w : World) (n : ℕ) (c : Context) → Held w → context_at w.sessions n ≡ Some c → Fits w c
client_fits w n c h is r k has =
    let there : kind_at w r ≡ Some k = h.lives n c is r k has in
    record {
      positive = λ zero. none_some (sym h.sound.zero ∙ ap (kind_at w) (sym zero) ∙ there);
      drawn = is_true (is_drawn w r) (λ fresh. none_some (sym (h.sound.drawn r fresh) ∙ there));
      not_users = λ j at. subst (λ (x : RingKind). is_users_kind x ≡ false) (some_same (sym there ∙ at)) (no_users c r k has);
    }

-- and stay so while none comes under their serials
pub fits_on : (old new : World) (c : Context) → KeepsDrawn old new
    → ((r : ℕ) (k : RingKind) → is_drawn old r ≡ true → kind_at new r ≡ Some k → kind_at old r ≡ Some k) → Fits old c → Fits new c
fits_on old new c keeps fewer fits r k has =
    let was = fits r k has in
    record {
      positive = was.positive;
      drawn = is_true (is_drawn new r) (λ fresh. clash _ (keeps r fresh) was.drawn);
      not_users = λ j at. was.not_users j (fewer r j was.drawn at);
    }

-- ---- what is shown

-- a client whose HELLO had 0 for some ring
abbrev has_none : ℕ × Session → Bool
has_none e = holds_in e.1.context 0

module _ (past : List Past) (w : World) (h : Held w) (holders : (n ring : ℕ) → holds n ring past ≡ holds_in (context_at w.sessions n) ring) where
  none_has_none : list_any has_none (map.entries w.sessions.clients) ≡ false → (n : ℕ) → holds n 0 past ≡ false
  none_has_none is n = holders n 0 ∙ by_client (map.get w.sessions.clients n) refl
    where
      by_client : (o : Option Session) → map.get w.sessions.clients n ≡ o → holds_in (option_and_then (λ one. one.context) o) 0 ≡ false
      by_client None at = refl
      by_client (Some s) at = no_entry has_none w.sessions.clients is n s at

  shows_none : Shows past 0 0
  shows_none = by_test (list_any has_none (map.entries w.sessions.clients)) refl
    where
      by_test : (b : Bool) → list_any has_none (map.entries w.sessions.clients) ≡ b → Shows past 0 0
      by_test true is =
          let one = some_entry has_none w.sessions.clients is in
          inl ((one.0, holders one.0 0 ∙ ap (λ o. holds_in (option_and_then (λ (s : Session). s.context) o) 0) one.2 ∙ one.3), refl)
      by_test false is = inr (none_has_none is, refl)

  -- a ring that was drawn and is no user ring is shown by its number while a client holds it, and as 0 after that
  pub shows_ring : (r : ℕ) → IsPast w r → Shows past r (unwrap_or (live w.rings (Some r)) 0)
  shows_ring r fits = by_ring (map.get w.rings r) refl
    where
      holding : (k : RingKind) → kind_at w r ≡ Some k → (n : ℕ) × (holds n r past ≡ true)
      holding k is =
          let by = h.kept r k is (fits.not_users k is) in
          (by.0, holders by.0 r ∙ ap (λ o. holds_in o r) by.2 ∙ answered by.1 r k by.3)

      dropped : kind_at w r ≡ None → (n : ℕ) → holds n r past ≡ false
      dropped none n = holders n r ∙ by_context (context_at w.sessions n) refl
        where
          by_context : (o : Option Context) → context_at w.sessions n ≡ o → holds_in o r ≡ false
          by_context None at = refl
          by_context (Some c) at = by_test (has_ring (root_in c) r) refl
            where
              by_test : (b : Bool) → has_ring (root_in c) r ≡ b → b ≡ false
              by_test true is = let has = has_answered c r fits.positive is in absurd (none_some (sym none ∙ h.lives n c at r has.0 has.1))
              by_test false is = refl

      by_ring : (o : Option Ring) → map.get w.rings r ≡ o → Shows past r (unwrap_or (cond (is_some o) (Some r) None) 0)
      by_ring None at = inr (dropped (ap (option_map (λ (x : Ring). x.kind)) at), refl)
      by_ring (Some one) at = inl (holding one.kind (ap (option_map (λ (x : Ring). x.kind)) at), refl)

  -- a ring that may be absent
  pub shows_some : (o : Option ℕ) → ((r : ℕ) → o ≡ Some r → IsPast w r) → Shows past (unwrap_or o 0) (unwrap_or (live w.rings o) 0)
  shows_some None fits = shows_none
  shows_some (Some r) fits = shows_ring r (fits r refl)
