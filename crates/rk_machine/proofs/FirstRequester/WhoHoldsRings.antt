-- Which clients hold which rings: a ring is there while a client has it, and the user rings stay.
use Rattle.rk_machine.proofs.Words.{nat_eq_equiv, option_map_or, Option, Some, None, nat_eq, option_and_then, ◌==◌, ◌≡◌, ℕ, Bool, true, false, cond, refl, ap}
use Rattle.rk_machine.proofs.Words.{◌∙◌, ◌||◌, sym, ◌⊎◌, not, ◌&&◌, inl, inr, subst, eqb-true, eq-eqb, Context, RingKind, Sessions, is_shared, Session}
use Rattle.rk_machine.proofs.Words.{goes_with, is_ring, World, some_entry, no_entry, none_some, some_same, or_left, or_right}
use Rattle.std.specs.FinMap as map
use Rattle.rk_rings.specs.declared.kind.RingKind.TheVariants as kind
use Rattle.rk_machine.proofs.Effects.DrawnSerials.{is_drawn}
use Rattle.rk_machine.proofs.Effects.SerialsStayDrawn.{KeepsDrawn}
use Rattle.rk_machine.proofs.OneConstruction.EachOnce.{clash}
use Rattle.rk_machine.proofs.Effects.RingsAfter.{kind_at, is_users_kind}
use Rattle.rk_machine.proofs.Effects.ContextsAfter.{context_at}
use Rattle.rk_machine.proofs.Effects.HelloMakesRings.{Sound, Has, its_thread, its_process, its_session, Made}
use Rattle.rk_machine.proofs.Effects.OfContextsAndRings.{SameRings, SameContexts, goes_in}

-- both have this thread ring, or this process ring
abbrev pub Share : Context → Context → ℕ → Type 0
Share c d r = ((c.thread ≡ Some r) × (d.thread ≡ Some r)) ⊎ ((c.process ≡ Some r) × (d.process ≡ Some r))

-- some client has the ring
abbrev pub IsHeld : World → ℕ → RingKind → Type 0
IsHeld w r k = (n : ℕ) × (c : Context) × (context_at w.sessions n ≡ Some c) × Has c r k

-- whose the rings are: those of a context live, in their kinds; no two clients have one thread or process ring; and each ring but a user ring is somebody's
pub record Held (w : World) : Type 0 where
  pub sound : Sound w
  pub lives : (n : ℕ) (c : Context) → context_at w.sessions n ≡ Some c → (r : ℕ) (k : RingKind) → Has c r k → kind_at w r ≡ Some k
  pub alone : (m n : ℕ) (c d : Context) (r : ℕ) → context_at w.sessions m ≡ Some c → context_at w.sessions n ≡ Some d → Share c d r → m ≡ n
  pub kept : (r : ℕ) (k : RingKind) → kind_at w r ≡ Some k → is_users_kind k ≡ false → IsHeld w r k

false_true : false ≡ true → ⊥
false_true e = cc

-- ---- nothing comes or goes

-- a step that leaves rings and contexts leaves who holds which ring
pub held_same : (old new : World) → SameRings old new → SameContexts old new → KeepsDrawn old new → Held old → Held new
held_same old new rings contexts keeps h = record {
  sound = record { zero = rings 0 ∙ h.sound.zero; drawn = λ r is. rings r ∙ h.sound.drawn r (keeps r is) };
  lives = λ n c is r k has. rings r ∙ h.lives n c (sym (contexts n) ∙ is) r k has;
  alone = λ m n c d r one two share. h.alone m n c d r (sym (contexts m) ∙ one) (sym (contexts n) ∙ two) share;
  kept = λ r k is stays. let by = h.kept r k (sym (rings r) ∙ is) stays in (by.0, by.1, contexts by.0 ∙ by.2, by.3);
}

-- ---- a client gets its context

module _ (old new : World) (n : ℕ) (c : Context) (none : context_at old.sessions n ≡ None)
    (contexts : (m : ℕ) → context_at new.sessions m ≡ cond (nat_eq n m) (Some c) (context_at old.sessions m))
    (made : Made c old new) (h : Held old) where
  -- whose context it is
  whose : (m : ℕ) (d : Context) → context_at new.sessions m ≡ Some d → ((n ≡ m) × (c ≡ d)) ⊎ (context_at old.sessions m ≡ Some d)
  whose m d is = by_number (nat_eq n m) refl (sym (contexts m) ∙ is)
    where
      by_number : (b : Bool) → nat_eq n m ≡ b → cond b (Some c) (context_at old.sessions m) ≡ Some d
          → ((n ≡ m) × (c ≡ d)) ⊎ (context_at old.sessions m ≡ Some d)
      by_number true same e = inl (eqb-true n m same, some_same e)
      by_number false other e = inr e

  new_rings : (d e : Context) (r : ℕ) (m : ℕ) → c ≡ d → context_at old.sessions m ≡ Some e → Share d e r → ⊥
  new_rings d e r m same is (inl both) =
      none_some (sym (made.thread_new r (ap (λ (x : Context). x.thread) same ∙ both.0)) ∙ h.lives m e is r kind.Thread (its_thread refl both.1))
  new_rings d e r m same is (inr both) =
      none_some (sym (made.process_new r (ap (λ (x : Context). x.process) same ∙ both.0)) ∙ h.lives m e is r kind.Process (its_process refl both.1))

  turned : (d e : Context) (r : ℕ) → Share d e r → Share e d r
  turned d e r (inl both) = inl (both.1, both.0)
  turned d e r (inr both) = inr (both.1, both.0)

  living : (m : ℕ) (d : Context) → ((n ≡ m) × (c ≡ d)) ⊎ (context_at old.sessions m ≡ Some d) → (r : ℕ) (k : RingKind) → Has d r k → kind_at new r ≡ Some k
  living m d (inl its) r k has = made.lives r k (subst (λ (x : Context). Has x r k) (sym its.1) has)
  living m d (inr was) r k has = made.grown.stays r k (h.lives m d was r k has)

  apart : (l m : ℕ) (d e : Context) (r : ℕ) → ((n ≡ l) × (c ≡ d)) ⊎ (context_at old.sessions l ≡ Some d)
      → ((n ≡ m) × (c ≡ e)) ⊎ (context_at old.sessions m ≡ Some e) → Share d e r → l ≡ m
  apart l m d e r (inl one) (inl two) share = sym one.0 ∙ two.0
  apart l m d e r (inl one) (inr two) share = absurd (new_rings d e r m one.1 two share)
  apart l m d e r (inr one) (inl two) share = absurd (new_rings e d r l two.1 one (turned d e r share))
  apart l m d e r (inr one) (inr two) share = h.alone l m d e r one two share

  still_there : (m : ℕ) (d : Context) → context_at old.sessions m ≡ Some d → context_at new.sessions m ≡ Some d
  still_there m d is = contexts m ∙ by_number (nat_eq n m) refl
    where
      by_number : (b : Bool) → nat_eq n m ≡ b → cond b (Some c) (context_at old.sessions m) ≡ Some d
      by_number true same = absurd (none_some (sym (ap (context_at old.sessions) (sym (eqb-true n m same)) ∙ none) ∙ is))
      by_number false other = is

  its_own : (r : ℕ) (k : RingKind) → is_users_kind k ≡ false → (is_users_kind k ≡ true) ⊎ Has c r k → IsHeld new r k
  its_own r k stays (inl users) = absurd (clash (is_users_kind k) stays users)
  its_own r k stays (inr has) = (n, c, contexts n ∙ ap (λ b. cond b (Some c) (context_at old.sessions n)) (eq-eqb n n refl), has)

  holding : (r : ℕ) (k : RingKind) → is_users_kind k ≡ false → (kind_at old r ≡ Some k) ⊎ ((is_drawn old r ≡ false) × ((is_users_kind k ≡ true) ⊎ Has c r k))
      → IsHeld new r k
  holding r k stays (inl was) = let by = h.kept r k was stays in (by.0, by.1, still_there by.0 by.1 by.2, by.3)
  holding r k stays (inr comes) = its_own r k stays comes.1

  -- what holds of rings and their holders holds after a client's HELLO
  pub held_comes : Held new
  held_comes = record {
    sound = made.grown.sound;
    lives = λ m d is. living m d (whose m d is);
    alone = λ l m d e r one two share. apart l m d e r (whose l d one) (whose m e two) share;
    kept = λ r k is stays. holding r k stays (made.grown.made r k is);
  }

-- ---- a client goes

-- which of its rings the context has
has_thread : (c : Context) (r : ℕ) → Has c r kind.Thread → c.thread ≡ Some r
has_thread c r (its_thread same is) = is
has_thread c r (its_process same is) = absurd (cc)
has_thread c r (its_session same is) = absurd (cc)

has_process : (c : Context) (r : ℕ) → Has c r kind.Process → c.process ≡ Some r
has_process c r (its_thread same is) = absurd (cc)
has_process c r (its_process same is) = is
has_process c r (its_session same is) = absurd (cc)

has_session : (c : Context) (r : ℕ) → Has c r kind.Session → c.session ≡ r
has_session c r (its_thread same is) = absurd (cc)
has_session c r (its_process same is) = absurd (cc)
has_session c r (its_session same is) = is

ring_is : (o : Option ℕ) (r : ℕ) → is_ring o r ≡ true → o ≡ Some r
ring_is None r h = absurd (false_true h)
ring_is (Some q) r h = ap (λ (n : ℕ). Some n) (eqb-true q r h)

is_ring_of : (o : Option ℕ) (r : ℕ) → o ≡ Some r → is_ring o r ≡ true
is_ring_of o r is = ap (λ p. is_ring p r) is ∙ eq-eqb r r refl

not_true : (b : Bool) → (b ≡ true → ⊥) → b ≡ false
not_true true h = absurd (h refl)
not_true false h = refl

-- the client's session, by its context
session_with : (a : Sessions) (n : ℕ) (c : Context) → context_at a n ≡ Some c → (s : Session) × (map.get a.clients n ≡ Some s) × (s.context ≡ Some c)
session_with a n c is = by_session (map.get a.clients n) is
  where
    by_session : (o : Option Session) → option_and_then (λ one. one.context) o ≡ Some c → (s : Session) × (o ≡ Some s) × (s.context ≡ Some c)
    by_session None e = absurd (none_some e)
    by_session (Some s) e = (s, refl, e)

-- another client with that session ring shares it
shared_by : (a : Sessions) (n m : ℕ) (c : Context) (r : ℕ) → nat_eq n m ≡ false → context_at a m ≡ Some c → c.session ≡ r → is_shared a n r ≡ true
shared_by a n m c r other is same = by_shared (is_shared a n r) refl
  where
    there : (s : Session) × (map.get a.clients m ≡ Some s) × (s.context ≡ Some c)
    there = session_with a m c is

    by_shared : (b : Bool) → is_shared a n r ≡ b → b ≡ true
    by_shared true e = refl
    by_shared false e = absurd (clash _ (no_entry _ a.clients e m there.0 there.1)
        ((λ i. not (nat_eq_equiv.symm m n i) && option_map_or (λ (x : Context). x.session == r) (there.2 i) false)
        ∙ (λ i. not (other i) && eq-eqb c.session r same i)))

-- if it is shared, another client has it
sharer : (a : Sessions) (n r : ℕ) → is_shared a n r ≡ true → (m : ℕ) × (c : Context) × (nat_eq n m ≡ false) × (context_at a m ≡ Some c) × (c.session ≡ r)
sharer a n r is = by_entry found.0 found.1 found.2 found.3
  where
    found : (m : ℕ) × (s : Session) × (map.get a.clients m ≡ Some s)
        × ((not (nat_eq m n) && option_map_or (λ (c : Context). c.session == r) s.context false) ≡ true)
    found = some_entry (λ (e : ℕ × Session). not (nat_eq e.0 n) && option_map_or (λ (c : Context). c.session == r) e.1.context false) a.clients is

    by_context : (m : ℕ) (s : Session) (o : Option Context) → map.get a.clients m ≡ Some s → s.context ≡ o → nat_eq m n ≡ false
        → option_map_or (λ (c : Context). c.session == r) o false ≡ true
        → (m : ℕ) × (c : Context) × (nat_eq n m ≡ false) × (context_at a m ≡ Some c) × (c.session ≡ r)
    by_context m s None at context other e = absurd (false_true e)
    by_context m s (Some c) at context other e =
        (m, c, nat_eq_equiv.symm n m ∙ other, ap (option_and_then (λ (one : Session). one.context)) at ∙ context, eqb-true c.session r e)

    by_entry : (m : ℕ) (s : Session) → map.get a.clients m ≡ Some s
        → (not (nat_eq m n) && option_map_or (λ (c : Context). c.session == r) s.context false) ≡ true
        → (m : ℕ) × (c : Context) × (nat_eq n m ≡ false) × (context_at a m ≡ Some c) × (c.session ≡ r)
    by_entry m s at e = by_number (nat_eq m n) refl e
      where
        by_number : (b : Bool) → nat_eq m n ≡ b → (not b && option_map_or (λ (c : Context). c.session == r) s.context false) ≡ true
            → (m : ℕ) × (c : Context) × (nat_eq n m ≡ false) × (context_at a m ≡ Some c) × (c.session ≡ r)
        by_number true same e = absurd (false_true e)
        by_number false other e = by_context m s s.context at refl other e

module _ (old new : World) (n : ℕ) (contexts : (m : ℕ) → context_at new.sessions m ≡ cond (nat_eq n m) None (context_at old.sessions m))
    (rings : (r : ℕ) → kind_at new r ≡ cond (goes_in old n r) None (kind_at old r)) (keeps : KeepsDrawn old new) (h : Held old) where
  -- another client's
  others : (m : ℕ) (c : Context) → context_at new.sessions m ≡ Some c → (nat_eq n m ≡ false) × (context_at old.sessions m ≡ Some c)
  others m c is = by_number (nat_eq n m) refl (sym (contexts m) ∙ is)
    where
      by_number : (b : Bool) → nat_eq n m ≡ b → cond b None (context_at old.sessions m) ≡ Some c → (nat_eq n m ≡ false) × (context_at old.sessions m ≡ Some c)
      by_number true same e = absurd (none_some e)
      by_number false other e = (other, e)

  -- a ring of another client does not go
  not_going : (m : ℕ) (c : Context) (r : ℕ) (k : RingKind) → nat_eq n m ≡ false → context_at old.sessions m ≡ Some c → Has c r k → goes_in old n r ≡ false
  not_going m c r k other is has = by_context (context_at old.sessions n) refl
    where
      both_have : (d : Context) (j : RingKind) → context_at old.sessions n ≡ Some d → Has d r j → Has c r j
      both_have d j at of = subst (λ (x : RingKind). Has c r x) (some_same (sym (h.lives m c is r k has) ∙ h.lives n d at r j of)) has

      not_alone : (d : Context) → context_at old.sessions n ≡ Some d → Share d c r → ⊥
      not_alone d at share = clash (nat_eq n m) other (eq-eqb n m (h.alone n m d c r at is share))

      no_thread : (d : Context) → context_at old.sessions n ≡ Some d → is_ring d.thread r ≡ true → ⊥
      no_thread d at e = let own = ring_is d.thread r e in not_alone d at (inl (own, has_thread c r (both_have d kind.Thread at (its_thread refl own))))

      no_process : (d : Context) → context_at old.sessions n ≡ Some d → is_ring d.process r ≡ true → ⊥
      no_process d at e = let own = ring_is d.process r e in not_alone d at (inr (own, has_process c r (both_have d kind.Process at (its_process refl own))))

      session_stays : (d : Context) (b : Bool) → context_at old.sessions n ≡ Some d → (d.session == r) ≡ b
          → (b && not (is_shared old.sessions n d.session)) ≡ false
      session_stays d true at e =
          let own : d.session ≡ r = eqb-true d.session r e in
          ap not (shared_by old.sessions n m c d.session other is (has_session c r (both_have d kind.Session at (its_session refl own)) ∙ sym own))
      session_stays d false at e = refl

      by_context : (o : Option Context) → context_at old.sessions n ≡ o → option_map_or (λ c. goes_with old n c r) o false ≡ false
      by_context None at = refl
      by_context (Some d) at =
          (λ i. not_true (is_ring d.thread r) (no_thread d at) i || not_true (is_ring d.process r) (no_process d at) i || session_stays d
          (d.session == r) at refl i)

  -- a ring that does not go has another client
  passed_on : (r : ℕ) (k : RingKind) (d : Context) → goes_in old n r ≡ false → context_at old.sessions n ≡ Some d → Has d r k
      → (m : ℕ) × (c : Context) × (nat_eq n m ≡ false) × (context_at old.sessions m ≡ Some c) × Has c r k
  passed_on r k d stays at has = by_ring has
    where
      stays_with : goes_with old n d r ≡ false
      stays_with = ap (λ (o : Option Context). option_map_or (λ c. goes_with old n c r) o false) (sym at) ∙ stays

      own_stay : (is_ring d.thread r || is_ring d.process r) ≡ false
      own_stay = or_left (is_ring d.thread r || is_ring d.process r) _ stays_with

      shared : d.session ≡ r → is_shared old.sessions n r ≡ true
      shared same = by_test (is_shared old.sessions n r) refl
        where
          by_test : (b : Bool) → is_shared old.sessions n r ≡ b → b ≡ true
          by_test true e = refl
          by_test false e =
              absurd (clash _ (or_right (is_ring d.thread r || is_ring d.process r) _ stays_with)
              ((λ i. eq-eqb d.session r same i && not (is_shared old.sessions n (same i))) ∙ ap not e))

      by_ring : Has d r k → (m : ℕ) × (c : Context) × (nat_eq n m ≡ false) × (context_at old.sessions m ≡ Some c) × Has c r k
      by_ring (its_thread same is) = absurd (clash _ (or_left (is_ring d.thread r) _ own_stay) (is_ring_of d.thread r is))
      by_ring (its_process same is) = absurd (clash _ (or_right (is_ring d.thread r) _ own_stay) (is_ring_of d.process r is))
      by_ring (its_session same is) = let one = sharer old.sessions n r (shared is) in (one.0, one.1, one.2, one.3, its_session same one.4)

  still_held : (r : ℕ) (k : RingKind) → goes_in old n r ≡ false → IsHeld old r k → IsHeld new r k
  still_held r k stays by = by_number (nat_eq n by.0) refl
    where
      remains : (m : ℕ) (c : Context) → nat_eq n m ≡ false → context_at old.sessions m ≡ Some c → context_at new.sessions m ≡ Some c
      remains m c other is = contexts m ∙ ap (λ b. cond b None (context_at old.sessions m)) other ∙ is

      by_number : (b : Bool) → nat_eq n by.0 ≡ b → IsHeld new r k
      by_number true same =
          let one = passed_on r k by.1 stays (ap (context_at old.sessions) (eqb-true n by.0 same) ∙ by.2) by.3 in
          (one.0, one.1, remains one.0 one.1 one.2 one.3, one.4)
      by_number false other = (by.0, by.1, remains by.0 by.1 other by.2, by.3)

  none_at : (r : ℕ) (b : Bool) → kind_at old r ≡ None → cond b None (kind_at old r) ≡ None
  none_at r true none = refl
  none_at r false none = none

  stayed : (r : ℕ) (k : RingKind) → kind_at new r ≡ Some k → (goes_in old n r ≡ false) × (kind_at old r ≡ Some k)
  stayed r k is = by_test (goes_in old n r) refl (sym (rings r) ∙ is)
    where
      by_test : (b : Bool) → goes_in old n r ≡ b → cond b None (kind_at old r) ≡ Some k → (goes_in old n r ≡ false) × (kind_at old r ≡ Some k)
      by_test true goes e = absurd (none_some e)
      by_test false goes e = (goes, e)

  -- what holds of rings and their holders holds after a client is gone
  pub held_goes : Held new
  held_goes = record {
    sound =
        record {
          zero = rings 0 ∙ none_at 0 (goes_in old n 0) h.sound.zero;
          drawn = λ r is. rings r
              ∙ none_at r (goes_in old n r) (h.sound.drawn r (keeps r is));
        };
    lives = λ m c is r k has.
        let was = others m c is in
        rings r ∙ ap (λ b. cond b None (kind_at old r)) (not_going m c r k was.0 was.1 has) ∙ h.lives m c was.1 r k has;
    alone = λ l m c d r one two share. h.alone l m c d r (others l c one).1 (others m d two).1 share;
    kept = λ r k is users. let was = stayed r k is in still_held r k was.0 (h.kept r k was.1 users);
  }
