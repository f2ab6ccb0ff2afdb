-- HELLO makes the rings of a context, each under a serial that was never drawn.
use Rattle.rk_machine.proofs.Words.{◌≡◌, ℕ, ◌∙◌, ◌||◌, ◌⊎◌, ◌<◌, Bool, true, false, cond, refl, ap, sym, not, inl, inr, arith, subst, option_map_or, Option}
use Rattle.rk_machine.proofs.Words.{Some, None, nat_eq, option_map, eqb-true, eq-eqb, ne_eqb, Context, Ring, empty_ring, is_sessions, RingKind, refused_if}
use Rattle.rk_machine.proofs.Words.{Greeting, Makes, MakesIf, HasSessionRing, HasUserRing, MakesRings, join_refusal, World, true_false, none_some, some_same}
use Rattle.rk_machine.proofs.Words.{or_left, or_right, not_not, if_none}
use Rattle.std.specs.FinMap as map
use Rattle.rk_names.specs.declared.errors.Errno.TheVariants as errno
use Rattle.rk_rings.specs.declared.kind.RingKind.TheVariants as kind
use Rattle.rk_machine.proofs.Effects.DrawnSerials.{is_drawn, drawn_is}
use Rattle.rk_machine.proofs.Effects.RingsAfter.{kind_at, is_users_kind, kind_made}

-- ---- rings and contexts

-- 0 is no ring, and what bears a serial has drawn it
pub record Sound (w : World) : Type 0 where
  pub zero : kind_at w 0 ≡ None
  pub drawn : (r : ℕ) → is_drawn w r ≡ false → kind_at w r ≡ None

-- the context has this ring, as one of this kind; the user ring is left out
pub data Has (c : Context) (r : ℕ) (k : RingKind) : Type 0 where
  its_thread : k ≡ kind.Thread → c.thread ≡ Some r → Has c r k
  its_process : k ≡ kind.Process → c.process ≡ Some r → Has c r k
  its_session : k ≡ kind.Session → c.session ≡ r → Has c r k

-- all its rings are there
abbrev pub Lives : World → Context → Type 0
Lives w c = (r : ℕ) (k : RingKind) → Has c r k → kind_at w r ≡ Some k

-- ---- rings that come

-- what was there stays, and what comes has a new serial and is one of the context's or a user ring
pub record Grown (c : Context) (old new : World) : Type 0 where
  pub sound : Sound new
  pub stays : (r : ℕ) (k : RingKind) → kind_at old r ≡ Some k → kind_at new r ≡ Some k
  pub made : (r : ℕ) (k : RingKind) → kind_at new r ≡ Some k → (kind_at old r ≡ Some k) ⊎ ((is_drawn old r ≡ false) × ((is_users_kind k ≡ true) ⊎ Has c r k))
  pub keeps : (r : ℕ) → is_drawn new r ≡ false → is_drawn old r ≡ false

module _ (c : Context) where
  unmoved : (old new : World) → new ≡ old → Sound old → Grown c old new
  unmoved old new e s = subst (λ (w : World). Grown c old w) (sym e) (record { sound = s; stays = λ r k is. is; made = λ r k is. inl is; keeps = λ r is. is })

  both : (a b d : World) → Grown c a b → Grown c b d → Grown c a d
  both a b d f g = record {
    sound = g.sound;
    stays = λ r k is. g.stays r k (f.stays r k is);
    made = λ r k is. by_origin r k (g.made r k is);
    keeps = λ r is. f.keeps r (g.keeps r is);
  }
    where
      by_origin : (r : ℕ) (k : RingKind) → (kind_at b r ≡ Some k) ⊎ ((is_drawn b r ≡ false) × ((is_users_kind k ≡ true) ⊎ Has c r k))
          → (kind_at a r ≡ Some k) ⊎ ((is_drawn a r ≡ false) × ((is_users_kind k ≡ true) ⊎ Has c r k))
      by_origin r k (inl is) = f.made r k is
      by_origin r k (inr new) = inr (f.keeps r new.0, new.1)

  module _ (ring_kind : RingKind) (uid : ℕ) (old new : World) (ring : ℕ) (h : Makes ring_kind uid old new ring) (sound : Sound old)
      (own : (is_users_kind ring_kind ≡ true) ⊎ Has c ring ring_kind) where
    kind_after : (r : ℕ) → kind_at new r ≡ cond (nat_eq ring r) (Some ring_kind) (kind_at old r)
    kind_after r = ap (λ (w : World). kind_at w r) h.1 ∙ kind_made ring (empty_ring ring_kind uid) old.rings r

    drawn_after : (r : ℕ) → is_drawn new r ≡ (nat_eq ring r || is_drawn old r)
    drawn_after r = ap (λ (w : World). is_drawn w r) h.1 ∙ drawn_is ring old r

    not_zero : ring ≡ 0 → ⊥
    not_zero e = let positive : 0 < ring = h.0.positive in omega arith

    stays_by : (r : ℕ) (k : RingKind) (b : Bool) → nat_eq ring r ≡ b → kind_at old r ≡ Some k → cond b (Some ring_kind) (kind_at old r) ≡ Some k
    stays_by r k true same is = absurd (none_some (sym (ap (kind_at old) (sym (eqb-true ring r same)) ∙ sound.drawn ring h.0.unused) ∙ is))
    stays_by r k false other is = is

    made_by : (r : ℕ) (k : RingKind) (b : Bool) → nat_eq ring r ≡ b → cond b (Some ring_kind) (kind_at old r) ≡ Some k
        → (kind_at old r ≡ Some k) ⊎ ((is_drawn old r ≡ false) × ((is_users_kind k ≡ true) ⊎ Has c r k))
    made_by r k true same is = inr (
      ap (is_drawn old) (sym (eqb-true ring r same)) ∙ h.0.unused,
      subst (λ (x : RingKind). (is_users_kind x ≡ true) ⊎ Has c r x) (some_same is)
          (subst (λ (n : ℕ). (is_users_kind ring_kind ≡ true) ⊎ Has c n ring_kind) (eqb-true ring r same) own),
    )
    made_by r k false other is = inl is

    one_made : Grown c old new
    one_made = record {
      sound = record {
        zero = kind_after 0 ∙ ap (λ b. cond b (Some ring_kind) (kind_at old 0)) (ne_eqb ring 0 not_zero) ∙ sound.zero;
        drawn = λ r is. let none = sym (drawn_after r) ∙ is in
            kind_after r ∙ ap (λ b. cond b (Some ring_kind) (kind_at old r)) (or_left (nat_eq ring r) (is_drawn old r) none)
            ∙ sound.drawn r (or_right (nat_eq ring r) (is_drawn old r) none);
      };
      stays = λ r k is. kind_after r ∙ stays_by r k (nat_eq ring r) refl is;
      made = λ r k is. made_by r k (nat_eq ring r) refl (sym (kind_after r) ∙ is);
      keeps = λ r is. or_right (nat_eq ring r) (is_drawn old r) (sym (drawn_after r) ∙ is);
    }

    made_there : kind_at new ring ≡ Some ring_kind
    made_there = kind_after ring ∙ ap (λ b. cond b (Some ring_kind) (kind_at old ring)) (eq-eqb ring ring refl)

-- ---- HELLO

-- all that HELLO makes of a context
pub record Made (c : Context) (old new : World) : Type 0 where
  pub grown : Grown c old new
  pub lives : Lives new c
  pub thread_new : (r : ℕ) → c.thread ≡ Some r → kind_at old r ≡ None
  pub process_new : (r : ℕ) → c.process ≡ Some r → kind_at old r ≡ None

-- a ring that may be joined is there, and a session ring
joined_ring : (w : World) (g : Greeting) → join_refusal w g ≡ None → (j : ℕ) → g.join ≡ Some j → kind_at w j ≡ Some kind.Session
joined_ring w g none j is =
    by_ring (map.get w.rings j) (sym (ap (λ o. option_map_or
    (λ join. option_map_or (λ r. refused_if (not (is_sessions r.kind r.uid g.uid)) errno.Eacces) (map.get w.rings join) (Some errno.Enokey)) o None) is) ∙ none)
  where
    by_kind : (k : RingKind) (owner : ℕ) → is_sessions k owner g.uid ≡ true → k ≡ kind.Session
    by_kind kind.Session owner h = refl
    by_kind kind.Thread owner h = absurd (true_false (sym h))
    by_kind kind.Process owner h = absurd (true_false (sym h))
    by_kind kind.User owner h = absurd (true_false (sym h))

    by_ring : (o : Option Ring) → option_map_or (λ r. refused_if (not (is_sessions r.kind r.uid g.uid)) errno.Eacces) o (Some errno.Enokey) ≡ None
        → option_map (λ r. r.kind) o ≡ Some kind.Session
    by_ring None h = absurd (cc)
    by_ring (Some r) h = ap (λ (k : RingKind). Some k) (by_kind r.kind r.uid (not_not _ (if_none _ errno.Eacces h)))

module _ (c : Context) where
  if_made : (b : Bool) (k : RingKind) (uid : ℕ) (old new : World) (ring : Option ℕ) → MakesIf b k uid old new ring → Sound old
      → ((r : ℕ) → ring ≡ Some r → Has c r k)
      → Grown c old new × ((r : ℕ) → ring ≡ Some r → (kind_at new r ≡ Some k) × (is_drawn old r ≡ false))
  if_made false k uid old new ring h s own = (unmoved c old new h.1 s, λ r is. absurd (none_some (sym h.0 ∙ is)))
  if_made true k uid old new ring h s own = (
    one_made c k uid old new h.0 h.2 s (inr (own h.0 h.1)),
    λ r is.
        let same : h.0 ≡ r = some_same (sym h.1 ∙ is) in
        (ap (kind_at new) (sym same) ∙ made_there c k uid old new h.0 h.2 s (inr (own h.0 h.1)), ap (is_drawn old) (sym same) ∙ h.2.0.unused),
  )

  session_made : (join : Option ℕ) (uid : ℕ) (old new : World) (ring : ℕ) → HasSessionRing join uid old new ring → Sound old
      → ((j : ℕ) → join ≡ Some j → kind_at old j ≡ Some kind.Session) → Has c ring kind.Session
      → Grown c old new × (kind_at new ring ≡ Some kind.Session)
  session_made None uid old new ring h s joined own =
      (one_made c kind.Session uid old new ring h s (inr own), made_there c kind.Session uid old new ring h s (inr own))
  session_made (Some j) uid old new ring h s joined own =
      (unmoved c old new h.1 s, ap (λ (w : World). kind_at w ring) h.1 ∙ ap (kind_at old) h.0 ∙ joined j refl)

  user_made : (uid : ℕ) (old new : World) (ring : ℕ) → HasUserRing uid old new ring → Sound old → Grown c old new
  user_made uid old new ring (inl h) s = unmoved c old new h.3 s
  user_made uid old new ring (inr h) s = one_made c kind.User uid old new ring h.1 s (inl refl)

-- the context that a HELLO asks for, with these rings
abbrev pub greeted_as : Greeting → Option ℕ → Option ℕ → ℕ → ℕ → Context
greeted_as g thread process session user = record { uid = g.uid; gid = g.gid; thread = thread; process = process; session = session; user = user }

-- in a sound world, a HELLO that is not refused makes all that its context needs
pub made_all : (g : Greeting) (old new : World) (thread process : Option ℕ) (session user : ℕ) → MakesRings g old new thread process session user → Sound old
    → join_refusal old g ≡ None
    → Made (greeted_as g thread process session user) old new
made_all g old new thread process session user h sound free =
    let c : Context = greeted_as g thread process session user in
    let one = if_made c g.thread kind.Thread g.uid old h.w1 thread h.thread_made sound (λ r is. its_thread refl is) in
    let two = if_made c g.process kind.Process g.uid h.w1 h.w2 process h.process_made one.0.sound (λ r is. its_process refl is) in
    let to_two : Grown c old h.w2 = both c old h.w1 h.w2 one.0 two.0 in
    let three =
    session_made c g.join g.uid h.w2 h.w3 session h.session_made two.0.sound (λ j is. to_two.stays j kind.Session (joined_ring old g free j is))
    (its_session refl refl) in
    let four : Grown c h.w3 new = user_made c g.uid h.w3 new user h.user_made three.0.sound in
    let from_two : Grown c h.w2 new = both c h.w2 h.w3 new three.0 four in
    let from_one : Grown c h.w1 new = both c h.w1 h.w2 new two.0 from_two in
    record {
      grown = both c old h.w1 new one.0 from_one;
      lives =
          λ r k has. living r k has (λ is. from_one.stays r kind.Thread (one.1 r is).0) (λ is. from_two.stays r kind.Process (two.1 r is).0)
          (four.stays session kind.Session three.1);
      thread_new = λ r is. sound.drawn r (one.1 r is).1;
      process_new = λ r is. sound.drawn r (one.0.keeps r (two.1 r is).1);
    }
  where
    living : (r : ℕ) (k : RingKind) → Has (greeted_as g thread process session user) r k → (thread ≡ Some r → kind_at new r ≡ Some kind.Thread)
        → (process ≡ Some r → kind_at new r ≡ Some kind.Process)
        → kind_at new session ≡ Some kind.Session → kind_at new r ≡ Some k
    living r k (its_thread same is) as_thread as_process as_session = as_thread is ∙ ap (λ (x : RingKind). Some x) (sym same)
    living r k (its_process same is) as_thread as_process as_session = as_process is ∙ ap (λ (x : RingKind). Some x) (sym same)
    living r k (its_session same is) as_thread as_process as_session = ap (kind_at new) (sym is) ∙ as_session ∙ ap (λ (x : RingKind). Some x) (sym same)
