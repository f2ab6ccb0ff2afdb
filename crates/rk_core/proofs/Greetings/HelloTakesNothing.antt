-- HELLO makes rings under serials that were never drawn, and takes no link away.
use Rattle.rk_core.proofs.Words.{◌≡◌, ℕ, Bool, true, false, cond, refl, sym, ap, ◌∙◌, inl, inr, subst, Option, Some, None, nat_eq, eqb-true, both_ways}
use Rattle.rk_core.proofs.Words.{RingKind, empty_ring, is_linked, World, Greeting, Makes, MakesIf, HasSessionRing, HasUserRing, MakesRings, get_inserted}
use Rattle.rk_core.proofs.Words.{is_drawn, KeepsDrawn, if_drawn, session_drawn, user_drawn}
use Rattle.std.specs.FinMap as map
use Rattle.rk_rings.specs.declared.kind.RingKind.TheVariants as kind
use Rattle.rk_core.proofs.LinksAndNames.LinksAfter.{has_key}
use Rattle.rk_core.proofs.Stepping.UndrawnIsNothing.{none_inserted, apart}

abbrev pub RingsFree : World → Type 0
RingsFree w = (q : ℕ) → is_drawn w q ≡ false → map.get w.rings q ≡ None

-- each link stays, and each ring has drawn its serial
pub record Grows (old new : World) : Type 0 where
  pub links : (ring k : ℕ) → is_linked old.rings ring k ≡ true → is_linked new.rings ring k ≡ true
  pub free : RingsFree new

grows_not : (old new : World) → new ≡ old → RingsFree old → Grows old new
grows_not old new e h = subst (Grows old) (sym e) (record { links = λ ring k l. l; free = h })

grows_twice : (a b c : World) → Grows a b → Grows b c → Grows a c
grows_twice a b c f g = record { links = λ ring k l. g.links ring k (f.links ring k l); free = g.free }

made : (kind : RingKind) (uid : ℕ) (old new : World) (ring : ℕ) → Makes kind uid old new ring → RingsFree old → KeepsDrawn old new → Grows old new
made kind uid old new ring h free keeps = record {
  links =
      λ r k l. ap (λ (w : World). is_linked w.rings r k) h.1 ∙ ap (has_key k) (get_inserted old.rings ring (empty_ring kind uid) r)
      ∙ by_ring r k l (nat_eq ring r) refl;
  free =
      λ q n. ap (λ (w : World). map.get w.rings q) h.1 ∙ none_inserted old.rings ring (empty_ring kind uid) q
      (apart ring q old (sym (ap (λ (w : World). is_drawn w q) h.1) ∙ n)) (free q (keeps q n));
}
  where
    by_ring : (r k : ℕ) → is_linked old.rings r k ≡ true → (b : Bool) → nat_eq ring r ≡ b
        → has_key k (cond b (Some (empty_ring kind uid)) (map.get old.rings r)) ≡ true
    by_ring r k l true t = absurd (both_ways _ (ap (has_key k) (ap (map.get old.rings) (sym (eqb-true ring r t)) ∙ free ring h.0.unused)) l)
    by_ring r k l false t = l

made_if : (b : Bool) (kind : RingKind) (uid : ℕ) (old new : World) (ring : Option ℕ) → MakesIf b kind uid old new ring → RingsFree old → KeepsDrawn old new
    → Grows old new
made_if false kind uid old new ring h free keeps = grows_not old new h.1 free
made_if true kind uid old new ring h free keeps = made kind uid old new h.0 h.2 free keeps

session_made : (join : Option ℕ) (uid : ℕ) (old new : World) (ring : ℕ) → HasSessionRing join uid old new ring → RingsFree old → KeepsDrawn old new
    → Grows old new
session_made None uid old new ring h free keeps = made kind.Session uid old new ring h free keeps
session_made (Some join) uid old new ring h free keeps = grows_not old new h.1 free

user_made : (uid : ℕ) (old new : World) (ring : ℕ) → HasUserRing uid old new ring → RingsFree old → KeepsDrawn old new → Grows old new
user_made uid old new ring (inl h) free keeps = grows_not old new h.3 free
user_made uid old new ring (inr h) free keeps = made kind.User uid old new ring h.1 free keeps

-- making the rings of HELLO keeps each link, and draws each ring's serial
pub rings_grow : (g : Greeting) (old new : World) (thread process : Option ℕ) (session user : ℕ) → MakesRings g old new thread process session user
    → RingsFree old → Grows old new
rings_grow g old new thread process session user h free =
    let one : Grows old h.w1 =
    made_if g.thread kind.Thread g.uid old h.w1 thread h.thread_made free (if_drawn g.thread kind.Thread g.uid old h.w1 thread h.thread_made) in
    let two : Grows h.w1 h.w2 =
    made_if g.process kind.Process g.uid h.w1 h.w2 process h.process_made one.free
    (if_drawn g.process kind.Process g.uid h.w1 h.w2 process h.process_made) in
    let three : Grows h.w2 h.w3 =
    session_made g.join g.uid h.w2 h.w3 session h.session_made two.free (session_drawn g.join g.uid h.w2 h.w3 session h.session_made) in
    let four : Grows h.w3 new = user_made g.uid h.w3 new user h.user_made three.free (user_drawn g.uid h.w3 new user h.user_made) in
    grows_twice old h.w1 new one (grows_twice h.w1 h.w2 new two (grows_twice h.w2 h.w3 new three four))
