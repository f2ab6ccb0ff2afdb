-- HELLO makes rings, and changes one client alone.
use Rattle.rk_machine.proofs.Words.{nat_cmp, Option, Some, None, ◌≡◌, ℕ, Bool, true, false, refl, ap, ◌∙◌, inl, inr, Key, Ring, RingKind, Sessions, Greeting}
use Rattle.rk_machine.proofs.Words.{Makes, MakesIf, HasSessionRing, HasUserRing, MakesRings, World, drawn}
use Rattle.std.specs.FinMap as map
use Rattle.rk_rings.specs.declared.kind.RingKind.TheVariants as kind

-- a part of the world that is neither rings nor serials
module _ {A : Type 0} (part : World → A) (kept : (ring : ℕ) (rings : map.FinMap nat_cmp Ring) (w : World) → part (record (drawn ring w) { rings = rings })
    ≡ part w) where
  made : (kind : RingKind) (uid : ℕ) (old new : World) (ring : ℕ) → Makes kind uid old new ring → part new ≡ part old
  made kind uid old new ring h = ap part h.1 ∙ kept ring _ old

  made_if : (b : Bool) (kind : RingKind) (uid : ℕ) (old new : World) (ring : Option ℕ) → MakesIf b kind uid old new ring → part new ≡ part old
  made_if false kind uid old new ring h = ap part h.1
  made_if true kind uid old new ring h = made kind uid old new h.0 h.2

  session_made : (join : Option ℕ) (uid : ℕ) (old new : World) (ring : ℕ) → HasSessionRing join uid old new ring → part new ≡ part old
  session_made None uid old new ring h = made kind.Session uid old new ring h
  session_made (Some join) uid old new ring h = ap part h.1

  user_made : (uid : ℕ) (old new : World) (ring : ℕ) → HasUserRing uid old new ring → part new ≡ part old
  user_made uid old new ring (inl h) = ap part h.3
  user_made uid old new ring (inr h) = made kind.User uid old new ring h.1

  greeted : (g : Greeting) (old new : World) (thread process : Option ℕ) (session user : ℕ) → MakesRings g old new thread process session user
      → part new ≡ part old
  greeted g old new thread process session user h =
      user_made g.uid h.w3 new user h.user_made ∙ session_made g.join g.uid h.w2 h.w3 session h.session_made
      ∙ made_if g.process kind.Process g.uid h.w1 h.w2 process h.process_made ∙ made_if g.thread kind.Thread g.uid old h.w1 thread h.thread_made

abbrev sessions_in : World → Sessions
sessions_in w = w.sessions

abbrev keys_in : World → map.FinMap nat_cmp Key
keys_in w = w.keys

-- making the rings of HELLO leaves the sessions
pub greeted_sessions : (g : Greeting) (old new : World) (thread process : Option ℕ) (session user : ℕ) → MakesRings g old new thread process session user
    → new.sessions ≡ old.sessions
greeted_sessions g old new thread process session user h = greeted sessions_in (λ ring rings w. refl) g old new thread process session user h

-- making the rings of HELLO leaves the keys
pub greeted_keys : (g : Greeting) (old new : World) (thread process : Option ℕ) (session user : ℕ) → MakesRings g old new thread process session user
    → new.keys ≡ old.keys
greeted_keys g old new thread process session user h = greeted keys_in (λ ring rings w. refl) g old new thread process session user h
