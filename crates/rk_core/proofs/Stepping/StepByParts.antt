-- A step, by what its call did.
use Rattle.rk_core.proofs.Words.{◌≡◌, ℕ, Bool, true, false, not, List, refl, sym, ap, subst, Option, Some, MatchBool, both_ways, Stage, Starting, Plain, Piped}
use Rattle.rk_core.proofs.Words.{Negating, stage_of, unspent, is_running, Launched, Ended, Ran, How, Answer, Negate, World, tidied, done, refused_if, ended}
use Rattle.rk_core.proofs.Words.{condition_after, launched, may_launch, would_negate, negating, Ends, Step, follows, StayBut, unless_none}
use Rattle.rk_names.specs.declared.errors.Errno.TheVariants as errno
use Rattle.rk_auth.specs.Changes as sessions
use Rattle.rk_core.proofs.Vanishing.OneByOne.{all_stay}

-- ---- a handler starts, and ends

-- a launch that fits its construction is a step, and is answered as done
pub launches : (old : World) (now k : ℕ) (r : Ran) (a : Answer) (new : World) → may_launch r (stage_of old.sessions k) ≡ true → a ≡ done
    → new ≡ tidied (launched now k r old) → Step old now (Launched k r) a new
unfolding Step
launches old now k r a new may ra left =
    unless_none (refused_if (not (may_launch r (stage_of old.sessions k))) errno.Einval) old a new _ (ap (λ b. refused_if (not b) errno.Einval) may) (ra, left)

-- a session alone takes no key away
pub only_sessions : (old : World) (k : ℕ) (st : Stage) → StayBut (λ j. false) old
    → ◌≡◌ {A = World} (record old { sessions = sessions.launched k st old.sessions }) (tidied (record old { sessions = sessions.launched k st old.sessions }))
only_sessions old k st tidy = λ i. record (sym (all_stay old tidy) i) { sessions = sessions.launched k st old.sessions }

chosen_on : (P Q : Type 0) (b : Bool) → b ≡ true → P → MatchBool b P Q
chosen_on P Q true is h = h
chosen_on P Q false is h = absurd (both_ways false refl is)

chosen_off : (P Q : Type 0) (b : Bool) → b ≡ false → Q → MatchBool b P Q
chosen_off P Q true is h = absurd (both_ways true is refl)
chosen_off P Q false is h = h

-- the end of a handler that no other follows, and of one that another follows
pub ends_last : (old : World) (now k : ℕ) (how : How) (payload : Option (List ℕ)) (st : Stage) (a : Answer) (new : World) → is_running (Some st) ≡ true
    → follows (unspent old.sessions k) st (condition_after st how payload) ≡ false → a ≡ done
    → new ≡ tidied (ended now k (condition_after st how payload) old) → Ends old now k how payload (Some st) a new
ends_last old now k how payload Starting a new runs last ra left = absurd (both_ways false refl runs)
ends_last old now k how payload Negating a new runs last ra left = absurd (both_ways false refl runs)
ends_last old now k how payload (Plain s) a new runs last ra left = (ra, left)
ends_last old now k how payload Piped a new runs last ra left = chosen_off _ _ (would_negate old k how payload) last (ra, left)

pub ends_followed : (old : World) (now k : ℕ) (how : How) (payload : Option (List ℕ)) (st : Stage) (a : Answer) (new : World)
    → follows (unspent old.sessions k) st (condition_after st how payload) ≡ true → a ≡ Negate k → new ≡ negating k old
    → Ends old now k how payload (Some st) a new
ends_followed old now k how payload Starting a new more ra left = absurd (both_ways false refl more)
ends_followed old now k how payload Negating a new more ra left = absurd (both_ways false refl more)
ends_followed old now k how payload (Plain s) a new more ra left = absurd (both_ways false refl more)
ends_followed old now k how payload Piped a new more ra left = chosen_on _ _ (would_negate old k how payload) more (ra, left)

-- an end that fits its construction is a step
pub ends : (old : World) (now k : ℕ) (how : How) (payload : Option (List ℕ)) (st : Stage) (a : Answer) (new : World) → stage_of old.sessions k ≡ Some st
    → Ends old now k how payload (Some st) a new → Step old now (Ended k how payload) a new
unfolding Step
ends old now k how payload st a new is h = subst (λ o. Ends old now k how payload o a new) (sym is) h
