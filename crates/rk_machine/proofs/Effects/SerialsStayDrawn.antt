-- Serials that were drawn stay drawn.
use Rattle.rk_machine.proofs.Words.{◌≡◌, ℕ, ◌∙◌, Bool, true, false, ap, sym, inl, inr, Option, Some, None, nat_eq, RingKind, Event, Greeting, Makes, MakesIf}
use Rattle.rk_machine.proofs.Words.{HasSessionRing, HasUserRing, MakesRings, World, drawn, Answer, or_right}
use Rattle.rk_rings.specs.declared.kind.RingKind.TheVariants as kind
use Rattle.rk_machine.proofs.Effects.KindsOfStep.{Effect, refused, still, took, came, went, greets, begins, joins, links, unlinks, marks, tells, sets, adds}
use Rattle.rk_machine.proofs.Effects.KindsOfStep.{assumes, concludes, ran_plain, ran_piped, negates, failed, finished}
use Rattle.rk_machine.proofs.Effects.DrawnSerials.{is_drawn, drawn_is}

-- what is not drawn after was not drawn before
abbrev pub KeepsDrawn : World → World → Type 0
KeepsDrawn old new = (q : ℕ) → is_drawn new q ≡ false → is_drawn old q ≡ false

draws : (k : ℕ) (old : World) → KeepsDrawn old (drawn k old)
draws k old q h = or_right (nat_eq k q) (is_drawn old q) (sym (drawn_is k old q) ∙ h)

same_world : (old mid new : World) → new ≡ mid → KeepsDrawn old mid → KeepsDrawn old new
same_world old mid new e h q n = h q (ap (λ (w : World). is_drawn w q) (sym e) ∙ n)

made : (kind : RingKind) (uid : ℕ) (old new : World) (ring : ℕ) → Makes kind uid old new ring → KeepsDrawn old new
made kind uid old new ring h = same_world old _ new h.1 (draws ring old)

-- making a ring, if it is wanted, leaves all drawn serials drawn
pub if_drawn : (b : Bool) (kind : RingKind) (uid : ℕ) (old new : World) (ring : Option ℕ) → MakesIf b kind uid old new ring → KeepsDrawn old new
if_drawn false kind uid old new ring h = same_world old old new h.1 (λ q n. n)
if_drawn true kind uid old new ring h = made kind uid old new h.0 h.2

-- making or joining a session ring leaves all drawn serials drawn
pub session_drawn : (join : Option ℕ) (uid : ℕ) (old new : World) (ring : ℕ) → HasSessionRing join uid old new ring → KeepsDrawn old new
session_drawn None uid old new ring h = made kind.Session uid old new ring h
session_drawn (Some join) uid old new ring h = same_world old old new h.1 (λ q n. n)

pub user_drawn : (uid : ℕ) (old new : World) (ring : ℕ) → HasUserRing uid old new ring → KeepsDrawn old new
user_drawn uid old new ring (inl h) = same_world old old new h.3 (λ q n. n)
user_drawn uid old new ring (inr h) = made kind.User uid old new ring h.1

greeted : (g : Greeting) (old new : World) (thread process : Option ℕ) (session user : ℕ) → MakesRings g old new thread process session user
    → KeepsDrawn old new
greeted g old new thread process session user h q n =
    if_drawn g.thread kind.Thread g.uid old h.w1 thread h.thread_made q
    (if_drawn g.process kind.Process g.uid h.w1 h.w2 process h.process_made q
    (session_drawn g.join g.uid h.w2 h.w3 session h.session_made q (user_drawn g.uid h.w3 new user h.user_made q n)))

-- every step leaves all drawn serials drawn
pub keeps_drawn : (old : World) (now : ℕ) (e : Event) (a : Answer) (new : World) → Effect old now e a new → KeepsDrawn old new
keeps_drawn old now e a new (refused error ra w free) = same_world old old new w (λ q n. n)
keeps_drawn old now e a new (still s wait ev is ready ra w) = same_world old old new w (λ q n. n)
keeps_drawn old now e a new (took s wait outcome ev is ready ra w) = same_world old _ new w (λ q n. n)
keeps_drawn old now e a new (came n ev fresh ra w) = same_world old _ new w (λ q n. n)
keeps_drawn old now e a new (went n ev there ra w) = same_world old _ new w (λ q n. n)
keeps_drawn old now e a new (greets n hello ev can none joined h) = same_world old _ new h.6.1 (greeted _ old h.4 h.0 h.1 h.2 h.3 h.5)
keeps_drawn old now e a new (begins s asker typ description callout r ring k ev can is depth fresh ra w) = same_world old _ new w (draws k old)
keeps_drawn old now e a new (joins s x ring k ev asks can building apart ra w) = same_world old _ new w (λ q n. n)
keeps_drawn old now e a new (links s x ring k n ev completes_none not_assume ra w) = same_world old _ new w (λ q n. n)
keeps_drawn old now e a new (unlinks s x ring k ev completes_none not_assume ra (inl w)) = same_world old _ new w (λ q n. n)
keeps_drawn old now e a new (unlinks s x ring k ev completes_none not_assume ra (inr w)) = same_world old _ new w (λ q n. n)
keeps_drawn old now e a new (marks s x k f ev completes_none not_assume mild ra w) = same_world old _ new w (λ q n. n)
keeps_drawn old now e a new (tells s x bytes ev ra w) = same_world old old new w (λ q n. n)
keeps_drawn old now e a new (sets s x setting n ev completes_none not_assume can ra w) = same_world old _ new w (λ q n. n)
keeps_drawn old now e a new (adds s asker typ description payload r ring k ev fresh ra w) = same_world old _ new w (draws k old)
keeps_drawn old now e a new (assumes s key ev can none ra w) = same_world old _ new w (λ q n. n)
keeps_drawn old now e a new (concludes s x asker ring k condition end ev which can is own final ra w) = same_world old _ new w (λ q n. n)
keeps_drawn old now e a new (ran_plain k st ev is launches ra w) = same_world old _ new w (λ q n. n)
keeps_drawn old now e a new (ran_piped k ev is ra w) = same_world old _ new w (λ q n. n)
keeps_drawn old now e a new (negates k how payload ev is fails ra w) = same_world old _ new w (λ q n. n)
keeps_drawn old now e a new (failed k st ev is launches ra w) = same_world old _ new w (λ q n. n)
keeps_drawn old now e a new (finished k how payload st condition ev is running final ra w) = same_world old _ new w (λ q n. n)
