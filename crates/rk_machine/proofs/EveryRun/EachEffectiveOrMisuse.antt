-- In every run a launch, the end of a handler and the end of a client are effective, or misuse.
use Rattle.rk_machine.proofs.Words.{MatchBool, Option, Some, None, ◌≡◌, ℕ, Bool, true, false, ap, ◌⊎◌, not, inl, inr, List, [], ◌∷◌, Client, Handler, stage_of}
use Rattle.rk_machine.proofs.Words.{Stage, Starting, Plain, Piped, Negating, refused_if, done, Leaves, Settles, Unless, Event, is_done, EffectiveOrMisuse}
use Rattle.rk_machine.proofs.Words.{EachEffectiveOrMisuse, Step, may_launch, would_negate, negating, Ends, gone, Past, Beginning, Run, World, Answer, Refused}
use Rattle.rk_machine.proofs.Words.{Negate, Opened, Asked, Launched, Ended, Collect, Gone, How}
use Rattle.std.specs.FinMap as map
use Rattle.rk_names.specs.declared.errors.Errno.TheVariants as errno
use Rattle.rk_machine.specs.Steps.{launched}

by_test : (b : Bool) (old mid new : World) (a : Answer) → Unless (refused_if (not b) errno.Einval) old a new (Settles done mid a new)
    → (is_done a ≡ true) ⊎ (a ≡ Refused errno.Einval)
by_test true old mid new a h = inl (ap is_done h.0)
by_test false old mid new a h = inr h.0

by_end : (k : ℕ) (b : Bool) (next mid new : World) (a : Answer) → MatchBool b (Leaves (Negate k) next a new) (Settles done mid a new)
    → (is_done a ≡ true) ⊎ ((a ≡ Negate k) ⊎ (a ≡ Refused errno.Einval))
by_end k true next mid new a h = inr (inl h.0)
by_end k false next mid new a h = inl (ap is_done h.0)

by_stage : (old : World) (now k : ℕ) (how : How) (payload : Option (List ℕ)) (st : Option Stage) (a : Answer) (new : World)
    → Ends old now k how payload st a new → (is_done a ≡ true) ⊎ ((a ≡ Negate k) ⊎ (a ≡ Refused errno.Einval))
by_stage old now k how payload None a new h = inr (inr h.0)
by_stage old now k how payload (Some Starting) a new h = inr (inr h.0)
by_stage old now k how payload (Some Negating) a new h = inr (inr h.0)
by_stage old now k how payload (Some (Plain s)) a new h = inl (ap is_done h.0)
by_stage old now k how payload (Some Piped) a new h = by_end k (would_negate old k how payload) (negating k old) _ new a h

-- each step is answered so
answered : (old : World) (now : ℕ) (e : Event) (a : Answer) (new : World) → Step old now e a new → EffectiveOrMisuse e a
unfolding Step
answered old now (Opened s) a new h = tt
answered old now (Asked s x) a new h = tt
answered old now (Launched k r) a new h = by_test (may_launch r (stage_of old.sessions k)) old (launched now k r old) new a h
answered old now (Ended k how payload) a new h = by_stage old now k how payload (stage_of old.sessions k) a new h
answered old now (Collect s) a new h = tt
answered old now (Gone (Client n)) a new h = by_test (map.contains_key old.sessions.clients n) old (gone n old) new a h
answered old now (Gone (Handler k)) a new h = inr h.0

-- each launch, end of a handler and end of a client is effective, or misuse
pub each_effective : (from : Beginning) (past : List Past) (w : World) → Run from past w → EachEffectiveOrMisuse past
each_effective from [] w run = tt
each_effective from (s ∷ before) w run = (answered run.0 s.now s.event s.answer w run.2, each_effective from before run.0 run.1)
