-- What a step without a refusal has passed.
use Rattle.std.proofs.Common.{◌≡◌, Bool, true, false, ◌||◌, ◌&&◌, List, [], ◌∷◌, refl, sym, subst, inl, inr}
use Rattle.std.specs.Prelude.{Option, Some, None, not, is_some, is_none, MatchOption}
use Rattle.rk_names.specs.declared.errors.Errno.{Errno}
use Rattle.rk_names.specs.declared.errors.Errno.TheVariants as errno
use Rattle.rk_machine.specs.declared.event.Answer.{Answer}
use Rattle.rk_machine.specs.declared.event.Answer.TheVariants.{Refused}
use Rattle.rk_machine.specs.World.{World}
use Rattle.rk_machine.specs.Allowed.{first_of, refused_if, Unless, OrNoMemory}

-- ---- tests

-- if a negation is false, what it negates is true
pub not_not : (b : Bool) → not b ≡ false → b ≡ true
not_not true h = refl
not_not false h = absurd (cc)

-- if a disjunction is false, its first part is
pub or_left : (a b : Bool) → (a || b) ≡ false → a ≡ false
or_left true b h = absurd (cc)
or_left false b h = refl

-- if a disjunction is false, its second part is
pub or_right : (a b : Bool) → (a || b) ≡ false → b ≡ false
or_right true b h = absurd (cc)
or_right false b h = h

-- if a conjunction is true, its first part is
pub and_left : (a b : Bool) → (a && b) ≡ true → a ≡ true
and_left true b h = refl
and_left false b h = h

-- a conjunction with a false second part is false
pub and_false : (a b : Bool) → b ≡ false → (a && b) ≡ false
and_false true b h = h
and_false false b h = refl

-- an option that is not Some is None
pub none_is : {A : Type 0} (o : Option A) → is_some o ≡ false → o ≡ None
none_is None h = refl
none_is (Some x) h = absurd (cc)

-- an option that is not None has a value
pub some_is : {A : Type 0} (o : Option A) → is_none o ≡ false → (x : A) × (o ≡ Some x)
some_is None h = absurd (cc)
some_is (Some x) h = (x, refl)

-- ---- lists of refusals

-- if there is no first refusal, there is none at the head and none in the rest
pub first_none : (o : Option Errno) (rest : List (Option Errno)) → first_of (o ∷ rest) ≡ None → (o ≡ None) × (first_of rest ≡ None)
first_none None rest h = (refl, h)
first_none (Some error) rest h = absurd (cc)

-- a test that does not refuse is not passed
pub if_none : (b : Bool) (error : Errno) → refused_if b error ≡ None → b ≡ false
if_none true error h = absurd (cc)
if_none false error h = refl

-- ---- what was not refused

-- an answer with a possible refusal is that refusal with nothing changed, or there is none and the rest holds
pub unless : (r : Option Errno) (old : World) (a : Answer) (new : World) (P X : Type 0) → ((error : Errno) → a ≡ Refused error → new ≡ old → X)
    → (r ≡ None → P → X) → Unless r old a new P → X
unless None old a new P X out on h = on refl h
unless (Some error) old a new P X out on h = out error h.0 h.1

-- an answer that may be out of memory is a refusal with nothing changed, or the rest holds
pub or_memory : (old : World) (a : Answer) (new : World) (P X : Type 0) → ((error : Errno) → a ≡ Refused error → new ≡ old → X) → (P → X)
    → OrNoMemory old a new P → X
or_memory old a new P X out on (inl h) = out errno.Enomem h.0 h.1
or_memory old a new P X out on (inr h) = on h

-- what holds of an option holds of None or of its value
pub by_option : {A : Type 0} (o : Option A) (P : A → Type 0) (N X : Type 0) → (o ≡ None → N → X) → ((x : A) → o ≡ Some x → P x → X) → MatchOption o N P → X
by_option None P N X none some h = none refl h
by_option (Some x) P N X none some h = some x refl h

-- ---- what a step does, where a refusal applies or none does

-- if there is no refusal, the rest may be answered
pub unless_none : (r : Option Errno) (old : World) (a : Answer) (new : World) (P : Type 0) → r ≡ None → P → Unless r old a new P
unless_none r old a new P e p = subst (λ (o : Option Errno). Unless o old a new P) (sym e) p

-- if there is a refusal, it is answered and nothing changes
pub unless_some : (r : Option Errno) (error : Errno) (old : World) (P : Type 0) → r ≡ Some error → Unless r old (Refused error) old P
unless_some r error old P e = subst (λ (o : Option Errno). Unless o old (Refused error) old P) (sym e) (refl, refl)

-- the first of one possible refusal is that one
pub only_one : (o : Option Errno) → first_of (o ∷ []) ≡ o
only_one None = refl
only_one (Some error) = refl
