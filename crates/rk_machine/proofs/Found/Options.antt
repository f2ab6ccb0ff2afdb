-- Equations between tests, choices and options.
use Rattle.std.proofs.Common.{◌≡◌, Bool, true, false, cond, refl}
use Rattle.std.specs.Prelude.{Option, Some, None}

-- true is not false
pub true_false : true ≡ false → ⊥
true_false e = cc

-- None is not Some
pub none_some : {A : Type 0} {x : A} → None ≡ Some x → ⊥
none_some e = cc

-- Some is not None
pub some_none : {A : Type 0} {x : A} → Some x ≡ None → ⊥
some_none e = cc

-- equal options have equal values
pub some_same : {A : Type 0} {x y : A} → Some x ≡ Some y → x ≡ y
some_same e = cc

-- what is left of an option was there
pub was_some : {A : Type 0} (b : Bool) (o : Option A) (x : A) → cond b None o ≡ Some x → o ≡ Some x
was_some true o x h = absurd (none_some h)
was_some false o x h = h

-- what is made of a choice is chosen from what is made of each
pub of_choice : {A B : Type 0} (f : A → B) (b : Bool) (x y : A) → f (cond b x y) ≡ cond b (f x) (f y)
of_choice f true x y = refl
of_choice f false x y = refl
