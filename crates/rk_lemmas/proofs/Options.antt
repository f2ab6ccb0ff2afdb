-- Options: whether there is a value, and what a function makes of it.
use Rattle.std.proofs.Common.{◌≡◌, Bool, true, false, refl}
use Rattle.std.specs.Prelude.{Option, Some, None, is_some, option_map, unwrap_or}

-- if a value is said to be there, it is
pub is_there : {A : Type 0} (o : Option A) → is_some o ≡ true → (x : A) × (o ≡ Some x)
is_there None h = absurd (cc)
is_there (Some x) h = (x, refl)

-- if none is said to be there, there is none
pub none_there : {A : Type 0} (o : Option A) → is_some o ≡ false → o ≡ None
none_there None h = refl
none_there (Some x) h = absurd (cc)

-- what a function makes is there where its argument is
pub is_some-option_map : {A B : Type 0} (f : A → B) (o : Option A) → is_some (option_map f o) ≡ is_some o
is_some-option_map f None = refl
is_some-option_map f (Some x) = refl

-- what a function made was made of a value
pub made_of : {A B : Type 0} (f : A → B) (o : Option A) (y : B) → option_map f o ≡ Some y → (x : A) × (o ≡ Some x) × (f x ≡ y)
made_of f None y e = absurd (cc)
made_of f (Some x) y e = (x, refl, cc)

-- if a test is passed, a value passes it
pub passing : {A : Type 0} (p : A → Bool) (o : Option A) → unwrap_or (option_map p o) false ≡ true → (x : A) × (o ≡ Some x) × (p x ≡ true)
passing p None e = absurd (cc)
passing p (Some x) e = (x, refl, e)
