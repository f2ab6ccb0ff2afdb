-- Tests of which `true` tells that two values are equal, and what a derived test makes of them: it goes by variant, and then field by field.
use Rattle.rk_message.proofs.Words.{◌≡◌, ap, refl, true, false, Bool, Some, None, inl, inr, ◌==◌, ◌⊎◌, ◌&&◌}
use Rattle.std.specs.Cmp.{signed_Decides, unsigned_Decides}
use Rattle.std.specs.Cmp.Lexicographic.{pointwise, pointwise_decides}
use Rattle.std.specs.Ordering.{int_eq}
use Rattle.std.specs.Option.{option_eq}
use mathlib.Core.Logic.{⊎_elim}

-- a test that holds of equal values alone
abbrev pub Tells : {A : Type 0} → (A → A → Bool) → Type 0
Tells {A} test = (x y : A) → test x y ≡ true → x ≡ y

-- ---- fields

-- the test of integers passes only for equal ones
pub signed : Tells int_eq
signed x y = (signed_Decides x y).0

-- the test of natural numbers passes only for equal ones
pub unsigned : Tells ◌==◌
unsigned x y = (unsigned_Decides x y).0

-- the test of bytes, one by one, passes only for equal lists
pub text : Tells (pointwise ◌==◌)
text x y = (pointwise_decides unsigned_Decides x y).0

-- the test of options passes only for equal ones, where that of their values does
pub optional : {A : Type 0} {test : A → A → Bool} → Tells test → Tells (option_eq test)
optional one (Some x) (Some y) is = ap Some (one x y is)
optional one (Some x) None is = absurd cc
optional one None (Some y) is = absurd cc
optional one None None is = refl

-- ---- the fields of a variant

-- without a field there is nothing to differ
pub none : Tells {A = Unit {0}} (λ p q. true)
none p q is = refl

-- the test of a last field passes only for equal ones
pub last : {A : Type 0} {test : A → A → Bool} → Tells test → Tells {A = A × Unit {0}} (λ p q. test p.0 q.0)
last one p q is = ap (λ x. (x, tt)) (one p.0 q.0 is)

passed : (x y : Bool) → x && y ≡ true → (x ≡ true) × (y ≡ true)
passed true y is = (refl, is)
passed false y is = absurd cc

-- the tests of one field and of the others pass only if both are equal
pub and : {A B : Type 0} {test : A → A → Bool} {others : B → B → Bool} → Tells test → Tells others → Tells {A = A × B} (λ p q. test p.0 q.0 && others p.1 q.1)
and {A} {B} {test} {others} one more (x, xs) (y, ys) is =
    let e = passed (test x y) (others xs ys) is in
    let first = one x y e.0 in
    let rest = more xs ys e.1 in
    cc

-- ---- variants

abbrev by_variant : {A B : Type 0} → (A → A → Bool) → (B → B → Bool) → A ⊎ B → A ⊎ B → Bool
by_variant test others s t = ⊎_elim (λ x. ⊎_elim (λ y. test x y) (λ _. false) t) (λ x. ⊎_elim (λ _. false) (λ y. others x y) t) s

-- the tests of one variant and of the others pass only if both are equal
pub or : {A B : Type 0} {test : A → A → Bool} {others : B → B → Bool} → Tells test → Tells others → Tells (by_variant test others)
or one more (inl x) (inl y) is = ap inl (one x y is)
or one more (inl x) (inr y) is = absurd cc
or one more (inr x) (inl y) is = absurd cc
or one more (inr x) (inr y) is = ap inr (more x y is)

-- without a variant there is nothing to differ
pub no_more : (test : ⊥ → ⊥ → Bool) → Tells test
no_more test x = absurd x
