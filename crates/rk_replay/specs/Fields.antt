-- Fields that are read one after the other.
use Rattle.std.specs.Prelude.{◌≡◌, ℕ, List, [], ◌∷◌, Option, Some, None, Result, Ok, Err, option_map}
use Rattle.rk_replay.specs.declared.field.Misread.{Misread}
use Rattle.rk_replay.specs.declared.field.Misread.TheVariants.{NotALine, NoMemory}

-- one reader and then another; both have to succeed
infixl 10 ◌>>=◌
abbrev pub ◌>>=◌ : {A B : Type 0} → Option A → (A → Option B) → Option B
(Some x) >>= f = f x
None >>= f = None

-- the first field, and the fields after it
abbrev pub first_as : {A : Type 0} → (List ℕ → Option A) → List (List ℕ) → Option (A × List (List ℕ))
first_as read [] = None
first_as read (field ∷ fields) = option_map (λ x. (x, fields)) (read field)

-- this, where nothing is left
abbrev pub alone : {A : Type 0} → A → List (List ℕ) → Option A
alone x [] = Some x
alone x (field ∷ fields) = None

-- one field and no other
abbrev pub sole : {A : Type 0} → (List ℕ → Option A) → List (List ℕ) → Option A
sole read fields = do
  x ← first_as read fields
  alone x.0 x.1

-- two fields and no other
abbrev pub both : {A B C : Type 0} → (List ℕ → Option A) → (List ℕ → Option B) → (A → B → C) → List (List ℕ) → Option C
both read read' make fields = do
  x ← first_as read fields
  y ← first_as read' x.1
  alone (make x.0 y.0) y.1

-- what a function returned, seen by view, is what the fields say; out of memory says nothing of them
abbrev pub Gives : {X Y : Type 0} → (X → Y) → Result X Misread → Option Y → Type 0
Gives view (Ok x) told = told ≡ Some (view x)
Gives view (Err NotALine) told = told ≡ None
Gives view (Err NoMemory) told = Unit {0}
