-- What is left of a text to read, and one line of it.
use Rattle.std.proofs.Common.{◌≡◌, ℕ, suc, List, [], ◌∷◌, length, Option, Some, None, Result, Ok, Err, refl}
use Rattle.std.specs.Borrow.{Bor}
use Rattle.std.specs.Prelude.{OnOk, slice_get}
use Rattle.rk_conf.specs.Text.{numbered_from}

-- the lines from a number on that are left to read, if any are
abbrev pub lines_left : ℕ → Option (Bor (List ℕ)) → List (ℕ × List ℕ)
lines_left n None = []
lines_left n (Some text) = numbered_from n text.now

-- one more than the bytes left
abbrev pub left_len : Option (Bor (List ℕ)) → ℕ
left_len None = 0
left_len (Some text) = suc (length text.now)

-- a list with no first element has none
pub none_first : {X : Type 0} (xs : List X) → None ≡ slice_get xs 0 → xs ≡ []
none_first [] e = refl
none_first (x ∷ xs) e = absurd (cc)

-- a fact holds under an `Ok` too
pub on_ok : {T E : Type 0} (r : Result T E) {P : Type 0} → P → OnOk r P
on_ok (Ok x) p = p
on_ok (Err e) p = tt
