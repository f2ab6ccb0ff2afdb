-- Lines and fields, cut off one after the other.
use Rattle.std.proofs.Common.{◌≡◌, ◌≢◌, ℕ, zero, suc, ◌+◌, ◌<◌, ◌≤◌, List, [], ◌∷◌, ◌++◌, length, take, drop, get_or, Bool, true, false, refl, sym, ap, ◌∙◌, subst, inl, inr, arith, drop-cons, add-one, eq-eqb}
use Rattle.std.specs.Prelude.{nat_eq, filter}
use Rattle.std.specs.List.{slice_split, All, AllByRecursion}
use Rattle.std.specs.Str.{IsUtf8, IsCharBoundary}
use Rattle.std.proofs.lemmas.List.{take-append-drop, get_or-take, take_all, drop_all, length-take}
use Rattle.std.proofs.lemmas.List.Elements.{All-from_get_or, recursion_from_All}
use Rattle.std.proofs.lemmas.List.Splits.{slice_split_none, slice_split_at, slice_split-cons_yes}
use Rattle.std.proofs.lemmas.List.Sums.{prefix_len_is}
use Rattle.std.proofs.lemmas.Bool.{cases_lt, eqb-true, ne_eqb}
use Rattle.std.proofs.lemmas.Bool.Decides.{nat_tests}
use Rattle.std.proofs.lemmas.Str.{IsCharBoundary-start, IsCharBoundary-end, IsCharBoundary-before_ascii, IsCharBoundary-after_ascii}
use Rattle.rk_text.specs.declared.space.Space.{Space}
use Rattle.rk_text.specs.declared.space.Space.TheVariants.{Blank, Any}
use Rattle.rk_text.specs.Text.{is_text, is_space, past_space, has_bytes, lines_of, fields_of}
use Rattle.rk_text.proofs.TextRules.{is_text-parts}

-- a fact of each place of a front, as a fact of the front
front_all : (P : ℕ → Type 0) (xs : List ℕ) (n : ℕ) → ((k : ℕ) → k < n → P (get_or xs k 0)) → All P (take n xs)
front_all P xs n h = All-from_get_or P (take n xs) 0 (λ i lt. let below : i < n = omega (arith, length-take n xs) in subst P (sym (get_or-take n xs i 0 below)) (h i below))

-- a list at a place within it
at_place : (xs : List ℕ) (n : ℕ) → n < length xs → xs ≡ take n xs ++ get_or xs n 0 ∷ drop (n + 1) xs
at_place xs n h =
    let rest : drop n xs ≡ get_or xs n 0 ∷ drop (n + 1) xs = rw (add-one, drop-cons xs n 0) in
    sym (take-append-drop n xs) ∙ ap (λ (t : List ℕ). take n xs ++ t) rest

-- a text without a newline is one line
pub last_line : (text : List ℕ) (n : ℕ) → n ≡ length text → ((k : ℕ) → k < n → get_or text k 0 ≢ 10) → lines_of text ≡ text ∷ []
last_line text n e h =
    let whole : take n text ≡ text = take_all n text (omega arith) in
    let P : List ℕ → Type 0 = λ t. All (λ b. nat_eq b 10 ≡ false) t in
    slice_split_none (λ b. nat_eq b 10) text (subst P whole (front_all (λ b. nat_eq b 10 ≡ false) text n (λ k lt. ne_eqb (get_or text k 0) 10 (h k lt))))

-- a text up to its first newline is its first line, and the rest are the lines after it
pub first_line : (text : List ℕ) (n : ℕ) → n < length text → ((k : ℕ) → k < n → get_or text k 0 ≢ 10) → get_or text n 0 ≡ 10 → lines_of text ≡ take n text ∷ lines_of (drop (n + 1) text)
first_line text n lt h e =
    let apart = front_all (λ b. nat_eq b 10 ≡ false) text n (λ k lt. ne_eqb (get_or text k 0) 10 (h k lt)) in
    let here : nat_eq (get_or text n 0) 10 ≡ true = eq-eqb (get_or text n 0) 10 e in
    ap lines_of (at_place text n lt) ∙ slice_split_at (λ b. nat_eq b 10) (take n text) (get_or text n 0) (drop (n + 1) text) apart here

-- what `is_empty` tells
pub none_left : (n : ℕ) (b : Bool) → b ≡ nat_eq n 0 → b ≡ true → n ≡ 0
none_left n b e t = eqb-true n 0 (sym e ∙ t)

-- a number that is not 0 is above 0
pub some_left : (n : ℕ) (b : Bool) → b ≡ nat_eq n 0 → b ≡ false → 0 < n
some_left zero b e f = absurd (cc)
some_left (suc n) b e f = omega arith

-- the bytes of white space are ASCII
space_ascii : (s : Space) (b : ℕ) → is_space s b ≡ true → b < 128
space_ascii Blank b h = grind (arith, nat_tests)
space_ascii Any b h = grind (arith, nat_tests)

-- ---- fields, whichever bytes are white space

module _ (s : Space) where
  -- what follows the white space that stands first
  pub space_before : (text : List ℕ) (n : ℕ) → n ≤ length text → ((k : ℕ) → k < n → is_space s (get_or text k 0) ≡ true) → (n < length text → is_space s (get_or text n 0) ≡ false) → drop n text ≡ past_space s text
  space_before text n le before at = ap (λ (k : ℕ). drop k text) (sym (prefix_len_is (is_space s) text n 0 le before at))

  skip_all : (space t : List ℕ) → AllByRecursion (λ b. is_space s b ≡ true) space → fields_of s (space ++ t) ≡ fields_of s t
  unfolding fields_of
  skip_all [] t h = refl
  skip_all (c ∷ space) t h = ap (filter has_bytes) (slice_split-cons_yes (is_space s) c (space ++ t) h.0) ∙ skip_all space t h.1

  -- spaces at the front are no part of a field
  pub skipped : (text : List ℕ) (n : ℕ) → ((k : ℕ) → k < n → is_space s (get_or text k 0) ≡ true) → fields_of s (drop n text) ≡ fields_of s text
  skipped text n h =
      let space = recursion_from_All (λ b. is_space s b ≡ true) (take n text) (front_all (λ b. is_space s b ≡ true) text n h) in
      sym (skip_all (take n text) (drop n text) space) ∙ ap (fields_of s) (take-append-drop n text)

  pub no_fields : fields_of s [] ≡ []
  unfolding fields_of
  no_fields = refl

  kept : (x : List ℕ) (xs : List (List ℕ)) → 0 < length x → filter has_bytes (x ∷ xs) ≡ x ∷ filter has_bytes xs
  kept [] xs h = absurd (omega arith)
  kept (c ∷ x) xs h = refl

  pub one_field : (text : List ℕ) → 0 < length text → All (λ b. is_space s b ≡ false) text → fields_of s text ≡ text ∷ []
  unfolding fields_of
  one_field text h apart = ap (filter has_bytes) (slice_split_none (is_space s) text apart) ∙ kept text [] h

  pub field_then : (field : List ℕ) (b : ℕ) (more : List ℕ) → 0 < length field → All (λ x. is_space s x ≡ false) field → is_space s b ≡ true → fields_of s (field ++ b ∷ more) ≡ field ∷ fields_of s (b ∷ more)
  unfolding fields_of
  field_then field b more h apart e =
      let keep = filter has_bytes in
      ap keep (slice_split_at (is_space s) field b more apart e) ∙ kept field (slice_split (is_space s) more) h ∙ ap (λ (t : List (List ℕ)). field ∷ t) (sym (ap keep (slice_split-cons_yes (is_space s) b more e)))

  -- a text up to its first space is its first field, and the rest are the fields after it
  pub first_field : (text : List ℕ) (n : ℕ) → n ≤ length text → 0 < n → ((k : ℕ) → k < n → is_space s (get_or text k 0) ≡ false) → (n < length text → is_space s (get_or text n 0) ≡ true)
      → fields_of s text ≡ take n text ∷ fields_of s (drop n text)
  first_field text n le pos before at =
      let apart = front_all (λ b. is_space s b ≡ false) text n before in
      let some : 0 < length (take n text) = omega (arith, length-take n text) in
      elim (cases_lt n (length text)) [
        | inl lt ↦
            let rest : drop n text ≡ get_or text n 0 ∷ drop (n + 1) text = rw (add-one, drop-cons text n 0) in
            ap (fields_of s) (at_place text n lt) ∙ field_then (take n text) (get_or text n 0) (drop (n + 1) text) some apart (at lt) ∙ ap (λ (t : List ℕ). take n text ∷ fields_of s t) (sym rest)
        | inr ge ↦
            let whole : take n text ≡ text = take_all n text ge in
            let none : drop n text ≡ [] = drop_all n text ge in
            let P : List ℕ → Type 0 = λ t. fields_of s t ≡ take n text ∷ [] in
            subst P whole (one_field (take n text) some apart) ∙ ap (λ (t : List (List ℕ)). take n text ∷ t) (sym (ap (fields_of s) none ∙ no_fields))
      ]

  skipped_boundary : (text : List ℕ) (n : ℕ) → n ≤ length text → ((k : ℕ) → k < n → is_space s (get_or text k 0) ≡ true) → IsUtf8 text → IsCharBoundary text n
  skipped_boundary text zero le h utf8 = IsCharBoundary-start text utf8
  skipped_boundary text (suc n) le h utf8 =
      let P : ℕ → Type 0 = λ i. IsCharBoundary text i in
      subst P (omega arith) (IsCharBoundary-after_ascii text n utf8 (omega arith) (space_ascii s (get_or text n 0) (h n (omega arith))))

  field_boundary : (text : List ℕ) (n : ℕ) → n ≤ length text → (n < length text → is_space s (get_or text n 0) ≡ true) → IsCharBoundary text n
  field_boundary text n le at =
      elim (cases_lt n (length text)) [
        | inl lt ↦ IsCharBoundary-before_ascii text n lt (space_ascii s (get_or text n 0) (at lt))
        | inr ge ↦ let P : ℕ → Type 0 = λ i. IsCharBoundary text i in let e : length text ≡ n = omega arith in subst P e (IsCharBoundary-end text)
      ]

  -- after white space, and before it, stands text
  pub skipped_text : (text : List ℕ) (n : ℕ) → n ≤ length text → ((k : ℕ) → k < n → is_space s (get_or text k 0) ≡ true) → is_text text ≡ true → is_text (drop n text) ≡ true
  skipped_text text n le h t = (is_text-parts text n (λ utf8. skipped_boundary text n le h utf8) t).1

  -- a text that is cut at a space is text on both sides
  pub field_text : (text : List ℕ) (n : ℕ) → n ≤ length text → (n < length text → is_space s (get_or text n 0) ≡ true) → is_text text ≡ true → (is_text (take n text) ≡ true) × (is_text (drop n text) ≡ true)
  field_text text n le at t = is_text-parts text n (λ utf8. field_boundary text n le at) t

  -- an empty text has no field
  pub no_bytes : (text : List ℕ) → length text ≡ 0 → fields_of s text ≡ []
  no_bytes [] e = no_fields
  no_bytes (c ∷ text) e = absurd (omega arith)

  -- if the first byte is no white space, a field has bytes
  pub pos_len : (text : List ℕ) (n : ℕ) → 0 < length text → (0 < length text → is_space s (get_or text 0 0) ≡ false) → (n < length text → is_space s (get_or text n 0) ≡ true) → 0 < n
  pos_len text zero some first at = absurd (let a = first some in let b = at some in cc)
  pos_len text (suc n) some first at = omega arith
