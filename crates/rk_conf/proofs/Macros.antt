-- Macros, read from the bytes of an argument.
use Rattle.std.proofs.Common.{◌≡◌, ◌≢◌, ℕ, ◌+◌, ◌<◌, ◌≤◌, List, [], ◌∷◌, length, take, drop, get_or, Bool, true, false, ◌&&◌, Option, Some, None, refl, ap, ◌∙◌, subst, arith, eq-eqb}
use Rattle.std.specs.Prelude.{nat_eq, is_none, if◌then◌else◌}
use Rattle.std.proofs.lemmas.List.{drop_all}
use Rattle.std.proofs.lemmas.List.Sums.{position_or_len_is}
use Rattle.rk_text.specs.Text.{is_text, begins_with}
use Rattle.rk_names.specs.Rules.{type_fault, description_fault}
use Rattle.rk_conf.specs.declared.argument.Wanted.{Wanted}
use Rattle.rk_conf.specs.Macros.{wanted_of, argument_of, macro_of}
use Rattle.rk_conf.specs.declared.argument.Argument.TheVariants as argument
use Rattle.std.proofs.lemmas.Bool.{eqb-true, ne_eqb}
use Rattle.std.proofs.lemmas.Str.{IsCharBoundary-after_ascii}
use Rattle.rk_text.proofs.TextRules.{is_text-parts}

-- the wanted key of a type and a description
made : List ℕ → List ℕ → Option Wanted
made typ desc = if is_none (type_fault typ) && is_none (description_fault desc) then Some (record { typ = typ; desc = desc }) else None

cut_is : (name : List ℕ) (n : ℕ) → n ≤ length name → ((k : ℕ) → k < n → get_or name k 0 ≢ 58) → (n < length name → get_or name n 0 ≡ 58) → wanted_of name ≡ made (take n name) (drop (n + 1) name)
unfolding made
cut_is name n le before at =
    let e = position_or_len_is (λ b. nat_eq b 58) name n 0 le (λ k lt. ne_eqb (get_or name k 0) 58 (before k lt)) (λ lt. eq-eqb (get_or name n 0) 58 (at lt)) in
    let P : ℕ → Type 0 = λ i. wanted_of name ≡ made (take i name) (drop (i + 1) name) in
    subst P e refl

no_desc : (typ : List ℕ) → made typ [] ≡ None
unfolding made
no_desc typ = elim (is_none (type_fault typ)) as (λ b. (if b && false then Some (record { typ = typ; desc = [] }) else (let n : Option Wanted = None in n)) ≡ None) [ true ↦ refl | false ↦ refl ]

-- without a colon there is no description
pub none_wanted : (name : List ℕ) (n : ℕ) → n ≡ length name → ((k : ℕ) → k < n → get_or name k 0 ≢ 58) → wanted_of name ≡ None
none_wanted name n e before =
    let empty : drop (n + 1) name ≡ [] = drop_all (n + 1) name (omega arith) in
    cut_is name n (omega arith) before (λ lt. absurd (omega arith)) ∙ ap (made (take n name)) empty ∙ no_desc (take n name)

choice : Bool → List ℕ → List ℕ → Option Wanted
choice b typ desc = if b then Some (record { typ = typ; desc = desc }) else None

module _ (name : List ℕ) (n : ℕ) (le : n ≤ length name) (before : (k : ℕ) → k < n → get_or name k 0 ≢ 58) (at : n < length name → get_or name n 0 ≡ 58) where
  -- a macro with a good type and description names that key
  pub some_wanted : (is_none (type_fault (take n name)) && is_none (description_fault (drop (n + 1) name))) ≡ true → wanted_of name ≡ Some (record { typ = take n name; desc = drop (n + 1) name })
  unfolding made choice
  some_wanted t = cut_is name n le before at ∙ ap (λ (b : Bool). choice b (take n name) (drop (n + 1) name)) t

  -- a macro with a bad type or description names no key
  pub bad_names : (is_none (type_fault (take n name)) && is_none (description_fault (drop (n + 1) name))) ≡ false → wanted_of name ≡ None
  unfolding made choice
  bad_names t = cut_is name n le before at ∙ ap (λ (b : Bool). choice b (take n name) (drop (n + 1) name)) t

-- an argument that begins with `%`, and one that does not
pub argument-macro : (field : List ℕ) → begins_with 37 field ≡ true → argument_of field ≡ macro_of (drop 1 field)
unfolding argument_of
argument-macro field e = rw e

-- a field that does not begin with `%` is a literal
pub argument-literal : (field : List ℕ) → begins_with 37 field ≡ false → argument_of field ≡ Some (argument.Literal field)
unfolding argument_of
argument-literal field e = rw e

-- what follows a first ASCII byte of a text is text
pub after_byte : (b : ℕ) (field : List ℕ) → b < 128 → begins_with b field ≡ true → is_text field ≡ true → is_text (drop 1 field) ≡ true
after_byte b [] lt e t = absurd (cc)
after_byte b (c ∷ field) lt e t =
    let ascii : c < 128 = let same = eqb-true c b e in omega arith in
    (is_text-parts (c ∷ field) 1 (λ utf8. IsCharBoundary-after_ascii (c ∷ field) 0 utf8 (omega arith) ascii) t).1
