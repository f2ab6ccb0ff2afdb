-- Lists of places.
use Rattle.rk_auth.proofs.Words.{◌∙◌, ap, sym, ◌≡◌, refl, ℕ, cond, arith, true, false, inl, inr, ◌||◌, Bool, List, ◌∷◌, [], ◌<◌, ◌≤◌, length, both_ways}
use Rattle.rk_auth.proofs.Words.{cases_eq, eq-eqb, ne_eqb, nat_eq, has, EachOnce}

-- all but this place
abbrev pub without : ℕ → List ℕ → List ℕ
without j [] = []
without j (x ∷ xs) = cond (nat_eq x j) (without j xs) (x ∷ without j xs)

no_more : (b : Bool) → cond b false false ≡ false
no_more true = refl
no_more false = refl

-- a list without j has every place that it had, but not j
pub has_without : (j : ℕ) (xs : List ℕ) (q : ℕ) → has (without j xs) q ≡ cond (nat_eq j q) false (has xs q)
has_without j [] q = sym (no_more (nat_eq j q))
has_without j (x ∷ xs) q = elim (cases_eq x j) [
  | inl e ↦ ap (λ b. has (cond b (without j xs) (x ∷ without j xs)) q) (eq-eqb x j e) ∙ has_without j xs q ∙ skipped e
  | inr ne ↦ ap (λ b. has (cond b (without j xs) (x ∷ without j xs)) q) (ne_eqb x j ne) ∙ ap (λ b. nat_eq x q || b) (has_without j xs q) ∙ kept ne
]
  where
    skipped : x ≡ j → cond (nat_eq j q) false (has xs q) ≡ cond (nat_eq j q) false (nat_eq x q || has xs q)
    skipped e = elim (cases_eq j q) [
      | inl same ↦ ap (λ b. cond b false (has xs q)) (eq-eqb j q same) ∙ sym (ap (λ b. cond b false (nat_eq x q || has xs q)) (eq-eqb j q same))
      | inr other ↦ ap (λ b. cond (nat_eq j q) false (b || has xs q)) (sym (ne_eqb x q (λ s. other (sym e ∙ s))))
    ]

    kept : (x ≡ j → ⊥) → (nat_eq x q || cond (nat_eq j q) false (has xs q)) ≡ cond (nat_eq j q) false (nat_eq x q || has xs q)
    kept ne = elim (cases_eq j q) [
      | inl same ↦
          ap (λ b. nat_eq x q || cond b false (has xs q)) (eq-eqb j q same) ∙ ap (λ b. b || false) (ne_eqb x q (λ s. ne (s ∙ sym same)))
          ∙ sym (ap (λ b. cond b false (nat_eq x q || has xs q)) (eq-eqb j q same))
      | inr other ↦
          ap (λ b. nat_eq x q || cond b false (has xs q)) (ne_eqb j q other) ∙ sym (ap (λ b. cond b false (nat_eq x q || has xs q)) (ne_eqb j q other))
    ]

-- a list in which none stands twice keeps that without j
pub once_without : (j : ℕ) (xs : List ℕ) → EachOnce xs → EachOnce (without j xs)
once_without j [] h = tt
once_without j (x ∷ xs) h = elim (cases_eq x j) [
  | inl e ↦ rw (eq-eqb x j e) (once_without j xs h.1)
  | inr ne ↦ rw (ne_eqb x j ne) (has_without j xs x ∙ ap (λ b. cond b false (has xs x)) (ne_eqb j x (λ s. ne (sym s))) ∙ h.0, once_without j xs h.1)
]

-- the head is one of them
pub at_head : (x : ℕ) (xs : List ℕ) → has (x ∷ xs) x ≡ true
at_head x xs = ap (λ b. b || has xs x) (eq-eqb x x refl)

-- a place of the rest is a place of the list
pub in_tail : (x : ℕ) (xs : List ℕ) (q : ℕ) → has xs q ≡ true → has (x ∷ xs) q ≡ true
in_tail x xs q t = ap (λ b. nat_eq x q || b) t ∙ either (nat_eq x q)
  where
    either : (b : Bool) → (b || true) ≡ true
    either true = refl
    either false = refl

-- one of the tail is not the head
pub not_head : (x : ℕ) (xs : List ℕ) (q : ℕ) → has xs x ≡ false → has xs q ≡ true → x ≡ q → ⊥
not_head x xs q absent t e = both_ways _ (sym (ap (has xs) e) ∙ absent) t

-- what is not one of all is not the head, and none of the tail
pub none_head : (x : ℕ) (xs : List ℕ) (q : ℕ) → has (x ∷ xs) q ≡ false → x ≡ q → ⊥
none_head x xs q absent e = both_ways _ absent (ap (λ b. b || has xs q) (eq-eqb x q e))

pub none_tail : (x : ℕ) (xs : List ℕ) (q : ℕ) → has (x ∷ xs) q ≡ false → has xs q ≡ false
none_tail x xs q absent = sym (ap (λ b. b || has xs q) (ne_eqb x q (none_head x xs q absent))) ∙ absent

-- the list is not longer with a place left out, and shorter if it was there
not_longer : (j : ℕ) (xs : List ℕ) → length (without j xs) ≤ length xs
not_longer j [] = omega arith
not_longer j (x ∷ xs) = elim (cases_eq x j) [
  | inl e ↦ rw (eq-eqb x j e) (omega (arith, not_longer j xs))
  | inr ne ↦ rw (ne_eqb x j ne) (omega (arith, not_longer j xs))
]

shorter : (j : ℕ) (xs : List ℕ) → has xs j ≡ true → length (without j xs) < length xs
shorter j [] t = absurd (both_ways _ refl t)
shorter j (x ∷ xs) t = elim (cases_eq x j) [
  | inl e ↦ rw (eq-eqb x j e) (omega (arith, not_longer j xs))
  | inr ne ↦ rw (ne_eqb x j ne) (omega (arith, shorter j xs (sym (ap (λ b. b || has xs j) (ne_eqb x j ne)) ∙ t)))
]

-- different places that are all among others are not more
pub not_more : (xs ys : List ℕ) → EachOnce xs → ((q : ℕ) → has xs q ≡ true → has ys q ≡ true) → length xs ≤ length ys
not_more [] ys once within = omega arith
not_more (x ∷ xs) ys once within =
    let fewer : length (without x ys) < length ys = shorter x ys (within x (at_head x xs)) in
    let rest : length xs ≤ length (without x ys) = not_more xs (without x ys) once.1 (λ q t.
    has_without x ys q ∙ ap (λ b. cond b false (has ys q)) (ne_eqb x q (not_head x xs q once.0 t)) ∙ within q (in_tail x xs q t)) in
    omega (arith, fewer, rest)
