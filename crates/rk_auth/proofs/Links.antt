-- Chains by what follows each place and what stands before it.
use Rattle.rk_auth.proofs.Words.{◌∙◌, ap, sym, ◌≡◌, subst, refl, ℕ, cond, true, false, inl, inr, ◌||◌, List, ◌∷◌, [], ◌⊎◌, both_ways, cases_eq, eq-eqb, ne_eqb}
use Rattle.rk_auth.proofs.Words.{eqb-true, none-some, same_Some, Some, None, nat_eq, Option, has, names, EachOnce, IsChain}
use Rattle.rk_auth.proofs.Lists.{without, at_head, in_tail, not_head, none_head}

-- ---- choices by number

-- the choice by two equal places is the first
pub at_same : {X : Type 0} (k q : ℕ) (x y : X) → k ≡ q → cond (nat_eq k q) x y ≡ x
at_same k q x y e = ap (λ b. cond b x y) (eq-eqb k q e)

-- the choice by two different places is the second
pub at_apart : {X : Type 0} (k q : ℕ) (x y : X) → (k ≡ q → ⊥) → cond (nat_eq k q) x y ≡ y
at_apart k q x y ne = ap (λ b. cond b x y) (ne_eqb k q ne)

-- what is x at k, and y at every other place, is the choice between them
pub chosen : {X : Type 0} (k q : ℕ) {x y z : X} → (k ≡ q → z ≡ x) → ((k ≡ q → ⊥) → z ≡ y) → z ≡ cond (nat_eq k q) x y
chosen k q {x} {y} here there = elim (cases_eq k q) [
  | inl e ↦ here e ∙ sym (at_same k q x y e)
  | inr ne ↦ there ne ∙ sym (at_apart k q x y ne)
]

-- an option that names j is j
pub named_is : (o : Option ℕ) (j : ℕ) → names o j ≡ true → o ≡ Some j
named_is None j t = absurd (both_ways _ refl t)
named_is (Some x) j t = ap (λ n. Some n) (eqb-true x j t)

-- an option that is j names j
pub is_named : (o : Option ℕ) (j : ℕ) → o ≡ Some j → names o j ≡ true
is_named o j e = ap (λ x. names x j) e ∙ eq-eqb j j refl

-- an option that is not j does not name j
pub not_named : (o : Option ℕ) (j : ℕ) → (o ≡ Some j → ⊥) → names o j ≡ false
not_named None j ne = refl
not_named (Some x) j ne = ne_eqb x j (λ e. ne (ap (λ n. Some n) e))

-- what stands for j where j stood
abbrev pub over : (ℕ → Option ℕ) → ℕ → Option ℕ → Option ℕ
over f j o = cond (names o j) (f j) o

-- where j stood, what stands for it is taken
pub over_named : (f : ℕ → Option ℕ) (j : ℕ) (o : Option ℕ) → o ≡ Some j → over f j o ≡ f j
over_named f j o e = ap (λ b. cond b (f j) o) (is_named o j e)

-- where j did not stand, nothing changes
pub over_other : (f : ℕ → Option ℕ) (j : ℕ) (o : Option ℕ) → (o ≡ Some j → ⊥) → over f j o ≡ o
over_other f j o ne = ap (λ b. cond b (f j) o) (not_named o j ne)

over_stays : (f : ℕ → Option ℕ) (j : ℕ) (o : Option ℕ) → f j ≡ o → over f j o ≡ f j
over_stays f j o e = elim (names o j) as (λ b. cond b (f j) o ≡ f j) [ true ↦ refl | false ↦ sym e ]

-- ---- a chain that nothing touches

-- a chain is still one where next and before are as they were at its places
pub frame : (nx bf nx' bf' : ℕ → Option ℕ) (from at : Option ℕ) (xs : List ℕ) → ((q : ℕ) → has xs q ≡ true → nx' q ≡ nx q)
    → ((q : ℕ) → has xs q ≡ true → bf' q ≡ bf q) → IsChain nx bf from at xs → IsChain nx' bf' from at xs
frame nx bf nx' bf' from at [] sn sb h = h
frame nx bf nx' bf' from at (x ∷ xs) sn sb h = (
  h.0,
  sb x (at_head x xs) ∙ h.1,
  subst (λ o. IsChain nx' bf' (Some x) o xs) (sym (sn x (at_head x xs)))
      (frame nx bf nx' bf' (Some x) (nx x) xs (λ q t. sn q (in_tail x xs q t)) (λ q t. sb q (in_tail x xs q t)) h.2),
)

-- ---- one in front

-- a place put before a chain makes a chain, where the old first has it before it and nothing else changes
pub in_front : (nx bf nx' bf' : ℕ → Option ℕ) (j : ℕ) (at : Option ℕ) (xs : List ℕ) → EachOnce xs → nx' j ≡ at → bf' j ≡ None
    → ((q : ℕ) → has xs q ≡ true → nx' q ≡ nx q) → ((q : ℕ) → has xs q ≡ true → bf' q ≡ cond (names at q) (Some j) (bf q))
    → IsChain nx bf None at xs → IsChain nx' bf' None (Some j) (j ∷ xs)
in_front nx bf nx' bf' j at [] once nj bj sn sb h = (refl, bj, nj ∙ h)
in_front nx bf nx' bf' j at (x ∷ xs) once nj bj sn sb h = (
  refl,
  bj,
  (
    nj ∙ h.0,
    sb x (at_head x xs) ∙ ap (λ b. cond b (Some j) (bf x)) (is_named at x h.0),
    subst (λ o. IsChain nx' bf' (Some x) o xs) (sym (sn x (at_head x xs)))
        (frame nx bf nx' bf' (Some x) (nx x) xs (λ q t. sn q (in_tail x xs q t))
        (λ q t. sb q (in_tail x xs q t) ∙ ap (λ o. cond (names o q) (Some j) (bf q)) h.0 ∙ at_apart x q (Some j) (bf q) (not_head x xs q once.0 t)) h.2),
  ),
)

-- ---- one taken out

not_first : (nx bf : ℕ → Option ℕ) (j : ℕ) (from at : Option ℕ) (xs : List ℕ) → IsChain nx bf from at xs → has xs j ≡ false → at ≡ Some j → ⊥
not_first nx bf j from at [] h absent e = none-some j (sym h ∙ e)
not_first nx bf j from at (x ∷ xs) h absent e = none_head x xs j absent (same_Some x j (sym h.0 ∙ e))

-- a chain without one of its places is a chain, where its neighbours are joined
pub taken_from : (nx bf nx' bf' : ℕ → Option ℕ) (j : ℕ) (from at : Option ℕ) (xs : List ℕ) → EachOnce xs
    → ((q : ℕ) → (q ≡ j → ⊥) → nx' q ≡ over nx j (nx q)) → ((q : ℕ) → (q ≡ j → ⊥) → bf' q ≡ over bf j (bf q))
    → IsChain nx bf from at xs → IsChain nx' bf' (over bf j from) (over nx j at) (without j xs)
taken_from nx bf nx' bf' j from at [] once sn sb h = ap (over nx j) h
taken_from nx bf nx' bf' j from at (x ∷ xs) once sn sb h =
    let rest : IsChain nx' bf' (over bf j (Some x)) (over nx j (nx x)) (without j xs) = taken_from nx bf nx' bf' j (Some x) (nx x) xs once.1 sn sb h.2 in
    elim (cases_eq x j) [
      | inl e ↦
          let absent : has xs j ≡ false = ap (has xs) (sym e) ∙ once.0 in
          let next : over nx j (nx x) ≡ over nx j at =
          over_other nx j (nx x) (not_first nx bf j (Some x) (nx x) xs h.2 absent) ∙ ap nx e ∙ sym (over_named nx j at (h.0 ∙ ap (λ n. Some n) e)) in
          let before : over bf j (Some x) ≡ over bf j from =
          over_named bf j (Some x) (ap (λ n. Some n) e) ∙ sym (over_stays bf j from (ap bf (sym e) ∙ h.1)) in
          subst (λ l. IsChain nx' bf' (over bf j from) (over nx j at) l) (sym (at_same x j (without j xs) (x ∷ without j xs) e))
          (subst (λ o. IsChain nx' bf' o (over nx j at) (without j xs)) before (subst (λ o. IsChain nx' bf' (over bf j (Some x)) o (without j xs)) next rest))
      | inr ne ↦
          let other : Some x ≡ Some j → ⊥ = λ e. ne (same_Some x j e) in
          subst (λ l. IsChain nx' bf' (over bf j from) (over nx j at) l) (sym (at_apart x j (without j xs) (x ∷ without j xs) ne)) (
            ap (over nx j) h.0 ∙ over_other nx j (Some x) other,
            sb x ne ∙ ap (over bf j) h.1,
            subst (λ o. IsChain nx' bf' (Some x) o (without j xs)) (sym (sn x ne))
                (subst (λ o. IsChain nx' bf' o (over nx j (nx x)) (without j xs)) (over_other bf j (Some x) other) rest),
          )
    ]

-- ---- next and before say the same

-- the first place is in the chain, and has before it what the chain has
pub head_is : (nx bf : ℕ → Option ℕ) (y : ℕ) (from at : Option ℕ) (xs : List ℕ) → IsChain nx bf from at xs → at ≡ Some y → (bf y ≡ from) × (has xs y ≡ true)
head_is nx bf y from at [] h e = absurd (none-some y (sym h ∙ e))
head_is nx bf y from at (x ∷ xs) h e =
    let same : x ≡ y = same_Some x y (sym h.0 ∙ e) in
    (ap bf (sym same) ∙ h.1, ap (λ b. b || has xs y) (eq-eqb x y same))

in_rest : (x : ℕ) (xs : List ℕ) (q : ℕ) → (x ≡ q → ⊥) → has (x ∷ xs) q ≡ true → has xs q ≡ true
in_rest x xs q ne t = sym (ap (λ b. b || has xs q) (ne_eqb x q ne)) ∙ t

-- the place that follows one of the chain has that one before it, and is in the chain
pub next_back : (nx bf : ℕ → Option ℕ) (x y : ℕ) (from at : Option ℕ) (xs : List ℕ) → IsChain nx bf from at xs → has xs x ≡ true → nx x ≡ Some y
    → (bf y ≡ Some x) × (has xs y ≡ true)
next_back nx bf x y from at [] h t e = absurd (both_ways _ refl t)
next_back nx bf x y from at (z ∷ xs) h t e = elim (cases_eq z x) [
  | inl same ↦
      let head = head_is nx bf y (Some z) (nx z) xs h.2 (ap nx same ∙ e) in
      (head.0 ∙ ap (λ n. Some n) same, in_tail z xs y head.1)
  | inr ne ↦
      let rest = next_back nx bf x y (Some z) (nx z) xs h.2 (in_rest z xs x ne t) e in
      (rest.0, in_tail z xs y rest.1)
]

-- what stands before a place of the chain is followed by it, or stands before the whole chain
pub before_on : (nx bf : ℕ → Option ℕ) (x y : ℕ) (from at : Option ℕ) (xs : List ℕ) → IsChain nx bf from at xs → has xs y ≡ true → bf y ≡ Some x
    → ((from ≡ Some x) × (at ≡ Some y)) ⊎ (nx x ≡ Some y)
before_on nx bf x y from at [] h t e = absurd (both_ways _ refl t)
before_on nx bf x y from at (z ∷ xs) h t e = elim (cases_eq z y) [
  | inl same ↦ inl (sym h.1 ∙ ap bf same ∙ e, h.0 ∙ ap (λ n. Some n) same)
  | inr ne ↦ elim (before_on nx bf x y (Some z) (nx z) xs h.2 (in_rest z xs y ne t) e) [
    | inl first ↦ inr (ap nx (sym (same_Some z x first.0)) ∙ first.1)
    | inr later ↦ inr later
  ]
]

has_before : (nx bf : ℕ → Option ℕ) (w y : ℕ) (at : Option ℕ) (xs : List ℕ) → IsChain nx bf (Some w) at xs → has xs y ≡ true → bf y ≡ None → ⊥
has_before nx bf w y at [] h t e = both_ways _ refl t
has_before nx bf w y at (z ∷ xs) h t e = elim (cases_eq z y) [
  | inl same ↦ none-some w (sym e ∙ ap bf (sym same) ∙ h.1)
  | inr ne ↦ has_before nx bf z y (nx z) xs h.2 (in_rest z xs y ne t) e
]

-- a place of the chain with none before it is the first
pub first_is : (nx bf : ℕ → Option ℕ) (y : ℕ) (from at : Option ℕ) (xs : List ℕ) → IsChain nx bf from at xs → has xs y ≡ true → bf y ≡ None → at ≡ Some y
first_is nx bf y from at [] h t e = absurd (both_ways _ refl t)
first_is nx bf y from at (z ∷ xs) h t e = elim (cases_eq z y) [
  | inl same ↦ h.0 ∙ ap (λ n. Some n) same
  | inr ne ↦ absurd (has_before nx bf z y (nx z) xs h.2 (in_rest z xs y ne t) e)
]
