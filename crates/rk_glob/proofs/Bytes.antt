-- A pattern taken byte by byte: what each of its bytes takes off the front of the text.
use Rattle.std.proofs.Common.{◌≡◌, ◌≢◌, ◌⊎◌, ℕ, List, [], ◌∷◌, ◌++◌, refl, sym, subst, append_assoc, inl, inr}
use Rattle.std.specs.List.{AllByRecursion}
use Rattle.std.proofs.lemmas.List.Elements.{All-cons, All-nil, recursion_from_All}
use Rattle.rk_glob.specs.Wildcard.{star, Fits, plain, starred}

-- one byte of a pattern, the text, and what it leaves of the text
abbrev pub Takes : ℕ → List ℕ → List ℕ → Type 0
Takes c t r = ((c ≡ star) × ((u : List ℕ) × (t ≡ u ++ r))) ⊎ ((c ≢ star) × (t ≡ c ∷ r))

-- the bytes of the pattern take the whole text, one after the other
abbrev pub Consumes : List ℕ → List ℕ → Type 0
Consumes [] t = t ≡ []
Consumes (c ∷ p) t = (r : List ℕ) × Takes c t r × Consumes p r

-- no byte is the wildcard
abbrev pub NoStar : List ℕ → Type 0
NoStar = AllByRecursion (λ b. b ≢ star)

-- a front without `*` takes itself
pub Consumes-front : (a p t : List ℕ) → NoStar a → Consumes p t → Consumes (a ++ p) (a ++ t)
Consumes-front [] p t n h = h
Consumes-front (c ∷ a) p t n h = (a ++ t, inr (n.0, refl), Consumes-front a p t n.1 h)

-- a pattern without `*` takes off itself
pub Consumes-plain : (a : List ℕ) → NoStar a → Consumes a a
Consumes-plain [] n = refl
Consumes-plain (c ∷ a) n = (a, inr (n.0, refl), Consumes-plain a n.1)

-- a `*` takes off any bytes at the front
pub Consumes-star : (p u v : List ℕ) → Consumes p v → Consumes (star ∷ p) (u ++ v)
Consumes-star p u v h = (v, inl (refl, (u, refl)), h)

-- a pattern that fits a text takes it off byte by byte
pub Consumes-from_Fits : (p t : List ℕ) → Fits p t → Consumes p t
Consumes-from_Fits p t (plain a n) = Consumes-plain a (recursion_from_All _ a n)
Consumes-from_Fits p t (starred a b u v n h) =
    let within : Consumes (a ++ star ∷ b) (a ++ (u ++ v)) = Consumes-front a (star ∷ b) (u ++ v) (recursion_from_All _ a n) (Consumes-star b u v (Consumes-from_Fits b v h)) in
    let P : List ℕ → Type 0 = λ x. Consumes (a ++ star ∷ b) x in
    subst P (sym (append_assoc a u v)) within

-- a byte other than `*`, put before both
pub Fits-byte : (c : ℕ) (p t : List ℕ) → c ≢ star → Fits p t → Fits (c ∷ p) (c ∷ t)
Fits-byte c p t n (plain a pl) = plain (c ∷ a) (All-cons (λ x. x ≢ star) c a n pl)
Fits-byte c p t n (starred a b u v pl h) = starred (c ∷ a) b u v (All-cons (λ x. x ≢ star) c a n pl) h

-- a pattern that takes a text off byte by byte fits it
pub Fits-from_Consumes : (p t : List ℕ) → Consumes p t → Fits p t
Fits-from_Consumes [] t h = let P : List ℕ → Type 0 = λ x. Fits [] x in subst P (sym h) (plain [] (All-nil _))
Fits-from_Consumes (c ∷ p) t h =
    let rest = Fits-from_Consumes p h.0 h.2 in
    elim h.1 [
      | inl s ↦
          let P : List ℕ → Type 0 = λ x. Fits (c ∷ p) x in
          let Q : ℕ → Type 0 = λ x. Fits (x ∷ p) (s.1.0 ++ h.0) in
          subst P (sym s.1.1) (subst Q (sym s.0) (starred [] p s.1.0 h.0 (All-nil _) rest))
      | inr s ↦ let P : List ℕ → Type 0 = λ x. Fits (c ∷ p) x in subst P (sym s.1) (Fits-byte c p h.0 s.0 rest)
    ]
