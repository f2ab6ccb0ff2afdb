-- The parts of a pattern before its first `*` and after its last one.
use Rattle.std.proofs.Common.{◌≡◌, ◌≢◌, ◌↔◌, ℕ, List, [], ◌∷◌, ◌++◌, refl, sym, ap, ◌∙◌, subst, append_assoc}
use Rattle.std.proofs.lemmas.List.{append_cancel_left, append_cancel_right}
use Rattle.rk_glob.specs.Wildcard.{star, IsPlain, Fits}
use Rattle.rk_glob.proofs.Joined.{plain_fits_itself_alone, star_fits_everything, joined_fit_joined}

-- a plain part fits itself
itself : (a : List ℕ) → IsPlain a → Fits a a
itself a n = (plain_fits_itself_alone a a n).1 refl

-- what a pattern fits begins with its plain front
front_of : (head p text : List ℕ) → IsPlain head → Fits (head ++ p) text → (rest : List ℕ) × (text ≡ head ++ rest) × Fits p rest
front_of head p text n h =
    let s = (joined_fit_joined head p text).0 h in
    let same : head ≡ s.0 = (plain_fits_itself_alone head s.0 n).0 s.3 in
    (s.1, s.2 ∙ ap (λ (x : List ℕ). x ++ s.1) (sym same), s.4)

-- and ends with its plain end
end_of : (p tail text : List ℕ) → IsPlain tail → Fits (p ++ tail) text → (front : List ℕ) × (text ≡ front ++ tail) × Fits p front
end_of p tail text n h =
    let s = (joined_fit_joined p tail text).0 h in
    let same : tail ≡ s.1 = (plain_fits_itself_alone tail s.1 n).0 s.4 in
    (s.0, s.2 ∙ ap (λ (x : List ℕ). s.0 ++ x) (sym same), s.3)

-- a plain head of the pattern that stands at the front of the text may be taken off both
pub head_is_read : (pattern text head p rest : List ℕ) → pattern ≡ head ++ p → IsPlain head → text ≡ head ++ rest → Fits pattern text ↔ Fits p rest
head_is_read pattern text head p rest e n f =
    let P : List ℕ → Type 0 = λ x. Fits x text in
    let Q : List ℕ → Type 0 = λ x. Fits p x in
    let R : List ℕ → Type 0 = λ x. Fits (head ++ p) x in (
      λ h. let s = front_of head p text n (subst P e h) in subst Q (append_cancel_left head s.0 rest (sym s.1 ∙ f)) s.2,
      λ h. subst P (sym e) (subst R (sym f) ((joined_fit_joined head p (head ++ rest)).1 (head, rest, refl, itself head n, h))),
    )

-- a plain tail of the pattern that stands at the end of the text may be taken off both
pub tail_is_read : (pattern text p tail front : List ℕ) → pattern ≡ p ++ tail → IsPlain tail → text ≡ front ++ tail → Fits pattern text ↔ Fits p front
tail_is_read pattern text p tail front e n f =
    let P : List ℕ → Type 0 = λ x. Fits x text in
    let Q : List ℕ → Type 0 = λ x. Fits p x in
    let R : List ℕ → Type 0 = λ x. Fits (p ++ tail) x in (
      λ h. let s = end_of p tail text n (subst P e h) in subst Q (append_cancel_right s.0 front tail (sym s.1 ∙ f)) s.2,
      λ h. subst P (sym e) (subst R (sym f) ((joined_fit_joined p tail (front ++ tail)).1 (front, tail, refl, h, itself tail n))),
    )

-- a pattern fits no text that lacks its plain head at the front
pub no_head : (pattern text head p : List ℕ) → pattern ≡ head ++ p → IsPlain head → ((rest : List ℕ) → text ≢ head ++ rest) → Fits pattern text → ⊥
no_head pattern text head p e n f h = let P : List ℕ → Type 0 = λ x. Fits x text in let s = front_of head p text n (subst P e h) in f s.0 s.1

-- a pattern fits no text that lacks its plain tail at the end
pub no_tail : (pattern text p tail : List ℕ) → pattern ≡ p ++ tail → IsPlain tail → ((front : List ℕ) → text ≢ front ++ tail) → Fits pattern text → ⊥
no_tail pattern text p tail e n f h = let P : List ℕ → Type 0 = λ x. Fits x text in let s = end_of p tail text n (subst P e h) in f s.0 s.1

-- `*` and then a plain part: the text ends with that part
pub star_then : (text tail : List ℕ) → IsPlain tail → Fits (star ∷ tail) text ↔ ((front : List ℕ) × (text ≡ front ++ tail))
star_then text tail n = (
  λ h. let s = end_of (star ∷ []) tail text n h in (s.0, s.1),
  λ s. (tail_is_read (star ∷ tail) text (star ∷ []) tail s.0 refl n s.1).1 (star_fits_everything s.0),
)

-- the part after the first `*`, cut once more after its last `*`
pub cut_behind : (rest middle tail : List ℕ) → rest ≡ middle ++ star ∷ tail → star ∷ rest ≡ (star ∷ middle ++ star ∷ []) ++ tail
cut_behind rest middle tail e = ap (λ (x : List ℕ). star ∷ x) (e ∙ sym (append_assoc middle (star ∷ []) tail))
