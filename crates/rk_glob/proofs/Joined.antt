-- Patterns written one after the other, and the laws.
use Rattle.std.proofs.Common.{◌≡◌, ◌≢◌, ℕ, List, [], ◌∷◌, ◌++◌, refl, sym, ap, ◌∙◌, subst, append_assoc, inl, inr}
use Rattle.std.proofs.lemmas.List.{append-nil}
use Rattle.std.proofs.lemmas.List.Elements.{recursion_from_All}
use Rattle.rk_glob.specs.Wildcard.{star, Fits}
use Rattle.rk_glob.specs.Laws.{PlainFitsItselfAlone, StarFitsEverything, JoinedFitJoined}
use Rattle.rk_glob.proofs.Bytes.{Takes, Consumes, NoStar, Consumes-plain, Consumes-star, Consumes-from_Fits, Fits-from_Consumes}

-- what is put after the text stays after what is left of it
Takes-behind : (c : ℕ) (t r more : List ℕ) → Takes c t r → Takes c (t ++ more) (r ++ more)
Takes-behind c t r more (inl s) = inl (s.0, (s.1.0, ap (λ (x : List ℕ). x ++ more) s.1.1 ∙ append_assoc s.1.0 r more))
Takes-behind c t r more (inr s) = inr (s.0, ap (λ (x : List ℕ). x ++ more) s.1)

pub Consumes-joined : (p q u v : List ℕ) → Consumes p u → Consumes q v → Consumes (p ++ q) (u ++ v)
Consumes-joined [] q u v a b = let P : List ℕ → Type 0 = λ x. Consumes q (x ++ v) in subst P (sym a) b
Consumes-joined (c ∷ p) q u v a b = (a.0 ++ v, Takes-behind c u a.0 v a.1, Consumes-joined p q a.0 v a.2 b)

-- a text taken by two patterns one after the other
abbrev pub Split : List ℕ → List ℕ → List ℕ → Type 0
Split p q t = (u v : List ℕ) × (t ≡ u ++ v) × Consumes p u × Consumes q v

Split-before : (c : ℕ) (p q t r : List ℕ) → Takes c t r → Split p q r → Split (c ∷ p) q t
Split-before c p q t r (inl s) h =
    (s.1.0 ++ h.0, h.1, s.1.1 ∙ ap (λ (x : List ℕ). s.1.0 ++ x) h.2 ∙ sym (append_assoc s.1.0 h.0 h.1), (h.0, inl (s.0, (s.1.0, refl)), h.3), h.4)
Split-before c p q t r (inr s) h = (c ∷ h.0, h.1, s.1 ∙ ap (λ (x : List ℕ). c ∷ x) h.2, (h.0, inr (s.0, refl), h.3), h.4)

-- a text that two joined patterns take off is split between them
pub Split-from_Consumes : (p q t : List ℕ) → Consumes (p ++ q) t → Split p q t
Split-from_Consumes [] q t h = ([], t, refl, refl, h)
Split-from_Consumes (c ∷ p) q t h = Split-before c p q t h.0 h.1 (Split-from_Consumes p q h.0 h.2)

-- a pattern without `*` takes itself alone
pub only_itself : (p t : List ℕ) → NoStar p → Consumes p t → t ≡ p
only_itself [] t n h = h
only_itself (c ∷ p) t n h = elim h.1 [ inl s ↦ absurd (n.0 s.0) | inr s ↦ s.1 ∙ ap (λ (x : List ℕ). c ∷ x) (only_itself p h.0 n.1 h.2) ]

-- a pattern without `*` fits itself and nothing else
pub plain_fits_itself_alone : PlainFitsItselfAlone
plain_fits_itself_alone p t n =
    let apart = recursion_from_All (λ b. b ≢ star) p n in
    (λ h. sym (only_itself p t apart (Consumes-from_Fits p t h)), λ e. let P : List ℕ → Type 0 = λ x. Fits p x in subst P e (Fits-from_Consumes p p (Consumes-plain p apart)))

-- `*` fits every text
pub star_fits_everything : StarFitsEverything
star_fits_everything t =
    let P : List ℕ → Type 0 = λ x. Fits (star ∷ []) x in
    subst P (append-nil t) (Fits-from_Consumes (star ∷ []) (t ++ []) (Consumes-star [] t [] refl))

-- joined patterns fit exactly the texts that are joined of what each fits
pub joined_fit_joined : JoinedFitJoined
joined_fit_joined p q t = (
  λ h. let s = Split-from_Consumes p q t (Consumes-from_Fits (p ++ q) t h) in (s.0, s.1, s.2, Fits-from_Consumes p s.0 s.3, Fits-from_Consumes q s.1 s.4),
  λ s. let P : List ℕ → Type 0 = λ x. Fits (p ++ q) x in subst P (sym s.2) (Fits-from_Consumes (p ++ q) (s.0 ++ s.1) (Consumes-joined p q s.0 s.1 (Consumes-from_Fits p s.0 s.3) (Consumes-from_Fits q s.1 s.4))),
)
