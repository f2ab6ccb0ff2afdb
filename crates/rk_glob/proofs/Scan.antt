-- The scan between two `*`: the bytes since the last `*` stand in the text, and only later places are left to try.
use Rattle.std.proofs.Common.{◌≡◌, ◌≢◌, ◌↔◌, ℕ, suc, ◌≤◌, List, [], ◌∷◌, ◌++◌, length, refl, sym, ap, ◌∙◌, subst, append_assoc, inl, inr, arith, length-append}
use Rattle.std.proofs.lemmas.List.{append-nil, append_cancel_left}
use Rattle.rk_glob.specs.Wildcard.{star}
use Rattle.rk_glob.proofs.Bytes.{Consumes, NoStar, Consumes-front, Consumes-star}
use Rattle.rk_glob.proofs.Joined.{Split-from_Consumes, only_itself}

-- the bytes of `since`, no `*` among them, lead from the pattern and the text after the last `*` to those that are left
pub record Track (pattern text left rest : List ℕ) : Type 0 where
  pub since : List ℕ
  pub apart : NoStar since
  pub pattern_is : pattern ≡ since ++ left
  pub text_is : text ≡ since ++ rest

-- a scan that has passed nothing is on its way
pub Track-here : (pattern text : List ℕ) → Track pattern text pattern text
Track-here pattern text = record { since = []; apart = tt; pattern_is = refl; text_is = refl }

NoStar-push : (a : List ℕ) (c : ℕ) → NoStar a → c ≢ star → NoStar (a ++ c ∷ [])
NoStar-push [] c n h = (h, tt)
NoStar-push (d ∷ a) c n h = (n.0, NoStar-push a c n.1 h)

-- a scan that passes an equal byte in both is on its way
pub Track-next : (pattern text : List ℕ) (c : ℕ) (left rest : List ℕ) → c ≢ star → Track pattern text (c ∷ left) (c ∷ rest) → Track pattern text left rest
Track-next pattern text c left rest n t = record {
  since = t.since ++ c ∷ [];
  apart = NoStar-push t.since c t.apart n;
  pattern_is = t.pattern_is ∙ sym (append_assoc t.since (c ∷ []) left);
  text_is = t.text_is ∙ sym (append_assoc t.since (c ∷ []) rest);
}

-- two ways to cut one list: the later cut comes after the earlier one
overhang : (a t w y : List ℕ) → a ++ t ≡ w ++ y → length a ≤ length w → (z : List ℕ) × (t ≡ z ++ y)
overhang [] t w y e le = (w, e)
overhang (c ∷ a) t [] y e le = absurd (omega arith)
overhang (c ∷ a) t (d ∷ w) y e le = overhang a t w y (cc) (omega arith)

-- what a `*` takes may begin earlier
pub more_before : (p z t : List ℕ) → Consumes (star ∷ p) t → Consumes (star ∷ p) (z ++ t)
more_before p z t h = elim h.1 [
  | inl s ↦ (h.0, inl (refl, (z ++ s.1.0, ap (λ (x : List ℕ). z ++ x) s.1.1 ∙ sym (append_assoc z s.1.0 h.0))), h.2)
  | inr s ↦ absurd (s.0 refl)
]

-- where a `*` and then `since` and `left` take the text
record Later (since left text : List ℕ) : Type 0 where
  over : List ℕ
  rest : List ℕ
  text_is : text ≡ over ++ (since ++ rest)
  takes : Consumes left rest

later_of : (pattern text since left : List ℕ) → NoStar since → pattern ≡ since ++ left → Consumes (star ∷ pattern) text → Later since left text
later_of pattern text since left n e h = elim h.1 [
  | inl s ↦
      let P : List ℕ → Type 0 = λ x. Consumes x h.0 in
      let cut = Split-from_Consumes since left h.0 (subst P e h.2) in
      let same = only_itself since cut.0 n cut.3 in
      record {
        over = s.1.0;
        rest = cut.1;
        text_is = s.1.1 ∙ ap (λ (x : List ℕ). s.1.0 ++ x) (cut.2 ∙ ap (λ (x : List ℕ). x ++ cut.1) same);
        takes = cut.4;
      }
  | inr s ↦ absurd (s.0 refl)
]

-- a `*` at the front of a pattern takes a text of which it and the rest take the end
at_once : (pattern text left rest : List ℕ) → Track pattern text left rest → Consumes left rest → Consumes (star ∷ pattern) text
at_once pattern text left rest t h =
    let P : List ℕ → Type 0 = λ x. Consumes (star ∷ x) text in
    let Q : List ℕ → Type 0 = λ x. Consumes (star ∷ (t.since ++ left)) x in
    subst P (sym t.pattern_is) (subst Q (sym t.text_is) (Consumes-star (t.since ++ left) [] (t.since ++ rest) (Consumes-front t.since left rest t.apart h)))

-- at the next `*` no earlier choice matters
pub star_forgets : (pattern text left rest : List ℕ) → Track pattern text (star ∷ left) rest → Consumes (star ∷ pattern) text ↔ Consumes (star ∷ left) rest
star_forgets pattern text left rest t = (
  λ h.
      let l = later_of pattern text t.since (star ∷ left) t.apart t.pattern_is h in
      let whole : t.since ++ rest ≡ (l.over ++ t.since) ++ l.rest = sym t.text_is ∙ l.text_is ∙ sym (append_assoc l.over t.since l.rest) in
      let z = overhang t.since rest (l.over ++ t.since) l.rest whole (omega (arith, length-append l.over t.since)) in
      let P : List ℕ → Type 0 = λ x. Consumes (star ∷ left) x in
      subst P (sym z.1) (more_before left z.0 l.rest l.takes),
  at_once pattern text (star ∷ left) rest t,
)

takes_byte : (c : ℕ) (p t : List ℕ) → c ≢ star → Consumes (c ∷ p) t → (r : List ℕ) × (t ≡ c ∷ r)
takes_byte c p t n h = elim h.1 [ inl s ↦ absurd (n s.0) | inr s ↦ (h.0, s.1) ]

-- where the text has ended and the pattern has not
pub none_left : (pattern text : List ℕ) (c : ℕ) (left : List ℕ) → c ≢ star → Track pattern text (c ∷ left) [] → Consumes (star ∷ pattern) text → ⊥
none_left pattern text c left n t h =
    let l = later_of pattern text t.since (c ∷ left) t.apart t.pattern_is h in
    let b = takes_byte c left l.rest n l.takes in
    let long : length l.rest ≡ suc (length b.0) = ap length b.1 in
    let whole : length text ≡ length (l.over ++ (t.since ++ l.rest)) = ap length l.text_is in
    let short : length text ≡ length (t.since ++ []) = ap length t.text_is in
    omega (arith, length-append l.over (t.since ++ l.rest), length-append t.since l.rest, length-append t.since [])

later_text : (c d : ℕ) (p left rest text since : List ℕ) (l : Later since (c ∷ left) text) → c ≢ star → (c ≡ d → ⊥) → text ≡ since ++ (d ∷ rest) → (x : ℕ) (after : List ℕ) → text ≡ x ∷ after
    → (over : List ℕ) × (after ≡ over ++ (since ++ l.rest))
later_text c d p left rest text since l n apart e x after first =
    elim l.over as (λ (o : List ℕ). text ≡ o ++ (since ++ l.rest) → (over : List ℕ) × (after ≡ over ++ (since ++ l.rest))) [
      | [] ↦ λ h.
          let b = takes_byte c left l.rest n l.takes in
          let same : d ∷ rest ≡ c ∷ b.0 = append_cancel_left since (d ∷ rest) l.rest (sym e ∙ h) ∙ b.1 in
          absurd (apart cc)
      | o ∷ os ↦ λ h. (os, let k : x ∷ after ≡ o ∷ (os ++ (since ++ l.rest)) = sym first ∙ h in cc)
    ] l.text_is

-- if a byte differs, the last `*` takes one byte more
pub one_more : (pattern text : List ℕ) (c d : ℕ) (left rest : List ℕ) → c ≢ star → (c ≡ d → ⊥) → Track pattern text (c ∷ left) (d ∷ rest) → (x : ℕ) (after : List ℕ) → text ≡ x ∷ after
    → Consumes (star ∷ pattern) text ↔ Consumes (star ∷ pattern) after
one_more pattern text c d left rest n apart t x after first = (
  λ h.
      let l = later_of pattern text t.since (c ∷ left) t.apart t.pattern_is h in
      let o = later_text c d pattern left rest text t.since l n apart t.text_is x after first in
      let inner : Consumes pattern (t.since ++ l.rest) = let P : List ℕ → Type 0 = λ y. Consumes y (t.since ++ l.rest) in subst P (sym t.pattern_is) (Consumes-front t.since (c ∷ left) l.rest t.apart l.takes) in
      let P : List ℕ → Type 0 = λ y. Consumes (star ∷ pattern) y in
      subst P (sym o.1) (Consumes-star pattern o.0 (t.since ++ l.rest) inner),
  λ h. let P : List ℕ → Type 0 = λ y. Consumes (star ∷ pattern) y in subst P (sym first) (more_before pattern (x ∷ []) after h),
)

-- where only the closing `*` is left
pub at_end : (pattern text rest : List ℕ) → Track pattern text (star ∷ []) rest → Consumes (star ∷ pattern) text
at_end pattern text rest t =
    let P : List ℕ → Type 0 = λ x. Consumes (star ∷ []) x in
    at_once pattern text (star ∷ []) rest t (subst P (append-nil rest) (Consumes-star [] rest [] refl))
