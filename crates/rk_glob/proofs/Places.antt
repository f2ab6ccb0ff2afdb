-- The scan by places in the pattern and the text.
use Rattle.std.proofs.Common.{◌≡◌, ◌≢◌, ◌↔◌, ℕ, suc, ◌+◌, ◌-◌, ◌*◌, ◌<◌, ◌≤◌, List, [], ◌∷◌, ◌++◌, length, drop, get_or, refl, sym, ap, ◌∙◌, subst, arith, drop-cons, add-one}
use Rattle.std.proofs.Math.Nat.{mul-le-mul_right, suc-mul}
use Rattle.std.proofs.lemmas.List.{drop_all}
use Rattle.rk_glob.specs.Wildcard.{star, Fits}
use Rattle.rk_glob.proofs.Bytes.{Consumes, Consumes-from_Fits, Fits-from_Consumes}
use Rattle.rk_glob.proofs.Scan.{Track, Track-here, Track-next, star_forgets, none_left, one_more, at_end}

-- what is left of the pattern from this place on, with the closing `*`
abbrev pub left_at : List ℕ → ℕ → List ℕ
left_at middle at = drop at middle ++ star ∷ []

-- the whole fits exactly if the last `*` and what follows it take the text from `from` on, and the bytes since then stand in it
pub record Scans (middle text : List ℕ) (after from at reached : ℕ) : Type 0 where
  pub whole : Fits (star ∷ middle ++ star ∷ []) text ↔ Consumes (star ∷ left_at middle after) (drop from text)
  pub track : Track (left_at middle after) (drop from text) (left_at middle at) (drop reached text)

-- the scan begins at the front of both
pub scans_first : (middle text : List ℕ) → Scans middle text 0 0 0 0
scans_first middle text = record {
  whole = (λ h. Consumes-from_Fits (star ∷ middle ++ star ∷ []) text h, λ h. Fits-from_Consumes (star ∷ middle ++ star ∷ []) text h);
  track = Track-here (middle ++ star ∷ []) text;
}

drop_next : (xs : List ℕ) (i : ℕ) → i < length xs → drop i xs ≡ get_or xs i 0 ∷ drop (i + 1) xs
drop_next xs i h = rw (add-one, drop-cons xs i 0)

-- the track with the next byte of the pattern shown
at_byte : (middle text : List ℕ) (after from at reached : ℕ) (c : ℕ) → at < length middle → get_or middle at 0 ≡ c → Scans middle text after from at reached
    → Track (left_at middle after) (drop from text) (c ∷ left_at middle (at + 1)) (drop reached text)
at_byte middle text after from at reached c h e s =
    let P : List ℕ → Type 0 = λ x. Track (left_at middle after) (drop from text) (x ++ star ∷ []) (drop reached text) in
    let Q : ℕ → Type 0 = λ x. Track (left_at middle after) (drop from text) (x ∷ left_at middle (at + 1)) (drop reached text) in
    subst Q e (subst P (drop_next middle at h) s.track)

-- and the next byte of the text
at_both : (middle text : List ℕ) (after from at reached : ℕ) → at < length middle → reached < length text → Scans middle text after from at reached
    → Track (left_at middle after) (drop from text) (get_or middle at 0 ∷ left_at middle (at + 1)) (get_or text reached 0 ∷ drop (reached + 1) text)
at_both middle text after from at reached h k s =
    let P : List ℕ → Type 0 = λ x. Track (left_at middle after) (drop from text) (get_or middle at 0 ∷ left_at middle (at + 1)) x in
    subst P (drop_next text reached k) (at_byte middle text after from at reached (get_or middle at 0) h refl s)

-- a `*` in the middle is passed, and its place is kept
pub scans_star : (middle text : List ℕ) (after from at reached : ℕ) → at < length middle → get_or middle at 0 ≡ star → Scans middle text after from at reached
    → Scans middle text (at + 1) reached (at + 1) reached
scans_star middle text after from at reached h e s =
    let f = star_forgets (left_at middle after) (drop from text) (left_at middle (at + 1)) (drop reached text) (at_byte middle text after from at reached star h e s) in
    record {
      whole = (λ x. f.0 (s.whole.0 x), λ x. s.whole.1 (f.1 x));
      track = Track-here (left_at middle (at + 1)) (drop reached text);
    }

-- an equal byte is passed in both
pub scans_next : (middle text : List ℕ) (after from at reached : ℕ) → at < length middle → reached < length text → get_or middle at 0 ≢ star → get_or middle at 0 ≡ get_or text reached 0
    → Scans middle text after from at reached → Scans middle text after from (at + 1) (reached + 1)
scans_next middle text after from at reached h k n e s =
    let P : ℕ → Type 0 = λ x. Track (left_at middle after) (drop from text) (get_or middle at 0 ∷ left_at middle (at + 1)) (x ∷ drop (reached + 1) text) in
    record {
      whole = s.whole;
      track = Track-next (left_at middle after) (drop from text) (get_or middle at 0) (left_at middle (at + 1)) (drop (reached + 1) text) n (subst P (sym e) (at_both middle text after from at reached h k s));
    }

-- after a different byte the scan goes on after the last `*`, one place later in the text
pub scans_retry : (middle text : List ℕ) (after from at reached : ℕ) → at < length middle → reached < length text → from ≤ reached → get_or middle at 0 ≢ star → (get_or middle at 0 ≡ get_or text reached 0 → ⊥)
    → Scans middle text after from at reached → Scans middle text after (from + 1) after (from + 1)
scans_retry middle text after from at reached h k le n apart s =
    let before : from < length text = omega arith in
    let f = one_more (left_at middle after) (drop from text) (get_or middle at 0) (get_or text reached 0) (left_at middle (at + 1)) (drop (reached + 1) text) n apart (at_both middle text after from at reached h k s) (get_or text from 0) (drop (from + 1) text) (drop_next text from before) in
    record {
      whole = (λ x. f.0 (s.whole.0 x), λ x. s.whole.1 (f.1 x));
      track = Track-here (left_at middle after) (drop (from + 1) text);
    }

-- the text has ended before the pattern
pub scans_short : (middle text : List ℕ) (after from at reached : ℕ) → at < length middle → reached ≡ length text → get_or middle at 0 ≢ star → Scans middle text after from at reached
    → Fits (star ∷ middle ++ star ∷ []) text → ⊥
scans_short middle text after from at reached h e n s fits =
    let P : List ℕ → Type 0 = λ x. Track (left_at middle after) (drop from text) (get_or middle at 0 ∷ left_at middle (at + 1)) x in
    let none : drop reached text ≡ [] = drop_all reached text (omega arith) in
    none_left (left_at middle after) (drop from text) (get_or middle at 0) (left_at middle (at + 1)) n (subst P none (at_byte middle text after from at reached (get_or middle at 0) h refl s)) (s.whole.0 fits)

-- the pattern has ended
pub scans_done : (middle text : List ℕ) (after from at reached : ℕ) → length middle ≤ at → Scans middle text after from at reached → Fits (star ∷ middle ++ star ∷ []) text
scans_done middle text after from at reached h s =
    let P : List ℕ → Type 0 = λ x. Track (left_at middle after) (drop from text) (x ++ star ∷ []) (drop reached text) in
    s.whole.1 (at_end (left_at middle after) (drop from text) (drop reached text) (subst P (drop_all at middle h) s.track))

-- how far the scan has still to go: at most the places of the text times both lengths
abbrev pub to_go : ℕ → ℕ → ℕ → ℕ → ℕ → ℕ
to_go pattern text from at reached = (text - from) * (pattern + text + 1) + (text - reached) + (pattern - at)

pub to_go_star : (pattern text from at reached : ℕ) → at < pattern → from ≤ reached → to_go pattern text reached (at + 1) reached < to_go pattern text from at reached
to_go_star pattern text from at reached h le =
    let less : (text - reached) * (pattern + text + 1) ≤ (text - from) * (pattern + text + 1) = mul-le-mul_right (pattern + text + 1) (omega arith) in
    omega arith

pub to_go_retry : (pattern text from at reached after : ℕ) → from < text → to_go pattern text (from + 1) after (from + 1) < to_go pattern text from at reached
to_go_retry pattern text from at reached after h =
    let m : ℕ = text - (from + 1) in
    let one : text - from ≡ suc m = omega arith in
    let e : (text - from) * (pattern + text + 1) ≡ m * (pattern + text + 1) + (pattern + text + 1) = ap (λ (x : ℕ). x * (pattern + text + 1)) one ∙ suc-mul m (pattern + text + 1) in
    omega (arith, e)
