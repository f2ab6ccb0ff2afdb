-- The first line that is for a request.
use Rattle.std.proofs.Common.{◌≡◌, ℕ, ◌+◌, ◌<◌, List, [], ◌∷◌, ◌++◌, length, take, drop, get_or, Option, Some, None, refl, sym, ap, ◌∙◌, subst, add-one}
use Rattle.std.specs.List.{AllByRecursion}
use Rattle.std.proofs.Math.Seq.{split_at}
use Rattle.std.proofs.lemmas.List.Elements.{recursion_from_All}
use Rattle.rk_conf.specs.declared.line.Line.{Line}
use Rattle.rk_conf.specs.Choice.{IsFor, NoneFor, IsChosen, PicksOne}

-- the list at one of its places, for any list
pub at_item : {X : Type 0} (xs : List X) (n : ℕ) (x : X) → n < length xs → x ≡ get_or xs n x → xs ≡ take n xs ++ x ∷ drop (n + 1) xs
at_item {X = X} xs n x h e =
    let P : X → Type 0 = λ y. xs ≡ take n xs ++ y ∷ drop (n + 1) xs in
    subst P (sym e) (rw add-one (split_at xs n x h))

module _ (op typ desc callout : List ℕ) where
  abbrev Others : List Line → Type 0
  Others = AllByRecursion (λ line. IsFor line op typ desc callout → ⊥)

  -- two first lines that are for the request are one
  same_first : (before after before' after' : List Line) (a b : Line) → before ++ a ∷ after ≡ before' ++ b ∷ after'
      → IsFor a op typ desc callout → IsFor b op typ desc callout → Others before → Others before' → a ≡ b
  same_first [] after [] after' a b e fa fb na nb = cc
  same_first [] after (c ∷ before') after' a b e fa fb na nb = let same : c ≡ a = cc in let P : Line → Type 0 = λ l. IsFor l op typ desc callout in absurd (nb.0 (subst P (sym same) fa))
  same_first (c ∷ before) after [] after' a b e fa fb na nb = let same : c ≡ b = cc in let P : Line → Type 0 = λ l. IsFor l op typ desc callout in absurd (na.0 (subst P (sym same) fb))
  same_first (c ∷ before) after (d ∷ before') after' a b e fa fb na nb = same_first before after before' after' a b (cc) fa fb na.1 nb.1

  -- if none is for it, no part of the lines is
  not_within : (before after : List Line) (a : Line) → Others (before ++ a ∷ after) → IsFor a op typ desc callout → ⊥
  not_within [] after a n f = n.0 f
  not_within (c ∷ before) after a n f = not_within before after a n.1 f

  others : (lines : List Line) → NoneFor lines op typ desc callout → Others lines
  others lines n = recursion_from_All (λ line. IsFor line op typ desc callout → ⊥) lines n

  one_choice : (lines : List Line) (one other : Option Line) → IsChosen lines op typ desc callout one → IsChosen lines op typ desc callout other → one ≡ other
  one_choice lines None None a b = refl
  one_choice lines None (Some y) a b = absurd (not_within b.0 b.1 y (subst Others b.2 (others lines a)) b.3)
  one_choice lines (Some x) None a b = absurd (not_within a.0 a.1 x (subst Others a.2 (others lines b)) a.3)
  one_choice lines (Some x) (Some y) a b = ap Some (same_first a.0 a.1 b.0 b.1 x y (sym a.2 ∙ b.2) a.3 b.3 (others a.0 a.4) (others b.0 b.4))

-- a request picks one line of a configuration, or none
pub picks_one_line : PicksOne
picks_one_line lines op typ desc callout one other a b = one_choice op typ desc callout lines one other a b
