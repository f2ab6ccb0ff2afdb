-- What follows a place in a list.
use Rattle.std.proofs.Common.{◌≡◌, ℕ, zero, suc, ◌+◌, List, [], ◌∷◌, map, drop, sym, ap, ◌∙◌, arith}
use Rattle.std.proofs.lemmas.List.{drop-map}

one_behind : {A : Type 0} (n : ℕ) (xs : List A) (x : A) (more : List A) → drop n xs ≡ x ∷ more → drop (suc n) xs ≡ more
one_behind zero [] x more e = absurd (cc)
one_behind (suc n) [] x more e = absurd (cc)
one_behind zero (y ∷ ys) x more e = cc
one_behind (suc n) (y ∷ ys) x more e = one_behind n ys x more e

-- what is seen after the n-th of a list is what follows it, seen
pub map_behind : {A B : Type 0} (f : A → B) (n : ℕ) (xs : List A) (x : A) (more : List A) → drop n xs ≡ x ∷ more → map f more ≡ drop (n + 1) (map f xs)
map_behind f n xs x more e =
    let one : n + 1 ≡ suc n = omega arith in
    rw one (sym (drop-map f (suc n) xs ∙ ap (map f) (one_behind n xs x more e)))
