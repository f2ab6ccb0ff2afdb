-- Bytes that are put among arguments, as they are seen.
use Rattle.std.proofs.Common.{◌≡◌, ℕ, List, [], ◌∷◌, ◌++◌, map, take, drop, refl, sym, ap}
use Rattle.std.specs.List.{insert}
use Rattle.std.proofs.lemmas.List.{drop-map, take-map}

map-append : {A B : Type 0} (f : A → B) (xs ys : List A) → map f (xs ++ ys) ≡ map f xs ++ map f ys
map-append f [] ys = refl
map-append f (x ∷ xs) ys = ap (λ zs. f x ∷ zs) (map-append f xs ys)

-- what is put among arguments is seen among them, in its place
pub inserted : {A : Type 0} (view : A → List ℕ) (arguments : List (List ℕ)) (bytes : List A) (at : ℕ) (b : A) → map view bytes ≡ arguments
    → map view (insert bytes at b) ≡ insert arguments at (view b)
inserted view arguments bytes at b e =
    rw (sym e, take-map view at bytes, drop-map view at bytes) (map-append view (take at bytes) (b ∷ drop at bytes))
