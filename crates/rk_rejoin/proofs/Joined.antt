-- The volumes of a hall, one more at a time.
use Rattle.rk_rejoin.proofs.Words.{◌≡◌, ◌≢◌, ℕ, ◌+◌, ◌<◌, Bool, true, false, List, [], ◌∷◌, ◌++◌, ◌==◌, length, take, drop, get_or, map, refl, sym, ap, subst}
use Rattle.rk_rejoin.proofs.Words.{◌∙◌, Bor, append-nil, length-append, arith, flat_map, filter, eqb-true, eqb-false, take_more, map-append, length-map}
use Rattle.rk_rejoin.proofs.Words.{take-append-drop, drop_more, filter-append, flat_map-cons, flat_map-append, hall_number, HallNo, Recorded, Stored, steps_of}
use Rattle.rk_rejoin.proofs.Words.{of_hall, AreNext}

-- one volume more of those that stand in a list
pub take_volume : (vs : List Stored) (i : ℕ) (v : Stored) → i < length vs → v ≡ get_or vs i v → take (i + 1) vs ≡ take i vs ++ v ∷ []
take_volume vs i v lt at = take_more vs i v lt ∙ ap (λ (x : Stored). take i vs ++ x ∷ []) (sym at)

-- the volume is of this hall
abbrev pub is_of : HallNo → Stored → Bool
is_of h v = hall_number v.head.hall == hall_number h

keeps_one : (h : HallNo) (v : Stored) (b : Bool) → is_of h v ≡ b → b ≡ true → filter (is_of h) (v ∷ []) ≡ v ∷ []
keeps_one h v b is t = rw (is ∙ t) refl

keeps_none : (h : HallNo) (v : Stored) (b : Bool) → is_of h v ≡ b → b ≡ false → filter (is_of h) (v ∷ []) ≡ []
keeps_none h v b is t = rw (is ∙ t) refl

pub of_hall_more : (h : HallNo) (vs : List Stored) (v : Stored) → is_of h v ≡ true → of_hall h (vs ++ v ∷ []) ≡ of_hall h vs ++ v ∷ []
of_hall_more h vs v is = filter-append (is_of h) vs (v ∷ []) ∙ ap (λ (x : List Stored). of_hall h vs ++ x) (keeps_one h v (is_of h v) refl is)

pub of_hall_same : (h : HallNo) (vs : List Stored) (v : Stored) → is_of h v ≡ false → of_hall h (vs ++ v ∷ []) ≡ of_hall h vs
of_hall_same h vs v is = filter-append (is_of h) vs (v ∷ []) ∙ ap (λ (x : List Stored). of_hall h vs ++ x) (keeps_none h v (is_of h v) refl is)
    ∙ append-nil (of_hall h vs)

pub joined_more : (vs : List Stored) (v : Stored) → flat_map steps_of (vs ++ v ∷ []) ≡ flat_map steps_of vs ++ steps_of v
joined_more vs v = flat_map-append steps_of vs (v ∷ []) ∙ ap (λ (x : List Recorded). flat_map steps_of vs ++ x) (append-nil (steps_of v))

-- one volume more that follows
pub next_more : (index before : ℕ) (vs : List Stored) (v : Stored) → AreNext index before vs → v.head.index ≡ index + length vs + 1
    → v.head.before ≡ before + length (flat_map steps_of vs) → AreNext index before (vs ++ v ∷ [])
unfolding AreNext
next_more index before [] v next at num = (omega (arith, at), omega (arith, num), tt)
next_more index before (w ∷ ws) v next at num =
    let len : length (flat_map steps_of (w ∷ ws)) ≡ length (steps_of w) + length (flat_map steps_of ws) =
    ap length (flat_map-cons steps_of w ws) ∙ length-append (steps_of w) (flat_map steps_of ws) in
    (next.0, next.1, next_more (index + 1) (before + length (steps_of w)) ws v next.2 (omega (arith, at)) (omega (arith, num, len)))

-- no volumes follow one another from the first on
pub next_none : AreNext 0 0 []
unfolding AreNext
next_none = tt

-- lists that are joined by what is seen of them
pub same_joined : {X Y A : Type 0} (f : X → List A) (g : Y → List A) (xs : List X) (ys : List Y) → map f xs ≡ map g ys → flat_map f xs ≡ flat_map g ys
same_joined f g [] [] e = refl
same_joined f g [] (y ∷ ys) e = absurd cc
same_joined f g (x ∷ xs) [] e = absurd cc
same_joined f g (x ∷ xs) (y ∷ ys) e =
    let first : f x ≡ g y = cc in
    let more : map f xs ≡ map g ys = cc in
    flat_map-cons f x xs ∙ ap (λ (l : List _). l ++ flat_map f xs) first ∙ ap (λ (l : List _). g y ++ l) (same_joined f g xs ys more)
    ∙ sym (flat_map-cons g y ys)

-- ---- a volume in the midst of others

-- a list, cut before and after one of its elements
pub cut_at : (vs : List Stored) (i : ℕ) (v : Stored) → i < length vs → v ≡ get_or vs i v → vs ≡ take i vs ++ (v ∷ drop (i + 1) vs)
cut_at vs i v lt at =
    sym (take-append-drop i vs) ∙ ap (λ (x : List Stored). take i vs ++ x) (drop_more vs i v lt ∙ ap (λ (x : Stored). x ∷ drop (i + 1) vs) (sym at))

kept : (h : HallNo) (v : Stored) (vs : List Stored) (b : Bool) → is_of h v ≡ b → b ≡ true → of_hall h (v ∷ vs) ≡ v ∷ of_hall h vs
kept h v vs b is t = rw (is ∙ t) refl

-- the same, of the volumes of its hall
pub behind : (h : HallNo) (vs : List Stored) (i : ℕ) (v : Stored) → i < length vs → v ≡ get_or vs i v → is_of h v ≡ true
    → of_hall h vs ≡ of_hall h (take i vs) ++ (v ∷ of_hall h (drop (i + 1) vs))
behind h vs i v lt at is =
    ap (of_hall h) (cut_at vs i v lt at) ∙ filter-append (is_of h) (take i vs) (v ∷ drop (i + 1) vs)
    ∙ ap (λ (x : List Stored). of_hall h (take i vs) ++ x) (kept h v (drop (i + 1) vs) (is_of h v) refl is)

-- where a volume stands among those that follow one another
pub place_of : (index before : ℕ) (first : List Stored) (v : Stored) (more : List Stored) → AreNext index before (first ++ (v ∷ more))
    → (v.head.index ≡ index + length first + 1) × (v.head.before ≡ before + length (flat_map steps_of first))
unfolding AreNext
place_of index before [] v more next = (omega (arith, next.0), omega (arith, next.1))
place_of index before (w ∷ ws) v more next =
    let rest = place_of (index + 1) (before + length (steps_of w)) ws v more next.2 in
    let len : length (flat_map steps_of (w ∷ ws)) ≡ length (steps_of w) + length (flat_map steps_of ws) =
    ap length (flat_map-cons steps_of w ws) ∙ length-append (steps_of w) (flat_map steps_of ws) in
    (omega (arith, rest.0), omega (arith, rest.1, len))

-- ---- one volume more

-- of those that were looked at, the volumes of the hall are one more
pub one_more : (h : HallNo) (vs : List Stored) (i : ℕ) (v : Stored) → i < length vs → v ≡ get_or vs i v → is_of h v ≡ true
    → of_hall h (take (i + 1) vs) ≡ of_hall h (take i vs) ++ v ∷ []
one_more h vs i v lt at is = ap (of_hall h) (take_volume vs i v lt at) ∙ of_hall_more h (take i vs) v is

-- they are those that they were
pub none_more : (h : HallNo) (vs : List Stored) (i : ℕ) (v : Stored) → i < length vs → v ≡ get_or vs i v → is_of h v ≡ false
    → of_hall h (take (i + 1) vs) ≡ of_hall h (take i vs)
none_more h vs i v lt at is = ap (of_hall h) (take_volume vs i v lt at) ∙ of_hall_same h (take i vs) v is

pub steps_more : (xs ys : List Stored) (v : Stored) (ls : List (List Recorded)) → ys ≡ xs ++ v ∷ [] → ls ≡ map steps_of xs
    → ls ++ steps_of v ∷ [] ≡ map steps_of ys
steps_more xs ys v ls more is =
    ap (λ (l : List (List Recorded)). l ++ steps_of v ∷ []) is ∙ sym (map-append steps_of xs (v ∷ [])) ∙ ap (map steps_of) (sym more)

-- with one volume more, the steps are as many more as it has
pub count_more : (xs ys : List Stored) (v : Stored) (n : ℕ) → ys ≡ xs ++ v ∷ [] → n ≡ length (flat_map steps_of xs)
    → n + length (steps_of v) ≡ length (flat_map steps_of ys)
count_more xs ys v n more is =
    ap (λ (k : ℕ). k + length (steps_of v)) is ∙ sym (length-append (flat_map steps_of xs) (steps_of v))
    ∙ ap length (sym (joined_more xs v) ∙ ap (flat_map steps_of) (sym more))

-- a volume with the next index, and as many steps before it as there are, goes on
pub next_on : (xs ys : List Stored) (v : Stored) (n before : ℕ) → ys ≡ xs ++ v ∷ [] → AreNext 0 0 xs → n ≡ length xs → before ≡ length (flat_map steps_of xs)
    → v.head.index ≡ n + 1 → v.head.before ≡ before → AreNext 0 0 ys
next_on xs ys v n before more next len is at num =
    subst (AreNext 0 0) (sym more) (next_more 0 0 xs v next (omega (arith, len, at)) (omega (arith, is, num)))

-- what is seen of a borrowed list of steps
abbrev pub now_of : Bor (List Recorded) → List Recorded
now_of s = s.now

-- one list of steps more
pub pushed : (olds news : List (Bor (List Recorded))) (x : Bor (List Recorded)) (xs ys : List Stored) (v : Stored) → news ≡ olds ++ x ∷ []
    → x.now ≡ steps_of v → ys ≡ xs ++ v ∷ [] → map now_of olds ≡ map steps_of xs → map now_of news ≡ map steps_of ys
pushed olds news x xs ys v is at more old =
    ap (map now_of) is ∙ map-append now_of olds (x ∷ []) ∙ ap (λ (y : List Recorded). map now_of olds ++ y ∷ []) at
    ∙ steps_more xs ys v (map now_of olds) more old

-- as many lists of steps as volumes
pub as_many : (ls : List (Bor (List Recorded))) (vs : List Stored) → map now_of ls ≡ map steps_of vs → length ls ≡ length vs
as_many ls vs e = sym (length-map ls now_of) ∙ ap length e ∙ length-map vs steps_of

same_number : (x y : ℕ) (b : Bool) → (x == y) ≡ b → x ≡ y → b ≡ true
same_number x y true e is = refl
same_number x y false e is = absurd (eqb-false x y e is)

other_number : (x y : ℕ) (b : Bool) → (x == y) ≡ b → x ≢ y → b ≡ false
other_number x y true e is = absurd (is (eqb-true x y e))
other_number x y false e is = refl

-- whether a volume is of the hall, by the numbers of both
pub is_here : (h : HallNo) (v : Stored) (a b : ℕ) → a ≡ hall_number v.head.hall → b ≡ hall_number h → a ≡ b → is_of h v ≡ true
is_here h v a b e f is = same_number (hall_number v.head.hall) (hall_number h) (is_of h v) refl (sym e ∙ is ∙ f)

-- volumes whose halls have other numbers are not of this hall
pub is_elsewhere : (h : HallNo) (v : Stored) (a b : ℕ) → a ≡ hall_number v.head.hall → b ≡ hall_number h → a ≢ b → is_of h v ≡ false
is_elsewhere h v a b e f other = other_number (hall_number v.head.hall) (hall_number h) (is_of h v) refl (λ same. other (e ∙ same ∙ sym f))

-- the steps of the lists, joined, are those of the volumes
pub flat_steps : (seen ls : List (Bor (List Recorded))) (vs : List Stored) → seen ≡ ls → map now_of ls ≡ map steps_of vs
    → flat_map now_of seen ≡ flat_map steps_of vs
flat_steps seen ls vs is e = ap (flat_map now_of) is ∙ same_joined now_of steps_of ls vs e
