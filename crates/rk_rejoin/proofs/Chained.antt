-- The volumes of a hall that are tied to one another, one more at a time.
use Rattle.rk_rejoin.proofs.Words.{◌≡◌, ℕ, ◌+◌, ◌<◌, Bool, true, List, [], ◌∷◌, ◌++◌, length, take, drop, get_or, Option, Some, refl, sym, ap, subst, ◌∙◌, inl}
use Rattle.rk_rejoin.proofs.Words.{inr, ◌⊎◌, HallNo, Stored, Verdict, Total, no_sum, link_of, last_link, is_closed, IsTied, AreChained, of_hall, part_of}
use Rattle.rk_rejoin.proofs.Words.{IsUntied, IsUnchained, IsOpenOf, IsOpenBeside}
use Rattle.rk_record.specs.declared.hall_no.HallNo.TheVariants as hall
use Rattle.rk_rejoin.proofs.Joined.{is_of, behind, one_more}

-- ---- one volume more

last_more : (link : Option (List ℕ)) (vs : List Stored) (v : Stored) → last_link link (vs ++ v ∷ []) ≡ link_of v
unfolding last_link
last_more link [] v = refl
last_more link (w ∷ ws) v = last_more (link_of w) ws v

chained_more : (link : Option (List ℕ)) (vs : List Stored) (v : Stored) → AreChained link vs → IsTied (last_link link vs) v → AreChained link (vs ++ v ∷ [])
unfolding AreChained last_link
chained_more link [] v chained tied = (tied, tt)
chained_more link (w ∷ ws) v chained tied = (chained.0, chained_more (link_of w) ws v chained.1 tied)

-- with no volume yet, the sum that the first one has to name is that of none
pub first_link : last_link (Some no_sum) [] ≡ Some no_sum
unfolding last_link
first_link = refl

-- no volumes are a chain
pub none_chained : AreChained (Some no_sum) []
unfolding AreChained
none_chained = tt

module _ (h : HallNo) (vs : List Stored) (i : ℕ) (v : Stored) (lt : i < length vs) (at : v ≡ get_or vs i v) where
  pub tied_more : is_of h v ≡ true → AreChained (Some no_sum) (of_hall h (take i vs)) → IsTied (last_link (Some no_sum) (of_hall h (take i vs))) v
      → AreChained (Some no_sum) (of_hall h (take (i + 1) vs))
  tied_more is chained tied =
      subst (AreChained (Some no_sum)) (sym (one_more h vs i v lt at is)) (chained_more (Some no_sum) (of_hall h (take i vs)) v chained tied)

  pub link_more : is_of h v ≡ true → link_of v ≡ last_link (Some no_sum) (of_hall h (take (i + 1) vs))
  link_more is = sym (ap (last_link (Some no_sum)) (one_more h vs i v lt at is) ∙ last_more (Some no_sum) (of_hall h (take i vs)) v)

  -- one that is not tied to those before it
  pub unchained : (f : Verdict) → is_of h v ≡ true → AreChained (Some no_sum) (of_hall h (take i vs))
      → IsUntied (last_link (Some no_sum) (of_hall h (take i vs))) v f → IsUnchained h vs f
  unchained f is chained untied = (of_hall h (take i vs), v, (of_hall h (drop (i + 1) vs), behind h vs i v lt at is), chained, untied)

-- ---- halls whose records are closed

pub beside : (closed : HallNo → Bool) (a b : HallNo) (f : Verdict) → IsOpenOf (a, closed a) (b, closed b) f ⊎ IsOpenOf (b, closed b) (a, closed a) f
    → IsOpenBeside closed f
beside closed a b f (inl left) = (a, b, left)
beside closed a b f (inr left) = (b, a, left)

closed_of : (vs : List Stored) (t : Total) → t.zero.closed ≡ is_closed (of_hall hall.Zero vs) → t.one.closed ≡ is_closed (of_hall hall.One vs)
    → t.two.closed ≡ is_closed (of_hall hall.Two vs) → t.three.closed ≡ is_closed (of_hall hall.Three vs)
    → (h : HallNo) → (part_of t h).closed ≡ is_closed (of_hall h vs)
closed_of vs t zero one two three hall.Zero = zero
closed_of vs t zero one two three hall.One = one
closed_of vs t zero one two three hall.Two = two
closed_of vs t zero one two three hall.Three = three

-- the same of what each hall's part says
pub beside_of : (vs : List Stored) (t : Total) (f : Verdict) → t.zero.closed ≡ is_closed (of_hall hall.Zero vs)
    → t.one.closed ≡ is_closed (of_hall hall.One vs) → t.two.closed ≡ is_closed (of_hall hall.Two vs) → t.three.closed ≡ is_closed (of_hall hall.Three vs)
    → IsOpenBeside (λ h. (part_of t h).closed) f → IsOpenBeside (λ h. is_closed (of_hall h vs)) f
beside_of vs t f zero one two three left =
    let same = closed_of vs t zero one two three in
    (left.0, left.1, (left.2.0, sym (same left.0) ∙ left.2.1, sym (same left.1) ∙ left.2.2))
