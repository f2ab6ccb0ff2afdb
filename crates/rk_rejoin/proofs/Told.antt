-- What is reported of volumes that are refused.
use Rattle.rk_rejoin.proofs.Words.{◌≡◌, ℕ, ◌+◌, ◌-◌, ◌<◌, ◌≤◌, ◌^◌, true, false, List, [], length, take, drop, get_or, refl, ap, subst, inl, inr, arith}
use Rattle.rk_rejoin.proofs.Words.{flat_map, take_all, slice_get_within, World, empty_world, ContinuesTo, hall_number, HallNo, Recorded, past_of, IsBrokenAt}
use Rattle.rk_rejoin.proofs.Words.{Breaks, counted, Rejoin, Limits, first_serial, Stored, Verdict, Broken, steps_of, of_hall, joined, beginning, negative_of}
use Rattle.rk_rejoin.proofs.Words.{AreNext, IsNoNext, CannotJoin, NamesStep, IsBroken, IsHallRefused, IsRefusedFor}
use Rattle.rk_record.specs.declared.rejoin_fault.Rejoin.TheVariants as rejoin
use Rattle.rk_rejoin.proofs.Joined.{is_of, behind, place_of, one_more, none_more, count_more}

-- a volume that does not follow on those before it
pub no_next : (h : HallNo) (vs : List Stored) (i : ℕ) (v : Stored) (n before : ℕ) (f : Verdict) → i < length vs → v ≡ get_or vs i v → is_of h v ≡ true
    → AreNext 0 0 (of_hall h (take i vs)) → n ≡ length (of_hall h (take i vs)) → before ≡ length (flat_map steps_of (of_hall h (take i vs)))
    → IsNoNext v.head n before f → CannotJoin h vs f
no_next h vs i v n before f lt at is next len count wrong =
    let first = of_hall h (take i vs) in
    inr (
      first,
      v,
      (of_hall h (drop (i + 1) vs), behind h vs i v lt at is),
      next,
      subst (λ (k : ℕ). IsNoNext v.head k (length (flat_map steps_of first)) f) len (subst (λ (k : ℕ). IsNoNext v.head n k f) count wrong),
    )

-- if a volume of the hall stands, whose volumes follow one another
pub stands_at : (h : HallNo) (vs : List Stored) (i : ℕ) (v : Stored) → i < length vs → v ≡ get_or vs i v → is_of h v ≡ true → AreNext 0 0 (of_hall h vs)
    → v.head.before ≡ length (flat_map steps_of (of_hall h (take i vs)))
stands_at h vs i v lt at is next =
    let place = place_of 0 0 (of_hall h (take i vs)) v (of_hall h (drop (i + 1) vs)) (subst (AreNext 0 0) (behind h vs i v lt at is) next) in
    omega (arith, place.1)

-- the step is one of this volume
pub names_step : (h : HallNo) (vs : List Stored) (i : ℕ) (v : Stored) (number step : ℕ) → i < length vs → v ≡ get_or vs i v → is_of h v ≡ true
    → AreNext 0 0 (of_hall h vs) → length (flat_map steps_of (of_hall h (take i vs))) < number → step ≡ number - v.head.before → step ≤ length (steps_of v)
    → NamesStep h vs number (Broken (hall_number h) v.head.index step)
names_step h vs i v number step lt at is next past eq le =
    let place = stands_at h vs i v lt at is next in (
      of_hall h (take i vs),
      v,
      (of_hall h (drop (i + 1) vs), behind h vs i v lt at is),
      refl,
      refl,
      omega (arith, place, past, eq),
      le,
      omega (arith, place, past, eq),
    )

-- it is one of a later volume
pub not_yet : (h : HallNo) (vs : List Stored) (i : ℕ) (v : Stored) (number step : ℕ) → i < length vs → v ≡ get_or vs i v → is_of h v ≡ true
    → AreNext 0 0 (of_hall h vs) → length (flat_map steps_of (of_hall h (take i vs))) < number → step ≡ number - v.head.before → length (steps_of v) < step
    → length (flat_map steps_of (of_hall h (take (i + 1) vs))) < number
not_yet h vs i v number step lt at is next past eq more =
    let place = stands_at h vs i v lt at is next in
    let count = count_more (of_hall h (take i vs)) (of_hall h (take (i + 1) vs)) v _ (one_more h vs i v lt at is) refl in
    omega (arith, place, past, eq, more, count)

-- a volume of another hall has it not
pub of_another : (h : HallNo) (vs : List Stored) (i : ℕ) (v : Stored) (number : ℕ) → i < length vs → v ≡ get_or vs i v → is_of h v ≡ false
    → length (flat_map steps_of (of_hall h (take i vs))) < number → length (flat_map steps_of (of_hall h (take (i + 1) vs))) < number
of_another h vs i v number lt at is past = rw (none_more h vs i v lt at is) past

-- one of them has it
pub one_has_it : (h : HallNo) (vs : List Stored) (i number : ℕ) → length vs ≤ i → length (flat_map steps_of (of_hall h (take i vs))) < number
    → number ≤ length (joined h vs) → ⊥
one_has_it h vs i number all past within =
    let same : length (flat_map steps_of (of_hall h (take i vs))) ≡ length (joined h vs) = ap (λ (l : List Stored). length (joined h l)) (take_all i vs all) in
    omega (arith, same, past, within)

-- the number of a step that is broken
pub numbered : (from : World) (ss : List Recorded) (number place : ℕ) → number ≡ counted (0 + (place + 1)) → length ss < 2 ^ 64 → IsBrokenAt from ss place
    → (number ≡ place + 1) × (number ≤ length ss)
numbered from ss number place is fits broken =
    let lt = slice_get_within ss place broken.found broken.stands in
    let same : number ≡ place + 1 = omega (arith, is, fits, lt) in
    (same, omega (arith, same, lt))

-- a hall whose steps are no run
pub hall_broken : (negative : ℕ) (h : HallNo) (vs : List Stored) (number place : ℕ) (f : Verdict) → AreNext 0 0 (of_hall h vs) → number ≡ place + 1
    → IsBrokenAt (empty_world negative (first_serial h) 4) (joined h vs) place → NamesStep h vs number f → IsBroken negative h vs f
hall_broken negative h vs number place f next is broken names = (next, (place, broken, subst (λ (k : ℕ). NamesStep h vs k f) is names))

-- what is wrong with one hall is wrong with all
pub hall_refused : (vs : List Stored) (h : HallNo) (negative : ℕ) (f : Verdict) → negative ≡ negative_of vs → IsHallRefused negative h vs f
    → IsRefusedFor vs f
hall_refused vs h negative f is wrong = inr (inr (inl (h, subst (λ (n : ℕ). IsHallRefused n h vs f) is wrong)))

-- ---- what a rejoin says, of the volumes

abbrev limits : ℕ → HallNo → Limits
limits negative h = record { negative = negative; first = first_serial h; stride = 4; seed = 0 }

-- a run of the steps that were joined
pub run_of : (l : Limits) (negative : ℕ) (h : HallNo) (flat js : List Recorded) (w : World) → l ≡ limits negative h → flat ≡ js
    → ContinuesTo (record { negative = l.negative; first = l.first; stride = l.stride }) (past_of flat []) w
    → ContinuesTo (beginning negative h) (past_of js []) w
run_of l negative h flat js w is same run =
    subst (λ (x : List Recorded). ContinuesTo (beginning negative h) (past_of x []) w) same
    (subst (λ (m : Limits). ContinuesTo (record { negative = m.negative; first = m.first; stride = m.stride }) (past_of flat []) w) is run)

-- a step of them that is broken
pub broken_of : (l : Limits) (negative : ℕ) (h : HallNo) (flat js : List Recorded) (place : ℕ) → l ≡ limits negative h → flat ≡ js
    → IsBrokenAt (empty_world l.negative l.first l.stride) flat place → IsBrokenAt (empty_world negative (first_serial h) 4) js place
broken_of l negative h flat js place is same broken =
    subst (λ (x : List Recorded). IsBrokenAt (empty_world negative (first_serial h) 4) x place) same
    (subst (λ (m : Limits). IsBrokenAt (empty_world m.negative m.first m.stride) flat place) is broken)

-- which one it is
pub breaks_at : (from : World) (ss : List Recorded) (f : Rejoin) (number : ℕ) → f ≡ rejoin.Broken number → Breaks from 0 ss f
    → (place : ℕ) × (number ≡ counted (0 + (place + 1))) × IsBrokenAt from ss place
breaks_at from ss f number is breaks = subst (λ (g : Rejoin). Breaks from 0 ss g) is breaks
