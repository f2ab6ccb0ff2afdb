-- Serials drawn in rising order: the next is above all that were drawn.
use Rattle.rk_keys.proofs.Words.{◌∙◌, ap, ◌≡◌, refl, sym, ℕ, subst, ◌<◌, false, cond, arith, ◌-◌, ◌≤◌, true, ◌+◌, suc, zero, ◌||◌, ◌^◌, add-one, ◌*◌, ltb, min}
use Rattle.rk_keys.proofs.Words.{or-true, both_ways, eq-eqb, eqb-true, ltb-false, ltb-true, nat_cmp_total, contains, contains-insert, nat_cmp, eq_by_cmp, Some}
use Rattle.rk_keys.proofs.Words.{None, Option, nat_eq, is_some, MatchOption, tie, Says, drawn_in_order, first_of_form, not_below, Drawn, IsNext, with_drawn}
use Rattle.rk_keys.proofs.Words.{HasSerials, IsDrawable, HasFrom}
use Rattle.std.proofs.Math.Nat.{mul-le-mul_left}
use Rattle.rk_names.specs.Numbers.{serial_of}

-- ---- what is among the first n

is_below : (first stride n m : ℕ) → m < n → contains (first_of_form first stride n) (first + stride * m) ≡ true
is_below first stride zero m h = absurd (omega arith)
is_below first stride (suc n) m h =
    contains-insert nat_cmp_total (first_of_form first stride n) (first + stride * n) (first + stride * m)
    ∙ elim (nat_eq n m) as (λ b. nat_eq n m ≡ b →
    (eq_by_cmp nat_cmp (first + stride * m) (first + stride * n) || contains (first_of_form first stride n) (first + stride * m)) ≡ true) [
      | true ↦ λ e. ap (λ b. b || contains (first_of_form first stride n) (first + stride * m)) (tie (first + stride * m) (first + stride * n) ∙
          eq-eqb _ _ (ap (λ x. first + stride * x) (eqb-true n m e)))
      | false ↦ λ e.
          let apart : n ≡ m → ⊥ = λ same. both_ways _ e (eq-eqb n m same) in
          ap (λ b. eq_by_cmp nat_cmp (first + stride * m) (first + stride * n) || b) (is_below first stride n m (omega arith)) ∙ or-true _
    ] refl

-- ---- how many are left

less_by : (s a b : ℕ) → s * a < s * b → a < b
less_by s a b h = elim (ltb a b) as (λ t. ltb a b ≡ t → a < b) [
  | true ↦ λ e. ltb-true a b e
  | false ↦ λ e. absurd (omega (
    arith,
    h,
    mul-le-mul_left s (ltb-false a b e),
  ))
] refl

-- if what may be drawn from low on has an index of at least c, n + 1 of them reach first + stride * (c + n)
upper : (d : Drawn) (n c low : ℕ) → ((i : ℕ) → low ≤ d.first + d.stride * i → contains d.used (d.first + d.stride * i) ≡ false → c ≤ i)
    → HasFrom d low (suc n) → d.first + d.stride * (c + n) < 2 ^ 31
upper d zero c low least h =
    let k : IsDrawable d h.0 = h.2 in
    let le : c ≤ k.index = least k.index (subst (λ j. low ≤ j) k.form h.1) (sym (ap (contains d.used) k.form) ∙ k.unused) in
    omega (arith, mul-le-mul_left d.stride le, k.form, k.small)
upper d (suc n) c low least h =
    let k : IsDrawable d h.0 = h.2 in
    let le : c ≤ k.index = least k.index (subst (λ j. low ≤ j) k.form h.1) (sym (ap (contains d.used) k.form) ∙ k.unused) in
    let rest : d.first + d.stride * (suc c + n) < 2 ^ 31 =
    upper d n (suc c) (h.0 + 1) (λ i above unused. let less : k.index < i = less_by d.stride k.index i (omega (arith, above, k.form)) in
    omega (arith, le, less)) h.3 in
    omega (arith, rest)

-- the next n + 1 serials from index c on
lower : (first stride count n c low : ℕ) → 0 < stride → count ≤ c → low ≤ first + stride * c → first + stride * (c + n) < 2 ^ 31 →
    HasFrom (drawn_in_order first stride count) low (suc n)
lower first stride count zero c low pos later from small =
    (first + stride * c, from, record { index = c; form = refl; small = omega arith; unused = not_below first stride count c pos later }, tt)
lower first stride count (suc n) c low pos later from small =
    let le : c ≤ c + suc n = omega arith in (
      first + stride * c,
      from,
      record { index = c; form = refl; small = omega (arith, mul-le-mul_left stride le); unused = not_below first stride count c pos later },
      lower first stride count n (suc c) (first + stride * c + 1) pos (omega arith) (omega arith) (omega arith),
    )

least_left : (first stride count i : ℕ) → contains (first_of_form first stride count) (first + stride * i) ≡ false → count ≤ i
least_left first stride count i unused =
    elim (ltb i count) as (λ t. ltb i count ≡ t → count ≤ i) [
      | true ↦ λ e. absurd (both_ways _ unused (is_below first stride count i (ltb-true i count e)))
      | false ↦ λ e. ltb-false i count e
    ] refl

-- n + 1 serials are left exactly if the last of them is small enough
reaches : (first stride count n : ℕ) → HasSerials (drawn_in_order first stride count) (suc n) → first + stride * (count + n) < 2 ^ 31
reaches first stride count n h = upper (drawn_in_order first stride count) n count 0 (λ i _ unused. least_left first stride count i unused) h

enough : (first stride count n : ℕ) → 0 < stride → first + stride * (count + n) < 2 ^ 31 → HasSerials (drawn_in_order first stride count) (suc n)
enough first stride count n pos small = lower first stride count n count 0 pos (omega arith) (omega arith) small

-- ---- the next one, by its number

-- a positive number is a serial where it is small enough
serial_of-positive : (n : ℕ) → 1 ≤ n → MatchOption (serial_of n) (2 ^ 31 ≤ n) (λ k. (k ≡ n) × (n < 2 ^ 31))
serial_of-positive n pos =
    elim (nat_eq n 0) as (λ z. nat_eq n 0 ≡ z → MatchOption (cond z None (cond (ltb 2147483647 n) None (Some n))) (2 ^ 31 ≤ n) (λ k. (k ≡ n) × (n < 2 ^ 31))) [
      | true ↦ λ e. absurd (omega (arith, eqb-true n 0 e))
      | false ↦ λ e. elim (ltb 2147483647 n) as (λ b. ltb 2147483647 n ≡ b → MatchOption (cond b None (Some n)) (2 ^ 31 ≤ n) (λ k. (k ≡ n) × (n < 2 ^ 31))) [
        | true ↦ λ e. omega (arith, ltb-true 2147483647 n e)
        | false ↦ λ e. (refl, omega (arith, ltb-false 2147483647 n e))
      ] refl
    ] refl

-- the serial at the count is the next, and if there is none no serial is left
abbrev pub IsNextOrNone : ℕ → ℕ → ℕ → Option ℕ → Type 0
IsNextOrNone first stride count o = MatchOption o (¬ (HasSerials (drawn_in_order first stride count) 1)) (λ k. IsNext (drawn_in_order first stride count) k ×
    (k ≡ first + stride * count) × (count + 1 < 2 ^ 31))

next_by_number : (first stride count : ℕ) (o : Option ℕ) → 1 ≤ first → 1 ≤ stride →
    MatchOption o (2 ^ 31 ≤ first + stride * count) (λ k. (k ≡ first + stride * count) × (first + stride * count < 2 ^ 31))
    → IsNextOrNone first stride count o
next_by_number first stride count None f s h = λ has. omega (arith, reaches first stride count 0 has, h)
next_by_number first stride count (Some k) f s h = (
  record {
    drawable = record {
      index = count;
      form = h.0;
      small = omega (arith, h.0, h.1);
      unused = ap (contains (first_of_form first stride count)) h.0 ∙ not_below first stride count count s (omega arith);
    };
    least = λ j d.
        let later : count ≤ d.index = least_left first stride count d.index (sym (ap (contains (first_of_form first stride count)) d.form) ∙ d.unused) in
        omega (arith, mul-le-mul_left stride later, d.form, h.0);
  },
  h.0,
  omega (arith, mul-le-mul_left count s, h.1, f),
)

-- the number after all that were drawn is the next serial, or there is none
pub next_in_order : (first stride count : ℕ) (o : Option ℕ) → 1 ≤ first → 1 ≤ stride → o ≡ serial_of (first + stride * count) →
    IsNextOrNone first stride count o
next_in_order first stride count o f s e = subst (IsNextOrNone first stride count) (sym e)
    (next_by_number first stride count _ f s (serial_of-positive (first + stride * count) (omega (arith, f))))

left_by_number : (first stride count n i : ℕ) (o : Option ℕ) → 1 ≤ stride → i ≡ min (count + n) (2 ^ 32 - 1) →
    MatchOption o (2 ^ 31 ≤ first + stride * i) (λ k. (k ≡ first + stride * i) × (first + stride * i < 2 ^ 31))
    → Says (is_some o) (HasSerials (drawn_in_order first stride count) (suc n))
left_by_number first stride count n i None s is h = λ has.
    let le : i ≤ count + n = omega (arith, is) in
    omega (arith, reaches first stride count n has, mul-le-mul_left stride le, h)
left_by_number first stride count n i (Some k) s is h =
    let whole : i ≡ count + n = omega (arith, is, h.1, mul-le-mul_left i s) in
    enough first stride count n s (subst (λ j. first + stride * j < 2 ^ 31) whole h.1)

-- the next one is drawn
pub drawn_next : (first stride count k : ℕ) → k ≡ first + stride * count →
    drawn_in_order first stride (count + 1) ≡ with_drawn k (drawn_in_order first stride count)
drawn_next first stride count k e = rw (e, add-one)

-- so many are left exactly if the last of them is a serial
pub left_in_order : (first stride count n i : ℕ) (o : Option ℕ) → 1 ≤ first → 1 ≤ stride → i ≡ min (count + n) (2 ^ 32 - 1) → o ≡ serial_of (first + stride * i)
    → Says (is_some o) (HasSerials (drawn_in_order first stride count) (suc n))
left_in_order first stride count n i o f s is e =
    subst (λ p. Says (is_some p) (HasSerials (drawn_in_order first stride count) (suc n))) (sym e)
    (left_by_number first stride count n i _ s is (serial_of-positive (first + stride * i) (omega (arith, f))))
