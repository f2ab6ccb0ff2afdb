-- The first name that passes a test, and what is found after it is changed.
use Rattle.rk_keys.proofs.Words.{◌≡◌, refl, sym, ap, ◌∙◌, ℕ, zero, suc, ◌<◌, arith, Bool, true, false, cond, List, [], ◌∷◌, length, take, get_or, set, none-some}
use Rattle.rk_keys.proofs.Words.{Some, None, Option, option_map, unwrap_or, list_find, both_ways, first_changed, is_empty, Named}
use Rattle.rk_keys.proofs.Words.{not, filter, nat_le, nat_tests, ◌≤◌, is_of, count_of, one_fewer, with_one_fewer}

module _ (p : Named → Bool) where
  -- ---- where it stands

  -- the first that passes is found
  pub found_first : (names : List Named) (i : ℕ) (d : Named) → i < length names → list_find p (take i names) ≡ None → p (get_or names i d) ≡ true
      → list_find p names ≡ Some (get_or names i d)
  found_first [] i d within none is = absurd (omega (arith, within))
  found_first (n ∷ ns) zero d within none is = ap (λ b. cond b (Some n) (list_find p ns)) is
  found_first (n ∷ ns) (suc i) d within none is =
      elim (p n) as (λ b. cond b (Some n) (list_find p (take i ns)) ≡ None → cond b (Some n) (list_find p ns) ≡ Some (get_or ns i d)) [
        | true ↦ λ e. absurd (none-some n (sym e))
        | false ↦ λ e. found_first ns i d (omega (arith, within)) e is
      ] none

  -- writing at its place changes it
  pub changed_first : (f : Named → Named) (names : List Named) (i : ℕ) (d : Named) → i < length names → list_find p (take i names) ≡ None
      → p (get_or names i d) ≡ true → set names i (f (get_or names i d)) ≡ first_changed p f names
  changed_first f [] i d within none is = absurd (omega (arith, within))
  changed_first f (n ∷ ns) zero d within none is = sym (ap (λ b. cond b (f n ∷ ns) (n ∷ first_changed p f ns)) is)
  changed_first f (n ∷ ns) (suc i) d within none is =
      elim (p n) as (λ b. cond b (Some n) (list_find p (take i ns)) ≡ None → n ∷ set ns i (f (get_or ns i d)) ≡ cond b (f n ∷ ns) (n ∷ first_changed p f ns)) [
        | true ↦ λ e. absurd (none-some n (sym e))
        | false ↦ λ e. ap (λ ms. n ∷ ms) (changed_first f ns i d (omega (arith, within)) e is)
      ] none

  -- one more that does not pass
  pub none_further : (names : List Named) (i : ℕ) (d : Named) → i < length names → list_find p (take i names) ≡ None → p (get_or names i d) ≡ false
      → list_find p (take (suc i) names) ≡ None
  none_further [] i d within none is = absurd (omega (arith, within))
  none_further (n ∷ ns) zero d within none is = ap (λ b. cond b (Some n) None) is
  none_further (n ∷ ns) (suc i) d within none is =
      elim (p n) as (λ b. cond b (Some n) (list_find p (take i ns)) ≡ None → cond b (Some n) (list_find p (take (suc i) ns)) ≡ None) [
        | true ↦ λ e. absurd (none-some n (sym e))
        | false ↦ λ e. none_further ns i d (omega (arith, within)) e is
      ] none

  -- ---- what is found after a change

  -- a change that leaves what the test tells
  pub find_changed : (f : Named → Named) → ((n : Named) → p (f n) ≡ p n) → (names : List Named)
      → list_find p (first_changed p f names) ≡ option_map f (list_find p names)
  find_changed f keeps [] = refl
  find_changed f keeps (n ∷ ns) =
      elim (p n) as (λ b. p n ≡ b → list_find p (cond b (f n ∷ ns) (n ∷ first_changed p f ns)) ≡ option_map f (cond b (Some n) (list_find p ns))) [
        | true ↦ λ t. ap (λ b. cond b (Some (f n)) (list_find p ns)) (keeps n ∙ t)
        | false ↦ λ t. ap (λ b. cond b (Some n) (list_find p (first_changed p f ns))) t ∙ find_changed f keeps ns
      ] refl

  -- what no changed name passes finds the same
  pub find_others : (q : Named → Bool) (f : Named → Named) → ((n : Named) → p n ≡ true → (q n ≡ false) × (q (f n) ≡ false)) → (names : List Named)
      → list_find q (first_changed p f names) ≡ list_find q names
  find_others q f apart [] = refl
  find_others q f apart (n ∷ ns) =
      elim (p n) as (λ b. p n ≡ b → list_find q (cond b (f n ∷ ns) (n ∷ first_changed p f ns)) ≡ cond (q n) (Some n) (list_find q ns)) [
        | true ↦ λ t.
            ap (λ b. cond b (Some (f n)) (list_find q ns)) (apart n t).1 ∙ sym (ap (λ b. cond b (Some n) (list_find q ns)) (apart n t).0)
        | false ↦ λ _. ap (cond (q n) (Some n)) (find_others q f apart ns)
      ] refl

  -- where none passes, nothing is changed
  pub not_changed : (f : Named → Named) (names : List Named) → list_find p names ≡ None → first_changed p f names ≡ names
  not_changed f [] none = refl
  not_changed f (n ∷ ns) none =
      elim (p n) as (λ b. cond b (Some n) (list_find p ns) ≡ None → cond b (f n ∷ ns) (n ∷ first_changed p f ns) ≡ n ∷ ns) [
        | true ↦ λ e. absurd (none-some n (sym e))
        | false ↦ λ e. ap (λ ms. n ∷ ms) (not_changed f ns e)
      ] none

-- ---- no name is left

no_name : (names : List Named) → is_empty names ≡ true → names ≡ []
no_name [] e = refl
no_name (n ∷ ns) e = absurd (both_ways _ refl e)

-- where a change of a bucket that is there leaves no name
pub none_left : (f : List Named → List Named) (o : Option (List Named)) → unwrap_or (option_map (λ b. is_empty (f b)) o) false ≡ true
    → f (unwrap_or o []) ≡ []
none_left f None e = absurd (both_ways _ refl e)
none_left f (Some b) e = no_name (f b) e

-- ---- one key fewer

-- a name with more than one key stays
pub many_left : (typ description : List ℕ) (names : List Named) (n : Named) → list_find (is_of typ description) names ≡ Some n → 1 < n.keys
    → first_changed (is_of typ description) one_fewer names ≡ with_one_fewer typ description names
many_left typ description names n is many =
    sym (ap (λ b. cond b (filter (λ m. not (is_of typ description m)) names) (first_changed (is_of typ description) one_fewer names))
    (ap (λ o. nat_le (count_of o) 1) is ∙ above n.keys many))
  where
    above : (k : ℕ) → 1 < k → nat_le k 1 ≡ false
    above k many = grind (arith, nat_tests, many)

-- a name with one key goes, as one that is not there
pub last_goes : (typ description : List ℕ) (names : List Named) (o : Option Named) → list_find (is_of typ description) names ≡ o → count_of o ≤ 1
    → filter (λ n. not (is_of typ description n)) names ≡ with_one_fewer typ description names
last_goes typ description names o is few =
    sym (ap (λ b. cond b (filter (λ m. not (is_of typ description m)) names) (first_changed (is_of typ description) one_fewer names))
    (ap (λ o. nat_le (count_of o) 1) is ∙ within (count_of o) few))
  where
    within : (k : ℕ) → k ≤ 1 → nat_le k 1 ≡ true
    within k few = grind (arith, nat_tests, few)
