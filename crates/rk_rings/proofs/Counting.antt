-- Counts that are not 0, among those that are held.
use Rattle.rk_rings.proofs.Words.{◌∙◌, ap, sym, ◌≡◌, subst, arith, ℕ, cond, ◌≤◌, false, refl, true, Bool, ◌-◌, ◌<◌, ltb, zero, suc}
use Rattle.rk_rings.proofs.Words.{lt-ltb, none-some, same_Some, nat_cmp_total, get, len, empty, FinMap, get-empty, same_map, nat_cmp-IsAntisymmetric}
use Rattle.rk_rings.proofs.Words.{option_map_or, nat_cmp, None, Some, nat_eq, Option, unwrap_or, get_kept_where, none_kept, count_at, ArePositive, places}
use Rattle.rk_rings.proofs.Words.{Stored, counting, seen_counts, changed_at, get_changed_at, option_map}
use Rattle.rk_rings.proofs.Counts.{no_more}
use Rattle.rk_rings.proofs.Links.{kept_within}

same_count : (o : Option ℕ) → unwrap_or (cond (option_map_or (λ n. ltb 0 n) o false) o None) 0 ≡ unwrap_or o 0
same_count None = refl
same_count (Some zero) = refl
same_count (Some (suc n)) = ap (λ b. unwrap_or (cond b (Some (suc n)) None) 0) (lt-ltb 0 (suc n) (omega arith))

-- a count of 0 is as good as none
pub count_counting : (m : FinMap nat_cmp ℕ) (k : ℕ) → count_at (counting m) k ≡ count_at m k
count_counting m k = ap (λ o. unwrap_or o 0) (get_kept_where (λ _ n. ltb 0 n) m k) ∙ same_count (get m k)

-- no count among those that are not 0 is 0
pub positive_counting : (m : FinMap nat_cmp ℕ) → ArePositive (counting m)
positive_counting m k n is = by_count (get m k) (sym (get_kept_where (λ _ n. ltb 0 n) m k) ∙ is)
  where
    by_count : (o : Option ℕ) → cond (option_map_or (λ n. ltb 0 n) o false) o None ≡ Some n → 0 < n
    by_count None e = absurd (none-some n e)
    by_count (Some zero) e = absurd (none-some n e)
    by_count (Some (suc x)) e =
        let same : suc x ≡ n = same_Some (suc x) n (sym (ap (λ b. cond b (Some (suc x)) None) (lt-ltb 0 (suc x) (omega arith))) ∙ e) in
        omega (arith, same)

-- the empty map has no count that is not 0
pub counting_empty : (m : FinMap nat_cmp ℕ) → m ≡ empty → counting m ≡ empty
counting_empty m is = same_map nat_cmp_total nat_cmp-IsAntisymmetric _ _ (λ q.
    none_kept (λ _ n. ltb 0 n) m q (ap (λ x. get x q) is ∙ get-empty nat_cmp q) ∙ sym (get-empty nat_cmp q))

twice : (t : ℕ → Bool) (o : Option ℕ) → cond (option_map_or t (cond (option_map_or t o false) o None) false) (cond (option_map_or t o false) o None) None
    ≡ cond (option_map_or t o false) o None
twice t None = refl
twice t (Some x) = elim (t x) as (λ b. t x ≡ b → cond (option_map_or t (cond b (Some x) None) false) (cond b (Some x) None) None ≡ cond b (Some x) None) [
  | true ↦ λ e. ap (λ b. cond b (Some x) None) e
  | false ↦ λ _. refl
] refl

-- dropping counts of 0 twice is as dropping them once
pub counting_again : (m : FinMap nat_cmp ℕ) → counting (counting m) ≡ counting m
counting_again m = same_map nat_cmp_total nat_cmp-IsAntisymmetric _ _ (λ q.
    get_kept_where (λ _ n. ltb 0 n) (counting m) q
    ∙ ap (λ (o : Option ℕ). cond (option_map_or (λ n. ltb 0 n) o false) o None) (get_kept_where (λ _ n. ltb 0 n) m q)
    ∙ twice (λ n. ltb 0 n) (get m q) ∙ sym (get_kept_where (λ _ n. ltb 0 n) m q))

pub no_more_count : (m : FinMap nat_cmp ℕ) → len (counting m) ≤ len m
no_more_count m = no_more (counting m) m (kept_within (λ _ n. ltb 0 n) m)

pub places_seen : (m : FinMap nat_cmp ℕ) (p : ℕ) → len m ≤ p → places (seen_counts m p) ≡ p
places_seen m p few = omega (arith, no_more_count m, few)

-- maps of counts that fit the places have the same places
pub same_places : (m n : FinMap nat_cmp ℕ) (p : ℕ) → len m ≤ p → len n ≤ p → places (seen_counts n p) ≡ places (seen_counts m p)
same_places m n p few too = places_seen n p too ∙ sym (places_seen m p few)

-- a change of one count, as a caller sees it
pub each_seen : (m n : FinMap nat_cmp ℕ) (f : ℕ → ℕ) (k q : ℕ) → count_at n q ≡ cond (nat_eq k q) (f (count_at m q)) (count_at m q)
    → count_at (counting n) q ≡ cond (nat_eq k q) (f (count_at (counting m) q)) (count_at (counting m) q)
each_seen m n f k q h = count_counting n q ∙ h ∙ ap (λ x. cond (nat_eq k q) (f x) x) (sym (count_counting m q))

-- entries of 0 that were taken out change no count
pub same_counts : (m n : FinMap nat_cmp ℕ) (q : ℕ) → counting n ≡ counting m → count_at n q ≡ count_at m q
same_counts m n q is = sym (count_counting n q) ∙ ap (λ x. count_at x q) is ∙ count_counting m q

-- one fewer where a number counts, and nothing where it does not
pub count_less : (m : FinMap nat_cmp ℕ) (k q : ℕ) → count_at (changed_at k (λ n. n - 1) m) q ≡ cond (nat_eq k q) (count_at m q - 1) (count_at m q)
count_less m k q = ap (λ o. unwrap_or o 0) (get_changed_at k (λ n. n - 1) m q) ∙ by_test (nat_eq k q) (get m q)
  where
    by_test : (b : Bool) (o : Option ℕ) → unwrap_or (cond b (option_map (λ n. n - 1) o) o) 0 ≡ cond b (unwrap_or o 0 - 1) (unwrap_or o 0)
    by_test true None = omega arith
    by_test true (Some n) = refl
    by_test false o = refl

-- a key that counts anew finds fewer entries than places
pub place_free : (m n : FinMap nat_cmp ℕ) (now : Stored ℕ) (most k : ℕ) → seen_counts m most ≡ now → get m k ≡ None
    → (count_at now.facts k ≡ 0 → 0 < now.room) → (len (counting m) < most → len n < most) → len n < most
place_free m n now most k is none room way =
    let zero_there : count_at now.facts k ≡ 0 =
    ap (λ (s : Stored ℕ). count_at s.facts k) (sym is) ∙ count_counting m k ∙ ap (λ o. unwrap_or o 0) none in
    let left : 0 < (seen_counts m most).room = subst (λ (s : Stored ℕ). 0 < s.room) (sym is) (room zero_there) in
    way (omega (arith, left))
