-- The keys that vanish, one by one.
use Rattle.rk_core.proofs.Words.{◌≡◌, ℕ, Bool, true, false, cond, not, ◌&&◌, ◌||◌, refl, sym, ap, ◌∙◌, Option, Some, None, nat_eq, option_map, unwrap_or}
use Rattle.rk_core.proofs.Words.{option_map_or, nat_cmp, nat_cmp_total, eqb-true, both_ways, nat_eq_equiv, Key, is_building, has_link, World, tidied, stays}
use Rattle.rk_core.proofs.Words.{StayBut, vanished_at, get_kept_where, get_removed}
use Rattle.std.specs.FinMap as map

-- two worlds that have the same at each serial have the same keys
pub same_keys : (m n : map.FinMap nat_cmp Key) → ((q : ℕ) → map.get m q ≡ map.get n q) → m ≡ n
same_keys m n h = map.same_map nat_cmp_total map.nat_cmp-IsAntisymmetric m n h

-- ---- what is found after

tidied_at : (a : Bool) (o : Option Key) → cond (option_map_or (λ key. a || is_building key) o false) o None
    ≡ cond (a || unwrap_or (option_map is_building o) false) o None
tidied_at true None = refl
tidied_at false None = refl
tidied_at a (Some key) = refl

-- a tidied world has a key exactly if it stays
pub get_tidied : (w : World) (q : ℕ) → map.get (tidied w).keys q ≡ cond (stays w q) (map.get w.keys q) None
get_tidied w q = get_kept_where (λ k one. has_link w.rings k || is_building one) w.keys q ∙ tidied_at (has_link w.rings q) (map.get w.keys q)

pub get_settled : (k : ℕ) (w : World) (q : ℕ) → map.get (vanished_at k w).keys q ≡ cond (nat_eq k q && not (stays w k)) None (map.get w.keys q)
get_settled k w q =
    elim (stays w k) as (λ b. map.get (cond b w.keys (map.remove w.keys k)) q ≡ cond (nat_eq k q && not b) None (map.get w.keys q)) [
      | true ↦ ap (λ b. cond b None (map.get w.keys q)) (sym (never (nat_eq k q)))
      | false ↦ get_removed w.keys k q ∙ ap (λ b. cond b None (map.get w.keys q)) (sym (always (nat_eq k q)))
    ]
  where
    never : (b : Bool) → (b && not true) ≡ false
    never true = refl
    never false = refl

    always : (b : Bool) → (b && not false) ≡ b
    always true = refl
    always false = refl

-- ---- none vanishes, or one

found_or_none : (b : Bool) (o : Option Key) → ((key : Key) → o ≡ Some key → b ≡ true) → cond b o None ≡ o
found_or_none true o h = refl
found_or_none false None h = refl
found_or_none false (Some key) h = absurd (both_ways false refl (h key refl))

-- where every key stays, nothing vanishes
pub all_stay : (w : World) → StayBut (λ j. false) w → tidied w ≡ w
all_stay w h =
    λ i. record w { keys = same_keys (tidied w).keys w.keys (λ q. get_tidied w q ∙ found_or_none (stays w q) (map.get w.keys q) (λ key is. h q key is refl)) i }

-- where every key but one stays, that one is taken away, or stays
pub one_settles : (w : World) (k : ℕ) → StayBut (λ j. nat_eq j k) w → vanished_at k w ≡ tidied w
one_settles w k h =
    λ i. record w { keys = same_keys (vanished_at k w).keys (tidied w).keys (λ q. get_settled k w q ∙ by_key q (nat_eq k q) refl ∙ sym (get_tidied w q)) i }
  where
    itself : (b : Bool) (o : Option Key) → cond (not b) None o ≡ cond b o None
    itself true o = refl
    itself false o = refl

    by_key : (q : ℕ) (b : Bool) → nat_eq k q ≡ b → cond (b && not (stays w k)) None (map.get w.keys q) ≡ cond (stays w q) (map.get w.keys q) None
    by_key q true t = itself (stays w k) (map.get w.keys q) ∙ ap (λ j. cond (stays w j) (map.get w.keys q) None) (eqb-true k q t)
    by_key q false t = sym (found_or_none (stays w q) (map.get w.keys q) (λ key is. h q key is (nat_eq_equiv.symm q k ∙ t)))

-- ---- two vanish, one after the other

-- what a key's staying rests on
pub stays_by : (v w : World) (q : ℕ) → v.rings ≡ w.rings → map.get v.keys q ≡ map.get w.keys q → stays v q ≡ stays w q
stays_by v w q rings keys = λ i. has_link (rings i) q || unwrap_or (option_map is_building (keys i)) false

-- one that is taken away first vanishes all the same
pub settles_first : (w : World) (r : ℕ) → tidied (vanished_at r w) ≡ tidied w
settles_first w r =
    λ i. record w {
      keys = same_keys (tidied (vanished_at r w)).keys (tidied w).keys
          (λ q. get_tidied (vanished_at r w) q ∙ by_key q (nat_eq r q && not (stays w r)) refl ∙ sym (get_tidied w q)) i;
    }
  where
    gone : (q : ℕ) (a b : Bool) → nat_eq r q ≡ a → stays w r ≡ b → (a && not b) ≡ true → stays w q ≡ false
    gone q true true t s h = absurd (both_ways false refl h)
    gone q true false t s h = ap (stays w) (sym (eqb-true r q t)) ∙ s
    gone q false b t s h = absurd (both_ways false refl h)

    none : (b : Bool) → ◌≡◌ {A = Option Key} (cond b None None) None
    none true = refl
    none false = refl

    by_key : (q : ℕ) (b : Bool) → (nat_eq r q && not (stays w r)) ≡ b
        → cond (stays (vanished_at r w) q) (map.get (vanished_at r w).keys q) None ≡ cond (stays w q) (map.get w.keys q) None
    by_key q true t =
        ap (λ o. cond (stays (vanished_at r w) q) o None) (get_settled r w q ∙ ap (λ b. cond b None (map.get w.keys q)) t) ∙ none (stays (vanished_at r w) q)
        ∙ ap (λ b. cond b (map.get w.keys q) None) (sym (gone q (nat_eq r q) (stays w r) refl refl t))
    by_key q false t =
        let same : map.get (vanished_at r w).keys q ≡ map.get w.keys q = get_settled r w q ∙ ap (λ b. cond b None (map.get w.keys q)) t in
        λ i. cond (stays_by (vanished_at r w) w q refl same i) (same i) None

-- of those that are left every one but k stays
left_stay : (w : World) (r k : ℕ) → StayBut (λ j. nat_eq j r || nat_eq j k) w → StayBut (λ j. nat_eq j k) (vanished_at r w)
left_stay w r k h j key is other = by_key (nat_eq r j && not (stays w r)) refl
  where
    not_gone : (b : Bool) → cond (nat_eq r j && not b) None (map.get w.keys j) ≡ Some key → stays w r ≡ b → nat_eq j r ≡ true → stays w j ≡ true
    not_gone true e s t = ap (stays w) (eqb-true j r t) ∙ s
    not_gone false e s t =
        let no : cond (nat_eq r j && true) None (map.get w.keys j) ≡ Some key = e in absurd (gone (nat_eq r j) (nat_eq_equiv.symm r j ∙ t) no)
      where
        gone : (b : Bool) → b ≡ true → cond (b && true) None (map.get w.keys j) ≡ Some key → ⊥
        gone true t e = cc
        gone false t e = both_ways false refl t

    found : map.get (vanished_at r w).keys j ≡ map.get w.keys j → map.get w.keys j ≡ Some key
    found same = sym same ∙ is

    by_first : (b : Bool) → nat_eq j r ≡ b → map.get w.keys j ≡ Some key → stays w j ≡ true
    by_first true t there = not_gone (stays w r) (sym (get_settled r w j) ∙ is) refl t
    by_first false t there = h j key there (λ i. t i || other i)

    by_key : (b : Bool) → (nat_eq r j && not (stays w r)) ≡ b → stays (vanished_at r w) j ≡ true
    by_key true t = let e : None ≡ Some key = sym (get_settled r w j ∙ ap (λ b. cond b None (map.get w.keys j)) t) ∙ is in absurd (cc)
    by_key false t =
        let same : map.get (vanished_at r w).keys j ≡ map.get w.keys j = get_settled r w j ∙ ap (λ b. cond b None (map.get w.keys j)) t in
        stays_by (vanished_at r w) w j refl same ∙ by_first (nat_eq j r) refl (found same)

-- where all keys but two stay, taking away these two tidies the world
pub two_settle : (w : World) (r k : ℕ) → StayBut (λ j. nat_eq j r || nat_eq j k) w → vanished_at k (vanished_at r w) ≡ tidied w
two_settle w r k h = one_settles (vanished_at r w) k (left_stay w r k h) ∙ settles_first w r
