-- How often each key is linked, through each change of the rings.
use Rattle.rk_rings.proofs.Words.{◌∙◌, ap, sym, ◌≡◌, subst, arith, ℕ, cond, ◌≤◌, false, ◌+◌, refl, true, Bool, ◌-◌, not, length, ◌<◌, List, [], ◌∷◌, ◌&&◌, ◌||◌}
use Rattle.rk_rings.proofs.Words.{ltb, zero, suc, ◌*◌, both_ways, eq-eqb, eqb-true, lt-ltb, none-some, same_Some, nat_cmp_total, get, len, insert, remove}
use Rattle.rk_rings.proofs.Words.{empty, FinMap, contains_key, get-empty, len-remove, len-insert, entries, same_map, nat_cmp-IsAntisymmetric, len-empty, find}
use Rattle.rk_rings.proofs.Words.{get-entries, len-entries, list_any, AllByRecursion, option_map_or, option_map, nat_cmp, eq_by_cmp, None, Some, nat_eq}
use Rattle.rk_rings.proofs.Words.{is_some, Option, unwrap_or, positive_empty, tie, shadow, get_kept_where, get_changed_at, get_inserted, get_removed}
use Rattle.rk_rings.proofs.Words.{HasEachOnce, entries_once, count_at, ArePositive, changed_at, kept_where, places, Stored, AreCounted, links_of, Numbered}
use Rattle.rk_rings.proofs.Words.{Rings, unlinked, new_ring, is_full, linked_in_room, holds, is_held, linked, cleared, IsMatch, links_with, with_rings, AreNew}
use Rattle.rk_rings.proofs.Words.{is_full_at, NewRing}
use Rattle.rk_table.proofs.KeptCounts.{was_there, kept_len-empty, kept_len-insert, kept_len-remove, kept_len-remove_none, kept_len-changed}
use Rattle.rk_rings.proofs.Finds.{tied, tied_itself, some_entry, entry_found, any_value}
use Rattle.rk_rings.proofs.Counts.{IsWithin, some_key, has_some, contains_key-remove, no_more}
use Rattle.rk_rings.proofs.Links.{kept_within, still_new, room_left}
use Rattle.rk_rings.proofs.Changed.{len-changed_at}
use Rattle.rk_rings.proofs.Made.{len-with_rings}

abbrev bit : Bool → ℕ
bit b = cond b 1 0

-- no ring has more than 256 links
abbrev pub AreFew : Rings → Type 0
AreFew m = (q : ℕ) (r : Numbered) → get m q ≡ Some r → len r.links ≤ 256

-- the ring has the key
abbrev has : ℕ → ℕ → Numbered → Bool
has k ring r = contains_key r.links k

-- ---- no key has more links than places

both : (a b : Bool) → (a && b) ≡ true → (a ≡ true) × (b ≡ true)
both true true e = (refl, refl)
both true false e = absurd (cc)
both false b e = absurd (cc)

moved : (a t u : Bool) → (not t && (a && not (not t && u))) ≡ true → (a && not u) ≡ true
moved true false true e = absurd (cc)
moved true false false e = refl
moved true true u e = absurd (cc)
moved false t u e = absurd (elim t as (λ t. (not t && false) ≡ true →
    ⊥) [ true ↦ λ e. (let h : false ≡ true = e in cc) | false ↦ λ e. (let h : false ≡ true = e in cc) ] e)

module _ {X : Type 0} where
  -- the entries whose keys another map has not
  abbrev minus : {Y : Type 0} → FinMap nat_cmp X → FinMap nat_cmp Y → FinMap nat_cmp X
  minus c b = kept_where (λ k _. not (contains_key b k)) c

  some_of : (t : Bool) (o : Option X) → is_some (cond (option_map_or (λ _. t) o false) o None) ≡ (is_some o && t)
  some_of t None = refl
  some_of true (Some x) = refl
  some_of false (Some x) = refl

  in_minus : {Y : Type 0} (c : FinMap nat_cmp X) (b : FinMap nat_cmp Y) (q : ℕ) → contains_key (minus c b) q ≡ (contains_key c q && not (contains_key b q))
  in_minus c b q = ap is_some (get_kept_where (λ k _. not (contains_key b k)) c q) ∙ some_of (not (contains_key b q)) (get c q)

  -- removing a key leaves at most one entry less
  removed : (m : FinMap nat_cmp X) (x : ℕ) → (len (remove m x) ≤ len m) × (len m ≤ len (remove m x) + 1)
  removed m x = elim (contains_key m x) as (λ b. len (remove m x) ≡ cond b (len m - 1) (len m) → (len (remove m x) ≤ len m) × (len m ≤ len (remove m x) + 1)) [
    | true ↦ λ e. (omega (arith, e), omega (arith, e))
    | false ↦ λ e. (omega (arith, e), omega (arith, e))
  ] (len-remove nat_cmp_total m x)

  left_by : {Y : Type 0} (n : ℕ) (c : FinMap nat_cmp X) (b : FinMap nat_cmp Y) → len b ≡ n → len c ≤ len (minus c b) + n
  left_by {Y} zero c b e =
      let none : (q : ℕ) → contains_key b q ≡ false = λ q. elim (contains_key b q) as (λ t. contains_key b q ≡ t → t ≡ false) [
        | true ↦ λ is. absurd (let some : 0 < len b = has_some b q is in omega (arith, some, e))
        | false ↦ λ _. refl
      ] refl in
      let le : len c ≤ len (minus c b) = no_more c (minus c b) (λ q is. in_minus c b q ∙ ap (λ t. t && not (contains_key b q)) is ∙ ap not (none q)) in
      omega (arith, le)
  left_by {Y} (suc n) c b e =
      let x = some_key b (omega (arith, e)) in
      let fewer : len (remove b x.0) ≡ len b - 1 = len-remove nat_cmp_total b x.0 ∙ ap (λ t. cond t (len b - 1) (len b)) x.1 in
      let rest : len c ≤ len (minus c (remove b x.0)) + n = left_by n c (remove b x.0) (omega (arith, fewer, e)) in
      let within : IsWithin (remove (minus c (remove b x.0)) x.0) (minus c b) = λ q is.
      in_minus c b q ∙ moved (contains_key c q) (eq_by_cmp nat_cmp q x.0) (contains_key b q)
      (ap (λ t. not (eq_by_cmp nat_cmp q x.0) && (contains_key c q && not t)) (sym (contains_key-remove b x.0 q))
      ∙ ap (λ t. not (eq_by_cmp nat_cmp q x.0) && t) (sym (in_minus c (remove b x.0) q)) ∙ sym (contains_key-remove (minus c (remove b x.0)) x.0 q) ∙ is) in
      omega (arith, rest, (removed (minus c (remove b x.0)) x.0).1, no_more (remove (minus c (remove b x.0)) x.0) (minus c b) within)

  later : (q : ℕ) (e : ℕ × X) (es : List (ℕ × X)) (v : X) → find nat_cmp e.0 es ≡ None → find nat_cmp q es ≡ Some v → find nat_cmp q (e ∷ es) ≡ Some v
  later q e es v none there = elim (eq_by_cmp nat_cmp q e.0) as (λ b. eq_by_cmp nat_cmp q e.0 ≡ b → cond b (Some e.1) (find nat_cmp q es) ≡ Some v) [
    | true ↦ λ t. absurd (none-some v (sym (ap (λ k. find nat_cmp k es) (tied q e.0 t) ∙ none) ∙ there))
    | false ↦ λ _. there
  ] refl

  all_entries : (P : X → Type 0) (es : List (ℕ × X)) → HasEachOnce es → ((q : ℕ) (v : X) → find nat_cmp q es ≡ Some v → P v) → AllByRecursion (λ e. P e.1) es
  all_entries P [] once h = tt
  all_entries P (e ∷ es) once h = (
    h e.0 e.1 (ap (λ b. cond b (Some e.1) (find nat_cmp e.0 es)) (tied_itself e.0)),
    all_entries P es once.1 (λ q v there. h q v (later q e es v once.0 there)),
  )

fits : (es : List (ℕ × Numbered)) (c : FinMap nat_cmp ℕ) → AllByRecursion (λ e. len e.1.links ≤ 256) es
    → ((q : ℕ) → contains_key c q ≡ true → list_any (λ e. contains_key e.1.links q) es ≡ true) → len c ≤ 256 * length es
fits [] c few h = none (len c) refl
  where
    none : (n : ℕ) → len c ≡ n → n ≤ 0
    none zero e = omega arith
    none (suc n) e = let x = some_key c (omega (arith, e)) in absurd (let t : false ≡ true = h x.0 x.1 in cc)
fits (e ∷ es) c few h =
    let rest : len (minus c e.1.links) ≤ 256 * length es = fits es (minus c e.1.links) few.1 (λ q is.
    let parts = both (contains_key c q) (not (contains_key e.1.links q)) (sym (in_minus c e.1.links q) ∙ is) in
    elim (contains_key e.1.links q) as (λ b. not b ≡ true → (b || list_any (λ e. contains_key e.1.links q) es) ≡ true →
    list_any (λ e. contains_key e.1.links q) es ≡ true) [
      | true ↦ λ no _. absurd (cc)
      | false ↦ λ _ h. h
    ] parts.1 (h q parts.0)) in
    omega (arith, left_by (len e.1.links) c e.1.links refl, few.0, rest)

-- a key that is counted is linked in some ring
linked_somewhere : (m : Rings) (q : ℕ) → 0 < links_of m q → list_any (λ e. contains_key e.1.links q) (entries m) ≡ true
linked_somewhere m q some =
    let x = some_key (kept_where (has q) m) some in
    let there = by_entry (get m x.0) (ap is_some (sym (get_kept_where (has q) m x.0)) ∙ x.1) in
    some_entry (λ e. contains_key e.1.links q) m x.0 there.0 there.1 there.2
  where
    by_entry : {A : Type 0} {p : A → Bool} (o : Option A) → is_some (cond (option_map_or p o false) o None) ≡ true → (a : A) × (o ≡ Some a) × (p a ≡ true)
    by_entry None e = absurd (cc)
    by_entry {p = p} (Some a) e = elim (p a) as (λ b. p a ≡ b → is_some (cond b (Some a) None) ≡ true → (x : _) × (Some a ≡ Some x) × (p x ≡ true)) [
      | true ↦ λ t _. (a, refl, t)
      | false ↦ λ _ e. absurd (cc)
    ] refl e

pub counted_fit : (m : Rings) (c : FinMap nat_cmp ℕ) → AreFew m → ((q : ℕ) → contains_key c q ≡ true → 0 < links_of m q) → len c ≤ 256 * len m
counted_fit m c few h =
    let all = all_entries (λ r. len r.links ≤ 256) (entries m) (entries_once m) (λ q r there. few q r (get-entries m q ∙ there)) in
    omega (arith, fits (entries m) c all (λ q is. linked_somewhere m q (h q is)), len-entries m)

-- ---- what the counts tell

-- a key is in some ring exactly if it counts
pub held_by_count : (m : Rings) (k : ℕ) → ltb 0 (links_of m k) ≡ is_held m k
held_by_count m k = by_held (is_held m k) refl
  where
    some : is_held m k ≡ true → 0 < links_of m k
    some h =
        let at = entry_found (λ e. contains_key e.1.links k) m (sym (any_value (λ r. contains_key r.links k) m) ∙ h) in
        has_some (kept_where (has k) m) at.0 (ap is_some (get_kept_where (has k) m at.0) ∙
        ap (λ (o : Option Numbered). is_some (cond (option_map_or (has k at.0) o false) o None)) at.2 ∙ ap (λ b. is_some (cond b (Some at.1) None)) at.3)

    counted : (n : ℕ) → links_of m k ≡ n → is_held m k ≡ false → ltb 0 n ≡ false
    counted zero e h = refl
    counted (suc n) e h = absurd (both_ways _ h (any_value (λ r. contains_key r.links k) m ∙ linked_somewhere m k (omega (arith, e))))

    by_held : (b : Bool) → is_held m k ≡ b → ltb 0 (links_of m k) ≡ is_held m k
    by_held true h = lt-ltb 0 (links_of m k) (some h) ∙ sym h
    by_held false h = counted (links_of m k) refl h ∙ sym h

positive_count : (c : FinMap nat_cmp ℕ) (q : ℕ) → ArePositive c → contains_key c q ≡ true → 0 < count_at c q
positive_count c q all is = elim (get c q) as (λ o. get c q ≡ o → is_some o ≡ true → 0 < count_at c q) [
  | None ↦ λ e is. absurd (cc)
  | Some n ↦ λ e is. let here : count_at c q ≡ n = ap (λ o. unwrap_or o 0) e in omega (arith, here, all q n e)
] refl is

not_counted : (c : FinMap nat_cmp ℕ) (q : ℕ) → ArePositive c → count_at c q ≡ 0 → get c q ≡ None
not_counted c q all is = elim (get c q) as (λ o. get c q ≡ o → o ≡ None) [
  | None ↦ λ _. refl
  | Some n ↦ λ e. absurd (let some : 0 < count_at c q = positive_count c q all (ap is_some e) in omega (arith, some, is))
] refl

-- where all but one link of a key has its count, there is room for it
pub room_for : (m : Rings) (c : Stored ℕ) (k n : ℕ) → AreFew m → ArePositive c.facts
    → ((q : ℕ) → links_of m q ≡ count_at c.facts q + bit (nat_eq k q)) → len m ≡ n → 256 * n ≤ places c → count_at c.facts k ≡ 0 → 0 < c.room
room_for m c k n few all each is room none =
    let new : FinMap nat_cmp ℕ = insert c.facts k 1 in
    let one_more : len new ≡ len c.facts + 1 = len-insert nat_cmp_total c.facts k 1 ∙
    ap (λ o. cond (is_some o) (len c.facts) (len c.facts + 1)) (not_counted c.facts k all none) in
    let fit : len new ≤ 256 * len m = counted_fit m new few (λ q there. elim (nat_eq k q) as (λ b. nat_eq k q ≡ b → 0 < links_of m q) [
      | true ↦ λ same. let e : links_of m q ≡ count_at c.facts q + 1 = each q ∙ ap (λ b. count_at c.facts q + bit b) same in omega (arith, e)
      | false ↦ λ other.
          let e : links_of m q ≡ count_at c.facts q + 0 = each q ∙ ap (λ b. count_at c.facts q + bit b) other in
          let old : contains_key c.facts q ≡ true = sym (ap is_some (get_inserted c.facts k 1 q ∙ ap (λ b. cond b (Some 1) (get c.facts q)) other)) ∙ there in
          let some : 0 < count_at c.facts q = positive_count c.facts q all old in
          omega (arith, e, some)
    ] refl) in
    omega (arith, one_more, fit, is, room)

-- ---- one ring changed

pub links_changed : (m : Rings) (ring : ℕ) (f : Numbered → Numbered) (r : Numbered) (q : ℕ) → get m ring ≡ Some r
    → links_of (changed_at ring f m) q + bit (contains_key r.links q) ≡ links_of m q + bit (contains_key (f r).links q)
links_changed m ring f r q is = kept_len-changed (has q) m ring f r is

pub few_changed : (m : Rings) (ring : ℕ) (f : Numbered → Numbered) → ((r : Numbered) → get m ring ≡ Some r → len r.links ≤ 256 → len (f r).links ≤ 256)
    → AreFew m → AreFew (changed_at ring f m)
few_changed m ring f keeps few q r there = by_ring (nat_eq ring q) refl (get m q) refl (sym (get_changed_at ring f m q) ∙ there)
  where
    by_ring : (b : Bool) → nat_eq ring q ≡ b → (o : Option Numbered) → get m q ≡ o → cond b (option_map f o) o ≡ Some r → len r.links ≤ 256
    by_ring false t o is e = few q r (is ∙ e)
    by_ring true t None is e = absurd (cc)
    by_ring true t (Some old) is e =
        let same : f old ≡ r = same_Some (f old) r e in
        subst (λ (x : Numbered). len x.links ≤ 256) same (keeps old (ap (get m) (eqb-true ring q t) ∙ is) (few q old is))

-- a change that changes nothing there
pub changed_by_nothing : (m : Rings) (ring : ℕ) (f : Numbered → Numbered) → ((r : Numbered) → get m ring ≡ Some r → f r ≡ r) → m ≡ changed_at ring f m
changed_by_nothing m ring f same = elim (get m ring) as (λ o. get m ring ≡ o → m ≡ option_map_or (λ v. insert m ring (f v)) o m) [
  | None ↦ λ _. refl
  | Some r ↦ λ is. was_there m ring r is ∙ ap (insert m ring) (sym (same r is))
] refl

-- ---- a new link

-- linking a key that is linked leaves the rings
pub linked_there : (m : Rings) (ring k n : ℕ) → holds m ring k ≡ true → m ≡ changed_at ring (linked k n) m
linked_there m ring k n h = changed_by_nothing m ring (linked k n) (λ r is.
    let there : contains_key r.links k ≡ true = sym (ap (λ o. option_map_or (λ (r : Numbered). contains_key r.links k) o false) is) ∙ h in
    λ i. record r { links = ap (λ b. cond b r.links (insert (kept_where (λ j x. not (nat_eq x n)) r.links) k n)) there i })

pub in_room : (k n : ℕ) (r : Numbered) → contains_key r.links k ≡ false → is_full (Some n) r ≡ false → linked_in_room k n r ≡ linked k n r
in_room k n r lacks room = ap (λ b. cond (b || not (is_full (Some n) r)) (linked k n r) r) lacks ∙ ap (λ b. cond (not b) (linked k n r) r) room

links_put : (links : FinMap nat_cmp ℕ) (k n : ℕ) → contains_key links k ≡ false → links_with k n links ≡ insert (kept_where (λ j x. not (nat_eq x n)) links) k n
links_put links k n lacks = ap (λ b. cond b links (insert (kept_where (λ j x. not (nat_eq x n)) links) k n)) lacks

few_put : (k n : ℕ) (r : Numbered) → contains_key r.links k ≡ false → is_full (Some n) r ≡ false → len r.links ≤ 256 → len (linked k n r).links ≤ 256
few_put k n r lacks room most =
    let kept : FinMap nat_cmp ℕ = kept_where (λ j x. not (nat_eq x n)) r.links in
    let put : len (links_with k n r.links) ≡ len kept + 1 =
    ap len (links_put r.links k n lacks) ∙ len-insert nat_cmp_total kept k n ∙
    ap (λ o. cond (is_some o) (len kept) (len kept + 1)) (still_new (λ j x. not (nat_eq x n)) r.links k lacks) in
    let le : len kept ≤ len r.links = no_more kept r.links (kept_within (λ j x. not (nat_eq x n)) r.links) in
    let sum : len kept + (256 - len kept) ≡ 256 = omega (arith, le, most) in
    omega (arith, put, room_left r n (len kept) (256 - len kept) room most refl sum)

-- of the others the one that has the name is gone
by_rival : (n : ℕ) (o : Option ℕ) (b : Bool) → (b ≡ true → o ≡ Some n) → (b ≡ false → o ≡ Some n → ⊥) →
    bit (is_some o) ≡ bit (is_some (cond (option_map_or (λ x. not (nat_eq x n)) o false) o None)) + bit b
by_rival n None true if_so if_not = absurd (none-some n (if_so refl))
by_rival n None false if_so if_not = refl
by_rival n (Some x) b if_so if_not = elim (nat_eq x n) as (λ t. nat_eq x n ≡ t → 1 ≡ bit (is_some (cond (not t) (Some x) None)) + bit b) [
  | true ↦ λ same. by_b b refl (eqb-true x n same)
  | false ↦ λ other. by_other b refl other
] refl
  where
    by_b : (c : Bool) → b ≡ c → x ≡ n → 1 ≡ 0 + bit c
    by_b true e same = refl
    by_b false e same = absurd (if_not e (ap (λ y. Some y) same))

    by_other : (c : Bool) → b ≡ c → nat_eq x n ≡ false → 1 ≡ 1 + bit c
    by_other true e other = absurd (both_ways _ other (eq-eqb x n (same_Some x n (if_so e))))
    by_other false e other = refl

abbrev is_rival : Option ℕ → ℕ → Bool
is_rival o q = option_map_or (λ j. nat_eq j q) o false

rival_there : (m : Rings) (ring n : ℕ) (r : Numbered) (o : Option ℕ) (q : ℕ) → get m ring ≡ Some r → IsMatch m n (Some ring) o → is_rival o q ≡ true →
    get r.links q ≡ Some n
rival_there m ring n r None q is h e = absurd (cc)
rival_there m ring n r (Some j) q is h e =
    let same : h.0 ≡ r = same_Some h.0 r (sym h.1 ∙ is) in
    ap (get r.links) (sym (eqb-true j q e)) ∙ ap (λ (x : Numbered). get x.links j) (sym same) ∙ h.2

no_rival : (m : Rings) (ring n : ℕ) (r : Numbered) (o : Option ℕ) (q : ℕ) → get m ring ≡ Some r → IsMatch m n (Some ring) o → is_rival o q ≡ false →
    get r.links q ≡ Some n → ⊥
no_rival m ring n r None q is h e there = h r is q there
no_rival m ring n r (Some j) q is h e there =
    let same : h.0 ≡ r = same_Some h.0 r (sym h.1 ∙ is) in
    both_ways _ e (eq-eqb j q (sym (h.3 q (ap (λ (x : Numbered). get x.links q) same ∙ there))))

-- in how many rings a key is, once one is linked in the place of its rival
pub links_linked : (m : Rings) (ring k n : ℕ) (r : Numbered) (o : Option ℕ) → get m ring ≡ Some r → contains_key r.links k ≡ false → is_full (Some n) r ≡ false
    → IsMatch m n (Some ring) o → (q : ℕ) → links_of (changed_at ring (linked_in_room k n) m) q ≡ (links_of m q - bit (is_rival o q)) + bit (nat_eq k q)
links_linked m ring k n r o is lacks room match q =
    let kept : FinMap nat_cmp ℕ = kept_where (λ j x. not (nat_eq x n)) r.links in
    let after : contains_key (linked_in_room k n r).links q ≡ is_some (cond (nat_eq k q) (Some n) (get kept q)) =
    ap (λ (x : Numbered). contains_key x.links q) (in_room k n r lacks room) ∙ ap (λ ls. contains_key ls q) (links_put r.links k n lacks) ∙
    ap is_some (get_inserted kept k n q) in
    let law = links_changed m ring (linked_in_room k n) r q is ∙ ap (λ b. links_of m q + bit b) after in
    by_key (nat_eq k q) refl law
  where
    by_key : (b : Bool) → nat_eq k q ≡ b → links_of (changed_at ring (linked_in_room k n) m) q + bit (contains_key r.links q) ≡ links_of m q + bit
        (is_some (cond b (Some n) (get (kept_where (λ j x. not (nat_eq x n)) r.links) q)))
        → links_of (changed_at ring (linked_in_room k n) m) q ≡ (links_of m q - bit (is_rival o q)) + bit b
    by_key true same law =
        let before : contains_key r.links q ≡ false = ap (contains_key r.links) (sym (eqb-true k q same)) ∙ lacks in
        let not_rival : is_rival o q ≡ false = elim (is_rival o q) as (λ b. is_rival o q ≡ b → b ≡ false) [
          | true ↦ λ e. absurd (both_ways _ before (ap is_some (rival_there m ring n r o q is match e)))
          | false ↦ λ _. refl
        ] refl in
        omega (arith, law, ap bit before, ap bit not_rival)
    by_key false other law =
        let left = ap bit (ap is_some (get_kept_where (λ j x. not (nat_eq x n)) r.links q)) in
        let bits = by_rival n (get r.links q) (is_rival o q) (rival_there m ring n r o q is match) (no_rival m ring n r o q is match) in
        omega (arith, law, left, bits)

pub few_linked : (m : Rings) (ring k n : ℕ) (r : Numbered) → get m ring ≡ Some r → contains_key r.links k ≡ false → is_full (Some n) r ≡ false
    → AreFew m → AreFew (changed_at ring (linked_in_room k n) m)
few_linked m ring k n r is lacks room few =
    few_changed m ring (linked_in_room k n) (λ x there most.
    let same : r ≡ x = same_Some r x (sym is ∙ there) in
    subst (λ (y : Numbered). len (linked_in_room k n y).links ≤ 256) same (subst (λ (y : Numbered). len y.links ≤ 256) (sym (in_room k n r lacks room))
    (few_put k n r lacks room (subst (λ (y : Numbered). len y.links ≤ 256) (sym same) most))))
    few

-- ---- a link taken out

pub links_unlinked : (m : Rings) (ring k : ℕ) (r : Numbered) → get m ring ≡ Some r → contains_key r.links k ≡ true → (q : ℕ)
    → links_of (changed_at ring (unlinked k) m) q ≡ cond (nat_eq k q) (links_of m q - 1) (links_of m q)
links_unlinked m ring k r is has q =
    let law = links_changed m ring (unlinked k) r q is ∙ ap (λ b. links_of m q + bit b) (contains_key-remove r.links k q ∙
    ap (λ b. not b && contains_key r.links q) (tie q k)) in
    by_key (nat_eq k q) refl law
  where
    by_key : (b : Bool) → nat_eq k q ≡ b →
        links_of (changed_at ring (unlinked k) m) q + bit (contains_key r.links q) ≡ links_of m q + bit (not b && contains_key r.links q)
        → links_of (changed_at ring (unlinked k) m) q ≡ cond b (links_of m q - 1) (links_of m q)
    by_key true same law =
        let before : contains_key r.links q ≡ true = ap (contains_key r.links) (sym (eqb-true k q same)) ∙ has in
        omega (arith, law, ap bit before)
    by_key false other law = omega (arith, law)

pub few_unlinked : (m : Rings) (ring k : ℕ) → AreFew m → AreFew (changed_at ring (unlinked k) m)
few_unlinked m ring k few = few_changed m ring (unlinked k) (λ r is most. omega (arith, (removed r.links k).0, most)) few

-- ---- all links taken out, one by one

-- unlinking a key before a ring is cleared leaves what clearing makes
pub still_to_clear : (m : Rings) (ring k : ℕ) → changed_at ring cleared (changed_at ring (unlinked k) m) ≡ changed_at ring cleared m
still_to_clear m ring k = same_map nat_cmp_total nat_cmp-IsAntisymmetric _ _ (λ q.
    get_changed_at ring cleared (changed_at ring (unlinked k) m) q
    ∙ ap (λ o. cond (nat_eq ring q) (option_map cleared o) o) (get_changed_at ring (unlinked k) m q)
    ∙ by_ring (nat_eq ring q) (get m q) ∙ sym (get_changed_at ring cleared m q))
  where
    by_ring : (b : Bool) (o : Option Numbered) →
        cond b (option_map cleared (cond b (option_map (unlinked k) o) o)) (cond b (option_map (unlinked k) o) o) ≡ cond b (option_map cleared o) o
    by_ring true None = refl
    by_ring true (Some r) = refl
    by_ring false o = refl

-- how many links a ring has
abbrev pub links_in : Rings → ℕ → ℕ
links_in m ring = option_map_or (λ r. len r.links) (get m ring) 0

-- a ring that holds a key is there, and has it
held : (m : Rings) (ring k : ℕ) → holds m ring k ≡ true → (r : Numbered) × (get m ring ≡ Some r) × (contains_key r.links k ≡ true)
held m ring k h =
    elim (get m ring) as (λ o. option_map_or (λ r. contains_key r.links k) o false ≡ true → (r : Numbered) × (o ≡ Some r) × (contains_key r.links k ≡ true)) [
      | None ↦ λ e. absurd (both_ways false refl e)
      | Some r ↦ λ e. (r, refl, e)
    ] h

-- unlinking a linked key leaves fewer links in the ring
pub fewer_left : (m : Rings) (ring k : ℕ) → holds m ring k ≡ true → links_in (changed_at ring (unlinked k) m) ring < links_in m ring
fewer_left m ring k h =
    let at = held m ring k h in
    let links = at.0.links in
    let after : links_in (changed_at ring (unlinked k) m) ring ≡ len (remove links k) =
    ap (λ o. option_map_or (λ (x : Numbered). len x.links) o 0) (get_changed_at ring (unlinked k) m ring
    ∙ ap (λ b. cond b (option_map (unlinked k) (get m ring)) (get m ring)) (eq-eqb ring ring refl) ∙ ap (option_map (unlinked k)) at.1) in
    let now : len (remove links k) ≡ len links - 1 = len-remove nat_cmp_total links k ∙ ap (λ b. cond b (len links - 1) (len links)) at.2 in
    let before : links_in m ring ≡ len links = ap (λ o. option_map_or (λ (x : Numbered). len x.links) o 0) at.1 in
    omega (arith, after, now, before, has_some links k at.2)

none_linked : (links : FinMap nat_cmp ℕ) → ((k : ℕ) → contains_key links k ≡ false) → empty ≡ links
none_linked links none = same_map nat_cmp_total nat_cmp-IsAntisymmetric _ _ (λ q. get-empty nat_cmp q ∙
    elim (get links q) as (λ o. get links q ≡ o → None ≡ o) [
      | None ↦ λ _. refl
      | Some n ↦ λ is. absurd (both_ways _ (none q) (ap is_some is))
    ] refl)

-- a ring without links is as if it were cleared
pub all_cleared : (m : Rings) (ring : ℕ) → ((k : ℕ) → holds m ring k ≡ false) → m ≡ changed_at ring cleared m
all_cleared m ring none = changed_by_nothing m ring cleared (λ r is i. record r {
  links = none_linked r.links (λ k. sym (ap (λ o. option_map_or (λ (x : Numbered). contains_key x.links k) o false) is) ∙ none k) i;
})

-- ---- a ring without links dropped

-- clearing a ring before it is removed leaves what removing makes
pub dropped : (m : Rings) (ring : ℕ) → remove (changed_at ring cleared m) ring ≡ remove m ring
dropped m ring = same_map nat_cmp_total nat_cmp-IsAntisymmetric _ _ (λ q.
    get_removed (changed_at ring cleared m) ring q ∙ ap (cond (nat_eq ring q) None) (get_changed_at ring cleared m q)
    ∙ shadow (nat_eq ring q) None (option_map cleared (get m q)) (get m q)
    ∙ sym (get_removed m ring q))

pub links_dropped : (m : Rings) (ring : ℕ) (q : ℕ) → links_of (remove (changed_at ring cleared m) ring) q ≡ links_of (changed_at ring cleared m) q
links_dropped m ring q = by_ring (get m ring) refl
  where
    n : Rings
    n = changed_at ring cleared m

    at : (o : Option Numbered) → get m ring ≡ o → get n ring ≡ option_map cleared o
    at o is = get_changed_at ring cleared m ring ∙ ap (λ b. cond b (option_map cleared (get m ring)) (get m ring)) (eq-eqb ring ring refl) ∙
        ap (option_map cleared) is

    by_ring : (o : Option Numbered) → get m ring ≡ o → links_of (remove n ring) q ≡ links_of n q
    by_ring None is = kept_len-remove_none (has q) n ring (at None is)
    by_ring (Some r) is =
        kept_len-remove (has q) n ring (cleared r) (at (Some r) is) ∙ ap (λ b. cond b (links_of n q - 1) (links_of n q)) (ap is_some (get-empty nat_cmp q))

pub few_dropped : (m : Rings) (ring : ℕ) → AreFew m → AreFew (remove m ring)
few_dropped m ring few q r there = elim (nat_eq ring q) as (λ b. cond b None (get m q) ≡ Some r →
    len r.links ≤ 256) [ true ↦ λ e. absurd (none-some r e) | false ↦ λ e. few q r e ] (sym (get_removed m ring q) ∙ there)

pub no_more_rings : (m : Rings) (ring : ℕ) → len (remove m ring) ≤ len m
no_more_rings m ring = (removed m ring).0

-- ---- new rings

pub links_made : (wanted : List NewRing) (m : Rings) → AreNew wanted m → (q : ℕ) → links_of (with_rings wanted m) q ≡ links_of m q
links_made [] m new q = refl
links_made (w ∷ ws) m new q =
    links_made ws (insert m w.serial (new_ring w)) new.1 q ∙ kept_len-insert (has q) m w.serial (new_ring w) new.0
    ∙ ap (λ b. cond b (links_of m q + 1) (links_of m q)) (ap is_some (get-empty nat_cmp q))

pub few_made : (wanted : List NewRing) (m : Rings) → AreFew m → AreFew (with_rings wanted m)
few_made [] m few = few
few_made (w ∷ ws) m few = few_made ws (insert m w.serial (new_ring w)) (λ q r there.
    elim (nat_eq w.serial q) as (λ b. cond b (Some (new_ring w)) (get m q) ≡ Some r → len r.links ≤ 256) [
      | true ↦ λ e. let same : new_ring w ≡ r = same_Some (new_ring w) r e in
          subst (λ (x : Numbered). len x.links ≤ 256) same (omega (arith, len-empty nat_cmp ℕ))
      | false ↦ λ e. few q r e
    ] (sym (get_inserted m w.serial (new_ring w) q) ∙ there))

-- ---- no ring

-- if there are no rings, there are no counts
pub counted_empty : (m : Rings) (c : Stored ℕ) → m ≡ empty → c.facts ≡ empty → AreCounted m c
counted_empty m c is none = record {
  few = λ ring r there. absurd (none-some r (sym (ap (λ n. get n ring) is ∙ get-empty nat_cmp ring) ∙ there));
  each = λ k.
      ap (λ n. count_at n k) none ∙ ap (λ o. unwrap_or o 0) (get-empty {X = ℕ} nat_cmp k) ∙ sym (ap (λ n. links_of n k) is ∙ kept_len-empty (has k));
  positive = subst ArePositive (sym none) positive_empty;
  room = let no : len m ≡ 0 = ap len is ∙ len-empty nat_cmp Numbered in omega (arith, no);
}

-- ---- the counts hold through each change

at_most_rings : (m : Rings) (q : ℕ) → links_of m q ≤ len m
at_most_rings m q = no_more (kept_where (has q) m) m (kept_within (has q) m)

-- at most 1,024 rings link a key less than 2^32 - 1 times
pub few_enough : (m : Rings) (c : Stored ℕ) (q n : ℕ) → AreCounted m c → len m ≤ 1024 → n ≤ count_at c.facts q → n < 4294967295
few_enough m c q n counted most le = omega (arith, counted.each q, at_most_rings m q, most, le)

-- counts are those of the rings after a key is unlinked and its count is one less
pub counted_unlinked : (m : Rings) (old new : Stored ℕ) (ring k : ℕ) → AreCounted m old → holds m ring k ≡ true
    → ((q : ℕ) → count_at new.facts q ≡ cond (nat_eq k q) (count_at old.facts q - 1) (count_at old.facts q)) → ArePositive new.facts → places new ≡ places old
    → AreCounted (changed_at ring (unlinked k) m) new
counted_unlinked m old new ring k counted h each positive same =
    let at = held m ring k h in
    record {
      few = few_unlinked m ring k counted.few;
      each = λ q. each q ∙ ap (λ n. cond (nat_eq k q) (n - 1) n) (counted.each q) ∙ sym (links_unlinked m ring k at.0 at.1 at.2 q);
      positive = positive;
      room = omega (arith, counted.room, same, len-changed_at ring (unlinked k) m);
    }

-- a ring that is there, is not full for the name, and lacks the key
abbrev pub Takes : Rings → ℕ → ℕ → ℕ → Type 0
Takes m ring k n = (r : Numbered) × (get m ring ≡ Some r) × (contains_key r.links k ≡ false) × (is_full (Some n) r ≡ false)

pub takes : (m : Rings) (ring k n : ℕ) → contains_key m ring ≡ true → holds m ring k ≡ false → is_full_at m ring (Some n) ≡ false → Takes m ring k n
takes m ring k n there lacks room = by_ring (get m ring) refl there lacks room
  where
    by_ring : (o : Option Numbered) → get m ring ≡ o → is_some o ≡ true → option_map_or (λ r. contains_key r.links k) o false ≡ false
        → option_map_or (is_full (Some n)) o false ≡ false → Takes m ring k n
    by_ring None is there lacks room = absurd (cc)
    by_ring (Some r) is there lacks room = (r, is, lacks, room)

pub links_after : (m : Rings) (old mid : Stored ℕ) (ring k n : ℕ) (o : Option ℕ) → AreCounted m old → Takes m ring k n → IsMatch m n (Some ring) o
    → ((q : ℕ) → count_at mid.facts q ≡ count_at old.facts q - bit (is_rival o q)) → (q : ℕ) →
    links_of (changed_at ring (linked_in_room k n) m) q ≡ count_at mid.facts q + bit (nat_eq k q)
links_after m old mid ring k n o counted t match each q =
    links_linked m ring k n t.0 o t.1 t.2 t.3 match q ∙ ap (λ x. (x - bit (is_rival o q)) + bit (nat_eq k q)) (sym (counted.each q)) ∙
    ap (λ x. x + bit (nat_eq k q)) (sym (each q))

-- where a new key is to be counted there is room for its count
pub room_linked : (m : Rings) (old mid : Stored ℕ) (ring k n : ℕ) (o : Option ℕ) → AreCounted m old → Takes m ring k n → IsMatch m n (Some ring) o
    → ((q : ℕ) → count_at mid.facts q ≡ count_at old.facts q - bit (is_rival o q)) → ArePositive mid.facts → places mid ≡ places old →
    count_at mid.facts k ≡ 0 → 0 < mid.room
room_linked m old mid ring k n o counted t match each positive same none =
    room_for (changed_at ring (linked_in_room k n) m) mid k (len m) (few_linked m ring k n t.0 t.1 t.2 t.3 counted.few) positive
    (links_after m old mid ring k n o counted t match each) (len-changed_at ring (linked_in_room k n) m) (omega (arith, counted.room, same)) none

one_more_bit : (b : Bool) (n : ℕ) → cond b (n + 1) n ≡ n + bit b
one_more_bit true n = refl
one_more_bit false n = omega arith

-- counts are those of the rings after a key is linked: one more for it, one less for a rival of its name
pub counted_linked : (m : Rings) (old mid new : Stored ℕ) (ring k n : ℕ) (o : Option ℕ) → AreCounted m old → Takes m ring k n → IsMatch m n (Some ring) o
    → ((q : ℕ) → count_at mid.facts q ≡ count_at old.facts q - bit (is_rival o q)) → places mid ≡ places old
    → ((q : ℕ) → count_at new.facts q ≡ cond (nat_eq k q) (count_at mid.facts q + 1) (count_at mid.facts q)) → ArePositive new.facts → places new ≡ places mid
    → AreCounted (changed_at ring (linked_in_room k n) m) new
counted_linked m old mid new ring k n o counted t match each same more positive again = record {
  few = few_linked m ring k n t.0 t.1 t.2 t.3 counted.few;
  each = λ q. more q ∙ one_more_bit (nat_eq k q) (count_at mid.facts q) ∙ sym (links_after m old mid ring k n o counted t match each q);
  positive = positive;
  room = omega (arith, counted.room, same, again, len-changed_at ring (linked_in_room k n) m);
}

-- counts of the rings with one cleared are those of the rings without it
pub counted_dropped : (m n : Rings) (c : Stored ℕ) (ring : ℕ) → n ≡ changed_at ring cleared m → AreCounted n c → AreCounted (remove n ring) c
counted_dropped m n c ring is counted = record {
  few = few_dropped n ring counted.few;
  each = λ q. counted.each q ∙ sym (ap (λ x. links_of (remove x ring) q) is ∙ links_dropped m ring q ∙ sym (ap (λ x. links_of x q) is));
  positive = counted.positive;
  room = omega (arith, counted.room, no_more_rings n ring);
}

-- the same counts are those of the rings after empty ones are made, if there are places for their links
pub counted_made : (wanted : List NewRing) (m n : Rings) (old new : Stored ℕ) → n ≡ with_rings wanted m → AreNew wanted m → AreCounted m old →
    new.facts ≡ old.facts
    → 256 * (len m + length wanted) ≤ places new → AreCounted n new
counted_made wanted m n old new is fresh counted same room = subst (λ x. AreCounted x new) (sym is) (record {
  few = few_made wanted m counted.few;
  each = λ k. ap (λ c. count_at c k) same ∙ counted.each k ∙ sym (links_made wanted m fresh k);
  positive = subst ArePositive (sym same) counted.positive;
  room = let more = len-with_rings wanted m fresh in omega (arith, room, more);
})
