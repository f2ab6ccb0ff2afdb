-- Which keys have a link after a change of rings.
use Rattle.rk_core.proofs.Words.{◌≡◌, ℕ, Bool, true, false, cond, not, ◌&&◌, ◌||◌, refl, sym, ap, ◌∙◌, Option, Some, None, nat_eq, option_map, option_map_or}
use Rattle.rk_core.proofs.Words.{nat_cmp, eq_by_cmp, nat_cmp_total, eqb-true, eq-eqb, both_ways, changed_at, tie, Ring, is_linked, has_link, with_link}
use Rattle.rk_core.proofs.Words.{without_link, without_links, any_value, some_entry, entry_found, get_changed_at, get_removed}
use Rattle.std.specs.FinMap as map
use Rattle.std.specs.FinSet as set

-- the live rings, by their serials
abbrev pub Rings : Type 0
Rings = map.FinMap nat_cmp Ring

-- whether the key is linked in the ring; in none it is not
abbrev pub has_key : ℕ → Option Ring → Bool
has_key k o = option_map_or (λ (r : Ring). set.contains r.keys k) o false

-- a number is equal to itself
pub tied_itself : (k : ℕ) → nat_eq k k ≡ true
tied_itself k = eq-eqb k k refl

-- a key has a link where it is linked in some ring
pub link_somewhere : (rings : Rings) (ring k : ℕ) → is_linked rings ring k ≡ true → has_link rings k ≡ true
link_somewhere rings ring k h = by_ring (map.get rings ring) refl h
  where
    by_ring : (o : Option Ring) → map.get rings ring ≡ o → has_key k o ≡ true → has_link rings k ≡ true
    by_ring None is h = absurd (both_ways _ refl h)
    by_ring (Some r) is h = any_value (λ (r : Ring). set.contains r.keys k) rings ∙ some_entry (λ (e : ℕ × Ring). set.contains e.1.keys k) rings ring r is h

pub linked_somewhere : (rings : Rings) (k : ℕ) → has_link rings k ≡ true → (ring : ℕ) × (is_linked rings ring k ≡ true)
linked_somewhere rings k h =
    let f = entry_found (λ (e : ℕ × Ring). set.contains e.1.keys k) rings (sym (any_value (λ (r : Ring). set.contains r.keys k) rings) ∙ h) in
    (f.0, ap (has_key k) f.2 ∙ f.3)

-- whoever keeps each link of a key keeps one
pub links_kept : (old new : Rings) (k : ℕ) → ((ring : ℕ) → is_linked old ring k ≡ true → is_linked new ring k ≡ true) → has_link old k ≡ true
    → has_link new k ≡ true
links_kept old new k keeps h = let l = linked_somewhere old k h in link_somewhere new l.0 k (keeps l.0 l.1)

-- two tests of which each passes if the other does are the same
pub same_answer : (a b : Bool) → (a ≡ true → b ≡ true) → (b ≡ true → a ≡ true) → a ≡ b
same_answer true b f g = sym (f refl)
same_answer false true f g = g refl
same_answer false false f g = refl

-- what is linked alike has a link alike
pub linked_alike : (old new : Rings) (k : ℕ) → ((ring : ℕ) → is_linked new ring k ≡ is_linked old ring k) → has_link new k ≡ has_link old k
linked_alike old new k alike = same_answer _ _ (links_kept new old k (λ ring h. sym (alike ring) ∙ h)) (links_kept old new k (λ ring h. alike ring ∙ h))

-- ---- one ring is changed

at_changed : (b : Bool) (f : Ring → Ring) (o : Option Ring) (k : ℕ) → ((r : Ring) → set.contains r.keys k ≡ true → b ≡ true → set.contains (f r).keys k ≡ true)
    → has_key k o ≡ true → has_key k (cond b (option_map f o) o) ≡ true
at_changed true f None k keeps h = h
at_changed true f (Some r) k keeps h = keeps r h refl
at_changed false f o k keeps h = h

-- a link that the change of its ring keeps is there
pub link_stays : (rings : Rings) (ring : ℕ) (f : Ring → Ring) (q k : ℕ)
    → ((r : Ring) → set.contains r.keys k ≡ true → nat_eq ring q ≡ true → set.contains (f r).keys k ≡ true)
    → is_linked rings q k ≡ true → is_linked (changed_at ring f rings) q k ≡ true
link_stays rings ring f q k keeps h =
    ap (has_key k) (get_changed_at ring f rings q) ∙ at_changed (nat_eq ring q) f (map.get rings q) k keeps h

put_in : (gives_way : ℕ → Bool) (k : ℕ) (r : Ring) (j : ℕ) → set.contains r.keys j ≡ true → (set.contains r.keys k ≡ false → gives_way j ≡ false)
    → set.contains (with_link gives_way k r).keys j ≡ true
put_in gives_way k r j there free =
    elim (set.contains r.keys k) as (λ b. (b ≡ false → gives_way j ≡ false)
    → set.contains (cond b r.keys (set.retain (set.insert r.keys k) (λ i. not (gives_way i)))) j ≡ true) [
      | true ↦ λ _. there
      | false ↦ λ free.
          set.contains-retain (set.insert r.keys k) (λ i. not (gives_way i)) j (λ x t. ap (λ i. not (gives_way i)) (sym (set.nat_cmp-IsAntisymmetric j x t)))
          ∙ (λ i. set.contains-insert nat_cmp_total r.keys k j i && not (free refl i))
          ∙ ap (λ b. (eq_by_cmp nat_cmp j k || b) && not false) there ∙ kept_both (eq_by_cmp nat_cmp j k)
    ] free
  where
    kept_both : (a : Bool) → ((a || true) && not false) ≡ true
    kept_both true = refl
    kept_both false = refl

-- a link to a key that does not give way
pub stays_linked : (rings : Rings) (ring : ℕ) (gives_way : ℕ → Bool) (k q j : ℕ)
    → (is_linked rings ring k ≡ false → is_linked rings ring j ≡ true → gives_way j ≡ false)
    → is_linked rings q j ≡ true → is_linked (changed_at ring (with_link gives_way k) rings) q j ≡ true
stays_linked rings ring gives_way k q j free h = by_ring (map.get rings q) refl
  where
    at_ring : (r : Ring) → map.get rings q ≡ Some r → (x : Ring) → set.contains x.keys j ≡ true → nat_eq ring q ≡ true → x ≡ r
        → set.contains (with_link gives_way k x).keys j ≡ true
    at_ring r is x there same e =
        let here : map.get rings ring ≡ Some r = ap (map.get rings) (eqb-true ring q same) ∙ is in
        put_in gives_way k x j there (λ not_there. free (ap (has_key k) here ∙ ap (λ (y : Ring). set.contains y.keys k) (sym e) ∙ not_there)
        (ap (has_key j) here ∙ ap (λ (y : Ring). set.contains y.keys j) (sym e) ∙ there))

    by_option : (b : Bool) (o : Option Ring) → has_key j o ≡ true → ((r : Ring) → o ≡ Some r → b ≡ true → set.contains (with_link gives_way k r).keys j ≡ true)
        → has_key j (cond b (option_map (with_link gives_way k) o) o) ≡ true
    by_option true None there keeps = there
    by_option true (Some r) there keeps = keeps r refl refl
    by_option false o there keeps = there

    by_ring : (o : Option Ring) → map.get rings q ≡ o → is_linked (changed_at ring (with_link gives_way k) rings) q j ≡ true
    by_ring o is =
        ap (has_key j) (get_changed_at ring (with_link gives_way k) rings q)
        ∙ by_option (nat_eq ring q) (map.get rings q) h (λ r there same. at_ring r there r (ap (has_key j) (sym there) ∙ h) same refl)

-- a link to another key
pub stays_unlinked : (rings : Rings) (ring k q j : ℕ) → nat_eq k j ≡ false → is_linked rings q j ≡ true
    → is_linked (changed_at ring (without_link k) rings) q j ≡ true
stays_unlinked rings ring k q j other h =
    link_stays rings ring (without_link k) q j (λ r there same. set.contains-remove nat_cmp_total r.keys k j ∙ (λ i. not ((tie j k ∙ other) i) && there i)) h

-- a ring without its links holds none, as one that is not there
pub cleared_alike : (rings : Rings) (ring k : ℕ) → has_link (changed_at ring without_links rings) k ≡ has_link (map.remove rings ring) k
cleared_alike rings ring k =
    linked_alike (map.remove rings ring) (changed_at ring without_links rings) k (λ q.
    ap (has_key k) (get_changed_at ring without_links rings q) ∙ by_ring (nat_eq ring q) (map.get rings q) ∙ sym (ap (has_key k) (get_removed rings ring q)))
  where
    by_ring : (b : Bool) (o : Option Ring) → has_key k (cond b (option_map without_links o) o) ≡ has_key k (cond b None o)
    by_ring true None = refl
    by_ring true (Some r) = set.contains-empty nat_cmp k
    by_ring false o = refl
