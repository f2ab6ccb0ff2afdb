-- Rings as they are seen without the numbers of names.
use Rattle.rk_rings.proofs.Words.{◌∙◌, ap, sym, ◌≡◌, arith, ℕ, cond, false, refl, true, Bool, ◌-◌, not, ◌&&◌, ◌||◌, zero, suc, both_ways, eq-eqb, nat_cmp_total}
use Rattle.rk_rings.proofs.Words.{same_answer, list_any, option_map_or, option_map, nat_cmp, eq_by_cmp, None, Some, nat_eq, is_some, Option, list_map}
use Rattle.rk_rings.proofs.Words.{set_not_empty, tie, get_in, of_choice, find_mapped, get_kept_where, changed_at, kept_where, Numbered, Rings, unlinked}
use Rattle.rk_rings.proofs.Words.{new_ring, holds, is_held, linked, rings_seen, ring_seen, Ring, empty_ring, is_linked, has_link, with_link, without_link}
use Rattle.rk_rings.proofs.Words.{NewRing}
use Rattle.std.specs.FinMap as map
use Rattle.std.specs.FinSet as set
use Rattle.rk_lemmas.proofs.Options.{is_some-option_map, made_of}
use Rattle.rk_rings.proofs.Finds.{tied, some_entry, entry_found, any_value}
use Rattle.rk_rings.proofs.Counts.{some_key, one_less, contains_key-remove}

map_or : {A B : Type 0} (f : A → B) (p : B → Bool) (t : A → Bool) → ((x : A) → p (f x) ≡ t x) → (o : Option A) →
    option_map_or p (option_map f o) false ≡ option_map_or t o false
map_or f p t h None = refl
map_or f p t h (Some x) = h x

-- ---- the rings by their serials

-- each ring is seen as it is without the numbers
pub get-rings_seen : (m : Rings) (q : ℕ) → map.get (rings_seen m) q ≡ option_map ring_seen (map.get m q)
get-rings_seen m q =
    get_in (list_map (λ e. (e.0, ring_seen e.1)) (map.entries m)) q ∙ find_mapped ring_seen q (map.entries m) ∙
    ap (option_map ring_seen) (sym (map.get-entries m q))

-- the rings that are seen are those that are there
pub contains_key-rings_seen : (m : Rings) (q : ℕ) → map.contains_key (rings_seen m) q ≡ map.contains_key m q
contains_key-rings_seen m q = ap is_some (get-rings_seen m q) ∙ is_some-option_map ring_seen (map.get m q)

same_rings : (m n : map.FinMap nat_cmp Ring) → ((q : ℕ) → map.get m q ≡ map.get n q) → m ≡ n
same_rings m n h = map.same_map nat_cmp_total map.nat_cmp-IsAntisymmetric m n h

-- if there are no rings, none is seen
pub rings_seen-empty : rings_seen map.empty ≡ map.empty
rings_seen-empty = same_rings _ _ (λ q. get-rings_seen map.empty q ∙ ap (option_map ring_seen) (map.get-empty nat_cmp q) ∙ sym (map.get-empty nat_cmp q))

-- a ring that is put in is seen as put in
pub rings_seen-insert : (m : Rings) (k : ℕ) (r : Numbered) → rings_seen (map.insert m k r) ≡ map.insert (rings_seen m) k (ring_seen r)
rings_seen-insert m k r = same_rings _ _ (λ q.
    get-rings_seen (map.insert m k r) q ∙ ap (option_map ring_seen) (map.get-insert nat_cmp_total m k r q)
    ∙ of_choice (option_map ring_seen) (eq_by_cmp nat_cmp q k) (Some r) (map.get m q)
    ∙ ap (cond (eq_by_cmp nat_cmp q k) (Some (ring_seen r))) (sym (get-rings_seen m q))
    ∙ sym (map.get-insert nat_cmp_total (rings_seen m) k (ring_seen r) q))

-- a ring that is removed is seen as removed
pub rings_seen-remove : (m : Rings) (k : ℕ) → rings_seen (map.remove m k) ≡ map.remove (rings_seen m) k
rings_seen-remove m k = same_rings _ _ (λ q.
    get-rings_seen (map.remove m k) q ∙ ap (option_map ring_seen) (map.get-remove nat_cmp_total m k q)
    ∙ of_choice (option_map ring_seen) (eq_by_cmp nat_cmp q k) None (map.get m q) ∙ ap (cond (eq_by_cmp nat_cmp q k) None) (sym (get-rings_seen m q))
    ∙ sym (map.get-remove nat_cmp_total (rings_seen m) k q))

-- a change of one ring is seen as the change that does the same to the ring without numbers
pub rings_seen-changed_at : (k : ℕ) (f : Numbered → Numbered) (g : Ring → Ring) (m : Rings) →
    ((r : Numbered) → map.get m k ≡ Some r → ring_seen (f r) ≡ g (ring_seen r))
    → rings_seen (changed_at k f m) ≡ changed_at k g (rings_seen m)
rings_seen-changed_at k f g m h =
    elim (map.get m k) as (λ o. map.get m k ≡ o →
    rings_seen (option_map_or (λ v. map.insert m k (f v)) o m) ≡ option_map_or (λ v. map.insert (rings_seen m) k (g v)) (option_map ring_seen o)
    (rings_seen m)) [
      | None ↦ λ e. refl
      | Some v ↦ λ e. rings_seen-insert m k (f v) ∙ ap (map.insert (rings_seen m) k) (h v e)
    ] refl ∙ ap (λ o. option_map_or (λ v. map.insert (rings_seen m) k (g v)) o (rings_seen m)) (sym (get-rings_seen m k))

-- ---- what is linked

-- a key is seen in a ring exactly if it has a link
pub contains-ring_seen : (r : Numbered) (k : ℕ) → set.contains (ring_seen r).keys k ≡ map.contains_key r.links k
contains-ring_seen r k = set.contains-from_list nat_cmp_total (map.keys r.links) k ∙ sym (map.contains_key-keys r.links k)

-- a key is seen as linked in a ring exactly if the ring holds it
pub is_linked-rings_seen : (m : Rings) (ring k : ℕ) → is_linked (rings_seen m) ring k ≡ holds m ring k
is_linked-rings_seen m ring k =
    ap (λ o. option_map_or (λ (r : Ring). set.contains r.keys k) o false) (get-rings_seen m ring)
    ∙ map_or ring_seen (λ (r : Ring). set.contains r.keys k) (λ (r : Numbered). map.contains_key r.links k) (λ r. contains-ring_seen r k) (map.get m ring)

-- some ring that is seen passes a test where some ring passes the same
pub any-rings_seen : (p : Ring → Bool) (t : Numbered → Bool) → ((r : Numbered) → p (ring_seen r) ≡ t r) → (m : Rings) →
    list_any p (map.values (rings_seen m)) ≡ list_any t (map.values m)
any-rings_seen p t alike m =
    any_value p (rings_seen m) ∙ same_answer _ _ (λ is.
    let f = entry_found (λ (e : ℕ × Ring). p e.1) (rings_seen m) is in
    let r = made_of ring_seen (map.get m f.0) f.1 (sym (get-rings_seen m f.0) ∙ f.2) in
    some_entry (λ (e : ℕ × Numbered). t e.1) m f.0 r.0 r.1 (sym (alike r.0) ∙ ap p r.2 ∙ f.3)) (λ is.
    let f = entry_found (λ (e : ℕ × Numbered). t e.1) m is in
    some_entry (λ (e : ℕ × Ring). p e.1) (rings_seen m) f.0 (ring_seen f.1) (get-rings_seen m f.0 ∙ ap (option_map ring_seen) f.2) (alike f.1 ∙ f.3))
    ∙ sym (any_value t m)

-- a key is seen as linked somewhere exactly if some ring holds it
pub has_link-rings_seen : (m : Rings) (k : ℕ) → has_link (rings_seen m) k ≡ is_held m k
has_link-rings_seen m k = any-rings_seen (λ (r : Ring). set.contains r.keys k) (λ (r : Numbered). map.contains_key r.links k) (λ r. contains-ring_seen r k) m

-- ---- changes of one ring

same_keys : (s t : set.FinSet nat_cmp) → ((q : ℕ) → set.contains s q ≡ set.contains t q) → s ≡ t
same_keys s t h = set.same_set nat_cmp_total set.nat_cmp-IsAntisymmetric s t h

-- unlinking a key is seen as taking its link away
pub ring_seen-unlinked : (k : ℕ) (r : Numbered) → ring_seen (unlinked k r) ≡ without_link k (ring_seen r)
ring_seen-unlinked k r =
    ap (λ s. record { kind = r.kind; uid = r.uid; keys = s }) (same_keys (ring_seen (unlinked k r)).keys (set.remove (ring_seen r).keys k) (λ q.
    contains-ring_seen (unlinked k r) q ∙ contains_key-remove r.links k q
    ∙ ap (λ b. not (eq_by_cmp nat_cmp q k) && b) (sym (contains-ring_seen r q)) ∙ sym (set.contains-remove nat_cmp_total (ring_seen r).keys k q)))

no_keys : (r : Numbered) → r.links ≡ map.empty → (ring_seen r).keys ≡ set.empty
no_keys r e = same_keys _ _ (λ q. contains-ring_seen r q ∙ ap (λ m. map.contains_key m q) e ∙ ap is_some (map.get-empty nat_cmp q) ∙
    sym (set.contains-empty nat_cmp q))

-- a new ring is seen as an empty one of its kind and user
pub ring_seen-new_ring : (w : NewRing) → ring_seen (new_ring w) ≡ empty_ring w.kind w.uid
ring_seen-new_ring w = ap (λ s. record { kind = w.kind; uid = w.uid; keys = s }) (no_keys (new_ring w) refl)

-- which keys give way to k, whose name has the number n
abbrev pub GivesWay : (ℕ → Bool) → ℕ → ℕ → Numbered → Type 0
GivesWay gives_way k n r = (gives_way k ≡ false) × ((j m : ℕ) → map.get r.links j ≡ Some m → (j ≡ k → ⊥) → gives_way j ≡ nat_eq m n)

stays : (p : ℕ → Bool) (o : Option ℕ) (w : Bool) → ((m : ℕ) → o ≡ Some m → w ≡ p m) →
    is_some (cond (option_map_or (λ m. not (p m)) o false) o None) ≡ (is_some o && not w)
stays p None w h = refl
stays p (Some m) w h = ap (λ b. is_some (cond (not b) (Some m) None)) (sym (h m refl)) ∙
    elim w as (λ b. is_some (cond (not b) (Some m) None) ≡ not b) [ true ↦ refl | false ↦ refl ]

there_or : {A : Type 0} (b : Bool) (v : A) (o : Option A) → is_some (cond b (Some v) o) ≡ (b || is_some o)
there_or true v o = refl
there_or false v o = refl

new_links : (gives_way : ℕ → Bool) (k n : ℕ) (r : Numbered) → GivesWay gives_way k n r → (q : ℕ)
    → map.contains_key (map.insert (kept_where (λ j m. not (nat_eq m n)) r.links) k n)
    q ≡ ((eq_by_cmp nat_cmp q k || map.contains_key r.links q) && not (gives_way q))
new_links gives_way k n r h q =
    ap is_some (map.get-insert nat_cmp_total (kept_where (λ j m. not (nat_eq m n)) r.links) k n q)
    ∙ there_or (eq_by_cmp nat_cmp q k) n (map.get (kept_where (λ j m. not (nat_eq m n)) r.links) q)
    ∙ elim (eq_by_cmp nat_cmp q k) as (λ b. eq_by_cmp nat_cmp q k ≡ b →
    (b || map.contains_key (kept_where (λ j m. not (nat_eq m n)) r.links) q) ≡ ((b || map.contains_key r.links q) && not (gives_way q))) [
      | true ↦ λ t. sym (ap not (ap gives_way (tied q k t) ∙ h.0))
      | false ↦ λ t.
          ap is_some (get_kept_where (λ j m. not (nat_eq m n)) r.links q)
          ∙ stays (λ m. nat_eq m n) (map.get r.links q) (gives_way q) (λ m there. h.1 q m there (λ same. both_ways _ t (tie q k ∙ eq-eqb k q (sym same))))
    ] refl

-- linking a key is seen as putting its link in the place of those that give way
pub ring_seen-linked : (gives_way : ℕ → Bool) (k n : ℕ) (r : Numbered) → GivesWay gives_way k n r →
    ring_seen (linked k n r) ≡ with_link gives_way k (ring_seen r)
ring_seen-linked gives_way k n r h =
    let s : set.FinSet nat_cmp = (ring_seen r).keys in
    let m : map.FinMap nat_cmp ℕ = map.insert (kept_where (λ j m. not (nat_eq m n)) r.links) k n in
    ap (λ s. record { kind = r.kind; uid = r.uid; keys = s }) (
    elim (map.contains_key r.links k) as (λ b. set.from_list (map.keys (cond b r.links m)) ≡ cond b s (set.retain (set.insert s k) (λ j. not (gives_way j)))) [
      | true ↦ refl
      | false ↦ same_keys _ _ (λ q.
          contains-ring_seen (record r { links = m }) q ∙ new_links gives_way k n r h q
          ∙ ap (λ b. (eq_by_cmp nat_cmp q k || b) && not (gives_way q)) (sym (contains-ring_seen r q))
          ∙ ap (λ b. b && not (gives_way q)) (sym (set.contains-insert nat_cmp_total s k q))
          ∙ sym (set.contains-retain (set.insert s k) (λ j. not (gives_way j)) q
          (λ x t. ap (λ j. not (gives_way j)) (sym (set.nat_cmp-IsAntisymmetric q x t)))))
    ] ∙ ap (λ b. cond b s (set.retain (set.insert s k) (λ j. not (gives_way j)))) (sym (contains-ring_seen r k))
    )

-- ---- how many links

as_many : (n : ℕ) (m : map.FinMap nat_cmp ℕ) (s : set.FinSet nat_cmp) → map.len m ≡ n → ((q : ℕ) → set.contains s q ≡ map.contains_key m q) → set.len s ≡ n
as_many zero m s e h =
    ap set.len (same_keys s set.empty (λ q. h q ∙ ap (λ x. map.contains_key x q) (map.empty_of_len m e) ∙ ap is_some (map.get-empty nat_cmp q) ∙
    sym (set.contains-empty nat_cmp q))) ∙ set.len-empty nat_cmp
as_many (suc n) m s e h =
    let k = some_key m (omega (arith, e)) in
    let one : set.len (set.remove s k.0) ≡ set.len s - 1 = set.len-remove nat_cmp_total s k.0 ∙ ap (λ b. cond b (set.len s - 1) (set.len s)) (h k.0 ∙ k.1) in
    let rest : set.len (set.remove s k.0) ≡ n =
    as_many n (map.remove m k.0) (set.remove s k.0) (omega (arith, one_less m k.0 k.1, e)) (λ q.
    set.contains-remove nat_cmp_total s k.0 q ∙ ap (λ b. not (eq_by_cmp nat_cmp q k.0) && b) (h q) ∙ sym (contains_key-remove m k.0 q)) in
    omega (arith, one, rest, set_not_empty s k.0 (set.len s) (h k.0 ∙ k.1) refl)

-- a ring has as many links as keys that are seen
pub len-ring_seen : (r : Numbered) → set.len (ring_seen r).keys ≡ map.len r.links
len-ring_seen r = as_many (map.len r.links) r.links (ring_seen r).keys refl (contains-ring_seen r)
