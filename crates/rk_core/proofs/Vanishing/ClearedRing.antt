-- A ring is cleared link by link.
use Rattle.rk_core.proofs.Words.{◌≡◌, ℕ, zero, suc, Bool, true, false, cond, ◌-◌, ◌<◌, refl, sym, ap, ◌∙◌, arith, Option, Some, None, nat_eq, option_map}
use Rattle.rk_core.proofs.Words.{option_map_or, nat_cmp, nat_cmp_total, eqb-true, both_ways, changed_at, Key, Ring, is_linked, without_link, without_links}
use Rattle.rk_core.proofs.Words.{World, tidied, unlinked_in, cleared_in, stays, StayBut, get_changed_at}
use Rattle.std.specs.FinMap as map
use Rattle.std.specs.FinSet as set
use Rattle.rk_core.proofs.LinksAndNames.LinksAfter.{links_kept, has_key, tied_itself}
use Rattle.rk_core.proofs.Vanishing.OneByOne.{same_keys, get_tidied, all_stay, stays_by}
use Rattle.rk_core.proofs.Vanishing.WhichMayVanish.{still_stays}

-- ---- tidy again

some_kept : (b : Bool) (o : Option Key) (key : Key) → cond b o None ≡ Some key → (b ≡ true) × (o ≡ Some key)
some_kept true o key e = (refl, e)
some_kept false o key e = absurd (cc)

-- in a tidied world every key stays
pub tidied_stay : (w : World) → StayBut (λ j. false) (tidied w)
tidied_stay w k key there _ =
    let kept = some_kept (stays w k) (map.get w.keys k) key (sym (get_tidied w k) ∙ there) in
    stays_by (tidied w) w k refl (there ∙ sym kept.1) ∙ kept.0

-- ---- links go

no_link_more : (w : World) (ring q k : ℕ) → is_linked (cleared_in (Some ring) w).rings q k ≡ true → is_linked w.rings q k ≡ true
no_link_more w ring q k h = by_ring (nat_eq ring q) (map.get w.rings q) (sym (ap (has_key k) (get_changed_at ring without_links w.rings q)) ∙ h)
  where
    by_ring : (b : Bool) (o : Option Ring) → has_key k (cond b (option_map without_links o) o) ≡ true → has_key k o ≡ true
    by_ring true None h = h
    by_ring true (Some r) h = absurd (both_ways _ (set.contains-empty nat_cmp k) h)
    by_ring false o h = h

stays_uncleared : (w : World) (ring k : ℕ) → stays (cleared_in (Some ring) w) k ≡ true → stays w k ≡ true
stays_uncleared w ring k h =
    still_stays (cleared_in (Some ring) w) w k (links_kept (cleared_in (Some ring) w).rings w.rings k (λ q. no_link_more w ring q k)) refl h

none_or_none : (b : Bool) → ◌≡◌ {A = Option Key} (cond b None None) None
none_or_none true = refl
none_or_none false = refl

not_stays : (w : World) (ring k : ℕ) → stays w k ≡ false → stays (cleared_in (Some ring) w) k ≡ false
not_stays w ring k h = by_test (stays (cleared_in (Some ring) w) k) refl
  where
    by_test : (b : Bool) → stays (cleared_in (Some ring) w) k ≡ b → stays (cleared_in (Some ring) w) k ≡ false
    by_test true t = absurd (both_ways _ h (stays_uncleared w ring k t))
    by_test false t = t

-- what vanished before vanishes all the same
cleared_tidied : (w : World) (ring : ℕ) → tidied (cleared_in (Some ring) (tidied w)) ≡ tidied (cleared_in (Some ring) w)
cleared_tidied w ring = λ i. record (cleared_in (Some ring) w) {
  keys = same_keys (tidied (cleared_in (Some ring) (tidied w))).keys (tidied (cleared_in (Some ring) w)).keys (λ q.
      get_tidied (cleared_in (Some ring) (tidied w)) q ∙ by_test q (stays w q) refl ∙ sym (get_tidied (cleared_in (Some ring) w) q)) i;
}
  where
    by_test : (q : ℕ) (b : Bool) → stays w q ≡ b → cond (stays (cleared_in (Some ring) (tidied w)) q) (map.get (tidied w).keys q) None
        ≡ cond (stays (cleared_in (Some ring) w) q) (map.get w.keys q) None
    by_test q true t =
        let same : map.get (tidied w).keys q ≡ map.get w.keys q = get_tidied w q ∙ ap (λ b. cond b (map.get w.keys q) None) t in
        λ i. cond (stays_by (cleared_in (Some ring) (tidied w)) (cleared_in (Some ring) w) q refl same i) (same i) None
    by_test q false t =
        ap (λ o. cond (stays (cleared_in (Some ring) (tidied w)) q) o None) (get_tidied w q ∙ ap (λ b. cond b (map.get w.keys q) None) t)
        ∙ none_or_none (stays (cleared_in (Some ring) (tidied w)) q)
        ∙ ap (λ b. cond b (map.get w.keys q) None) (sym (not_stays w ring q t))

-- a link that goes first goes all the same
cleared_unlinked : (w : World) (ring k : ℕ) → cleared_in (Some ring) (unlinked_in (Some ring) k w) ≡ cleared_in (Some ring) w
cleared_unlinked w ring k = λ i. record w {
  rings =
      map.same_map nat_cmp_total map.nat_cmp-IsAntisymmetric (changed_at ring without_links (changed_at ring (without_link k) w.rings))
      (changed_at ring without_links w.rings) (λ q.
      get_changed_at ring without_links (changed_at ring (without_link k) w.rings) q
      ∙ ap (λ o. cond (nat_eq ring q) (option_map without_links o) o) (get_changed_at ring (without_link k) w.rings q)
      ∙ by_ring (nat_eq ring q) (map.get w.rings q)
      ∙ sym (get_changed_at ring without_links w.rings q)) i;
}
  where
    by_ring : (b : Bool) (o : Option Ring)
        → cond b (option_map without_links (cond b (option_map (without_link k) o) o)) (cond b (option_map (without_link k) o) o)
        ≡ cond b (option_map without_links o) o
    by_ring true None = refl
    by_ring true (Some r) = refl
    by_ring false o = refl

-- unlinking one key leaves the world to which clearing the ring leads
pub still_to_clear : (w new : World) (ring k : ℕ) → new ≡ tidied (unlinked_in (Some ring) k w)
    → tidied (cleared_in (Some ring) new) ≡ tidied (cleared_in (Some ring) w)
still_to_clear w new ring k e =
    ap (λ (v : World). tidied (cleared_in (Some ring) v)) e ∙ cleared_tidied (unlinked_in (Some ring) k w) ring ∙ ap tidied (cleared_unlinked w ring k)

-- ---- how many are left

abbrev pub links_of : World → ℕ → ℕ
links_of w ring = option_map_or (λ (r : Ring). set.len r.keys) (map.get w.rings ring) 0

not_empty : (s : set.FinSet nat_cmp) (k n : ℕ) → set.contains s k ≡ true → set.len s ≡ n → 0 < n
not_empty s k zero h e = absurd (both_ways _ (ap (λ t. set.contains t k) (set.empty_of_len s e) ∙ set.contains-empty nat_cmp k) h)
not_empty s k (suc n) h e = omega arith

-- unlinking a linked key leaves fewer links in the ring
pub fewer_links : (w new : World) (ring k : ℕ) → is_linked w.rings ring k ≡ true → new ≡ tidied (unlinked_in (Some ring) k w)
    → links_of new ring < links_of w ring
fewer_links w new ring k h e = by_ring (map.get w.rings ring) refl h
  where
    by_ring : (o : Option Ring) → map.get w.rings ring ≡ o → has_key k o ≡ true → links_of new ring < links_of w ring
    by_ring None is h = absurd (both_ways false refl h)
    by_ring (Some r) is h =
        let after : map.get new.rings ring ≡ Some (without_link k r) =
        ap (λ (v : World). map.get v.rings ring) e ∙ get_changed_at ring (without_link k) w.rings ring
        ∙ ap (λ b. cond b (option_map (without_link k) (map.get w.rings ring)) (map.get w.rings ring)) (tied_itself ring)
        ∙ ap (option_map (without_link k)) is in
        let now : links_of new ring ≡ set.len r.keys - 1 =
        ap (λ o. option_map_or (λ (x : Ring). set.len x.keys) o 0) after ∙ set.len-remove nat_cmp_total r.keys k
        ∙ ap (λ b. cond b (set.len r.keys - 1) (set.len r.keys)) h in
        let before : links_of w ring ≡ set.len r.keys = ap (λ o. option_map_or (λ (x : Ring). set.len x.keys) o 0) is in
        omega (arith, now, before, not_empty r.keys k (set.len r.keys) h refl)

-- ---- none is left

cleared_now : (w : World) (ring : ℕ) → ((k : ℕ) → is_linked w.rings ring k ≡ false) → cleared_in (Some ring) w ≡ w
cleared_now w ring none = λ i. record w {
  rings =
      map.same_map nat_cmp_total map.nat_cmp-IsAntisymmetric (changed_at ring without_links w.rings) w.rings
      (λ q. get_changed_at ring without_links w.rings q ∙ by_ring q (nat_eq ring q) refl (map.get w.rings q) refl) i;
}
  where
    by_ring : (q : ℕ) (b : Bool) → nat_eq ring q ≡ b → (o : Option Ring) → map.get w.rings q ≡ o → cond b (option_map without_links o) o ≡ o
    by_ring q false t o is = refl
    by_ring q true t None is = refl
    by_ring q true t (Some r) is =
        let here : map.get w.rings ring ≡ Some r = ap (map.get w.rings) (eqb-true ring q t) ∙ is in
        ap (λ s. Some (record r { keys = s })) (set.same_set nat_cmp_total set.nat_cmp-IsAntisymmetric set.empty r.keys
        (λ k. set.contains-empty nat_cmp k ∙ sym (sym (ap (has_key k) here) ∙ none k)))

-- a ring without any link is cleared
pub all_cleared : (w first : World) (ring : ℕ) → StayBut (λ j. false) w → ((k : ℕ) → is_linked w.rings ring k ≡ false)
    → tidied (cleared_in (Some ring) w) ≡ tidied (cleared_in (Some ring) first)
    → w ≡ tidied (cleared_in (Some ring) first)
all_cleared w first ring tidy none same = sym (all_stay w tidy) ∙ ap tidied (sym (cleared_now w ring none)) ∙ same
