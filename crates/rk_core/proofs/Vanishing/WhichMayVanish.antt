-- Which keys may vanish after a change of the world.
use Rattle.rk_core.proofs.Words.{◌≡◌, ℕ, Bool, true, false, cond, not, ◌&&◌, ◌||◌, refl, sym, ap, ◌∙◌, Option, Some, None, nat_eq, option_map, unwrap_or}
use Rattle.rk_core.proofs.Words.{is_some, nat_cmp_total, both_ways, nat_eq_equiv, changed_at, Condition, key_passes, is_building, is_rival, concluded, unspent}
use Rattle.rk_core.proofs.Words.{Ring, is_linked, has_link, without_links, World, tidied, linked_in, unlinked_in, cleared_in, completed, ended, keys_ended}
use Rattle.rk_core.proofs.Words.{expiry_after, stays, StayBut, vanished_at, without_ring, rival_in, get_changed_at, get_removed, option_map_or, eqb-true, tie, with_link, Key, has_name}
use Rattle.std.specs.FinMap as map
use Rattle.std.specs.FinSet as set
use Rattle.rk_core.proofs.LinksAndNames.LinksAfter.{tied_itself, has_key, link_somewhere, links_kept, stays_linked, stays_unlinked, cleared_alike}
use Rattle.rk_core.proofs.Vanishing.OneByOne.{same_keys, get_tidied, one_settles, stays_by}

-- ---- what a key's staying rests on

or_cases : {P : Type 0} (a b : Bool) → (a || b) ≡ true → (a ≡ true → P) → (b ≡ true → P) → P
or_cases true b h f g = f refl
or_cases false b h f g = g h

or_left : (a b : Bool) → a ≡ true → (a || b) ≡ true
or_left a b h = ap (λ x. x || b) h

or_right : (a b : Bool) → b ≡ true → (a || b) ≡ true
or_right true b h = refl
or_right false b h = h

-- a key stays that keeps a link, or its condition
pub still_stays : (old new : World) (k : ℕ) → (has_link old.rings k ≡ true → has_link new.rings k ≡ true) → map.get new.keys k ≡ map.get old.keys k
    → stays old k ≡ true → stays new k ≡ true
still_stays old new k links keys h =
    or_cases (has_link old.rings k) (key_passes old.keys k is_building) h
    (λ a. or_left (has_link new.rings k) (key_passes new.keys k is_building) (links a))
    (λ b. or_right (has_link new.rings k) (key_passes new.keys k is_building) (ap (λ o. unwrap_or (option_map is_building o) false) keys ∙ b))

-- ---- a link is put in

and_true : (a b c : Bool) → ((not a && b) && c) ≡ false → a ≡ false → b ≡ true → c ≡ false
and_true a b c h na tb = sym (ap (λ x. (not x && true) && c) na) ∙ ap (λ x. (not a && x) && c) (sym tb) ∙ h

-- those that do not give way stay
pub link_stay : (w : World) (ring : Option ℕ) (k : ℕ) (rival : ℕ → Bool) → ((j : ℕ) → rival_in w ring k j ≡ rival j) → StayBut (λ j. nat_eq j k) w
    → StayBut (λ j. rival j || nat_eq j k) (linked_in ring k w)
link_stay w None k rival is h = λ j key there other. h j key there (second (rival j) (nat_eq j k) other)
  where
    second : (a b : Bool) → (a || b) ≡ false → b ≡ false
    second true b h = absurd (both_ways _ h refl)
    second false b h = h
link_stay w (Some ring) k rival is h = λ j key there other.
    still_stays w (linked_in (Some ring) k w) j
    (links_kept w.rings (linked_in (Some ring) k w).rings j (λ q. stays_linked w.rings ring (is_rival w.keys k) k q j
    (and_true (is_linked w.rings ring k) (is_linked w.rings ring j) (is_rival w.keys k j) (is j ∙ first (rival j) (nat_eq j k) other))))
    refl (h j key there (second (rival j) (nat_eq j k) other))
  where
    first : (a b : Bool) → (a || b) ≡ false → a ≡ false
    first true b h = h
    first false b h = refl

    second : (a b : Bool) → (a || b) ≡ false → b ≡ false
    second true b h = absurd (both_ways _ h refl)
    second false b h = h

-- a key for which another gives way is linked then
linked_instead : (w : World) (ring k r : ℕ) → rival_in w (Some ring) k r ≡ true → has_link (linked_in (Some ring) k w).rings k ≡ true
linked_instead w ring k r gives = link_somewhere (linked_in (Some ring) k w).rings ring k (by_ring (map.get w.rings ring) refl)
  where
    not_its_own : is_rival w.keys k k ≡ false
    not_its_own = ap (λ b. not b && key_passes w.keys k (λ key. has_name w.keys k key.typ key.description)) (tied_itself k)

    change : Ring → Ring
    change = with_link (is_rival w.keys k) k

    put : (x : Ring) → set.contains (change x).keys k ≡ true
    put x = elim (set.contains x.keys k) as (λ b. set.contains x.keys k ≡ b
        → set.contains (cond b x.keys (set.retain (set.insert x.keys k) (λ i. not (is_rival w.keys k i)))) k ≡ true) [
          | true ↦ λ there. there
          | false ↦ λ _.
              set.contains-retain (set.insert x.keys k) (λ i. not (is_rival w.keys k i)) k
              (λ y t. ap (λ i. not (is_rival w.keys k i)) (sym (set.nat_cmp-IsAntisymmetric k y t)))
              ∙ (λ i. set.contains-insert nat_cmp_total x.keys k k i && not (not_its_own i))
              ∙ ap (λ b. (b || set.contains x.keys k) && not false) (tie k k ∙ tied_itself k)
        ] refl

    its_ring : (a b c : Bool) → ((not a && b) && c) ≡ true → b ≡ true
    its_ring a true c h = refl
    its_ring true false c h = absurd (both_ways _ refl h)
    its_ring false false c h = absurd (both_ways _ refl h)

    by_ring : (o : Option Ring) → map.get w.rings ring ≡ o → is_linked (linked_in (Some ring) k w).rings ring k ≡ true
    by_ring None is =
        absurd (both_ways _ (ap (has_key r) is) (its_ring (is_linked w.rings ring k) (is_linked w.rings ring r) (is_rival w.keys k r) gives))
    by_ring (Some x) is =
        ap (has_key k) (get_changed_at ring change w.rings ring
        ∙ ap (λ b. cond b (option_map change (map.get w.rings ring)) (map.get w.rings ring)) (tied_itself ring) ∙ ap (option_map change) is)
        ∙ put x

-- after a key is linked, only the key that gave way may vanish, or else the key itself
pub link_tidies : (w : World) (ring k : ℕ) (rival : Option ℕ) → ((j : ℕ) → rival_in w (Some ring) k j ≡ option_map_or (λ r. nat_eq j r) rival false)
    → StayBut (λ j. nat_eq j k) w
    → vanished_at (unwrap_or rival k) (linked_in (Some ring) k w) ≡ tidied (linked_in (Some ring) k w)
link_tidies w ring k None is h = one_settles (linked_in (Some ring) k w) k (link_stay w (Some ring) k (λ _. false) is h)
link_tidies w ring k (Some r) is h = one_settles (linked_in (Some ring) k w) r (λ j key there other. by_key j key there other (nat_eq j k) refl)
  where
    its : stays (linked_in (Some ring) k w) k ≡ true
    its = or_left (has_link (linked_in (Some ring) k w).rings k) (key_passes w.keys k is_building) (linked_instead w ring k r (is r ∙ tied_itself r))

    by_key : (j : ℕ) (key : Key) → map.get w.keys j ≡ Some key → nat_eq j r ≡ false → (b : Bool) → nat_eq j k ≡ b
        → stays (linked_in (Some ring) k w) j ≡ true
    by_key j key there other true same = ap (stays (linked_in (Some ring) k w)) (eqb-true j k same) ∙ its
    by_key j key there other false ne = link_stay w (Some ring) k (λ i. nat_eq i r) is h j key there (λ i. other i || ne i)

-- ---- a link is taken out

unlink_stay : (w : World) (ring k : ℕ) → StayBut (λ j. false) w → StayBut (λ j. nat_eq j k) (unlinked_in (Some ring) k w)
unlink_stay w ring k h = λ j key there other.
    still_stays w (unlinked_in (Some ring) k w) j
    (links_kept w.rings (unlinked_in (Some ring) k w).rings j (λ q. stays_unlinked w.rings ring k q j (nat_eq_equiv.symm k j ∙ other))) refl
    (h j key there refl)

-- after a key is unlinked, only that key may vanish
pub unlink_tidies : (w : World) (ring k : ℕ) → StayBut (λ j. false) w → vanished_at k (unlinked_in (Some ring) k w) ≡ tidied (unlinked_in (Some ring) k w)
unlink_tidies w ring k h = one_settles (unlinked_in (Some ring) k w) k (unlink_stay w ring k h)

-- ---- a key is completed, or its construction ends

-- another key is as before
pub other_key : (w : World) (now k : ℕ) (condition : Condition) (j : ℕ) → nat_eq j k ≡ false → map.get (keys_ended now k condition w) j ≡ map.get w.keys j
other_key w now k condition j other = by_unspent (is_some (unspent w.sessions k))
  where
    by_unspent : (b : Bool) → map.get (cond b (changed_at k (concluded condition (expiry_after condition now w.negative)) w.keys) w.keys) j ≡ map.get w.keys j
    by_unspent true =
        get_changed_at k (concluded condition (expiry_after condition now w.negative)) w.keys j
        ∙ ap (λ b. cond b (option_map (concluded condition (expiry_after condition now w.negative)) (map.get w.keys j)) (map.get w.keys j))
        (nat_eq_equiv.symm k j ∙ other)
    by_unspent false = refl

-- after a key's handler ends, only that key may vanish
pub end_tidies : (w : World) (now k : ℕ) (condition : Condition) → StayBut (λ j. false) w
    → vanished_at k (ended now k condition w) ≡ tidied (ended now k condition w)
end_tidies w now k condition h =
    one_settles (ended now k condition w) k (λ j key there other.
    let same : map.get (ended now k condition w).keys j ≡ map.get w.keys j = other_key w now k condition j other in
    stays_by (ended now k condition w) w j refl same ∙ h j key (sym same ∙ there) refl)

-- where every key but some stays, they may vanish after k is completed, and k
pub completed_stay : (w : World) (now k : ℕ) (condition : Condition) (end : Option ℕ) (some : ℕ → Bool) → StayBut (λ j. some j || nat_eq j k) w
    → StayBut (λ j. some j || nat_eq j k) (completed now k condition end w)
completed_stay w now k condition end some h = λ j key there other.
    let same : map.get (completed now k condition end w).keys j ≡ map.get w.keys j =
    get_changed_at k (concluded condition end) w.keys j ∙ ap (λ b. cond b (option_map (concluded condition end) (map.get w.keys j)) (map.get w.keys j))
    (nat_eq_equiv.symm k j ∙ second (some j) (nat_eq j k) other) in
    stays_by (completed now k condition end w) w j refl same ∙ h j key (sym same ∙ there) other
  where
    second : (a b : Bool) → (a || b) ≡ false → b ≡ false
    second true b h = absurd (both_ways _ h refl)
    second false b h = h

-- ---- a ring is dropped

-- a ring may be cleared and tidied before it is dropped
pub drop_tidies : (w : World) (ring : ℕ) → without_ring ring (tidied (cleared_in (Some ring) w)) ≡ tidied (without_ring ring w)
drop_tidies w ring = λ i. record w { keys = keys i; rings = rings i }
  where
    keys : (tidied (cleared_in (Some ring) w)).keys ≡ (tidied (without_ring ring w)).keys
    keys = same_keys (tidied (cleared_in (Some ring) w)).keys (tidied (without_ring ring w)).keys (λ q.
        get_tidied (cleared_in (Some ring) w) q ∙ ap (λ b. cond (b || key_passes w.keys q is_building) (map.get w.keys q) None) (cleared_alike w.rings ring q)
        ∙ sym (get_tidied (without_ring ring w) q))

    rings : map.remove (changed_at ring without_links w.rings) ring ≡ map.remove w.rings ring
    rings = map.same_map nat_cmp_total map.nat_cmp-IsAntisymmetric _ _ (λ q.
        get_removed (changed_at ring without_links w.rings) ring q
        ∙ ap (cond (nat_eq ring q) None) (get_changed_at ring without_links w.rings q)
        ∙ by_ring (nat_eq ring q) (map.get w.rings q)
        ∙ sym (get_removed w.rings ring q))
      where
        by_ring : (b : Bool) (o : Option Ring) → cond b None (cond b (option_map without_links o) o) ≡ cond b None o
        by_ring true o = refl
        by_ring false o = refl
