-- The one key of a name in a ring, found by the number of the name.
use Rattle.rk_core.proofs.Words.{◌≡◌, ℕ, Bool, true, false, ◌&&◌, refl, sym, ap, ◌∙◌, Option, Some, None, nat_eq, option_map, unwrap_or, option_map_or}
use Rattle.rk_core.proofs.Words.{eqb-true, eq-eqb, ne_eqb, both_ways, Key, Standing, standing_of, key_passes, has_name, is_named, Known, IsNaming, is_linked}
use Rattle.rk_core.proofs.Words.{Numbered, Rings, rings_seen, IsMatch, NumbersAgree, World, Query, answers, matched, IsSole, Match}
use Rattle.std.specs.FinMap as map
use Rattle.rk_core.proofs.LinksAndNames.KeysOfAName.{IsNameOf, key_of}
use Rattle.rk_core.proofs.LinksAndNames.LinksByNumber.{linked_is, not_linked, last_false}

module _ (known : Known) (rings : Rings) (q : Query) (naming : IsNaming known.keys known.numbers) (kept : NumbersAgree known rings) where
  abbrev passes : (Standing → Bool) → ℕ → Bool
  passes p k = key_passes known.keys k (answers q p)

  -- what a key passes goes by its number
  passes_by : (n : ℕ) → IsNameOf known q.typ q.description (Some n) → (p : Standing → Bool) (k m : ℕ) (key : Key) → map.get known.numbers k ≡ Some m
      → map.get known.keys k ≡ Some key
      → passes p k ≡ (nat_eq m n && p (standing_of key q.now))
  passes_by n names p k m key number is =
      ap (λ o. unwrap_or (option_map (answers q p) o) false) is
      ∙ ap (λ b. b && p (standing_of key q.now)) (sym (ap (λ o. unwrap_or (option_map (is_named q.typ q.description) o) false) is) ∙ names k m number)

  no_name : ((k : ℕ) → has_name known.keys k q.typ q.description ≡ false) → (p : Standing → Bool) (k : ℕ) → passes p k ≡ false
  no_name none p k = by_key (map.get known.keys k) (none k)
    where
      by_key : (o : Option Key) → unwrap_or (option_map (is_named q.typ q.description) o) false ≡ false → unwrap_or (option_map (answers q p) o) false ≡ false
      by_key None h = refl
      by_key (Some key) h = ap (λ b. b && p (standing_of key q.now)) h

  module _ (w : World) (keys : known.keys ≡ w.keys) (seen : rings_seen rings ≡ w.rings) where
    to_world : (p : Standing → Bool) (ring k : ℕ) → (is_linked w.rings ring k && key_passes w.keys k (answers q p))
        ≡ (is_linked (rings_seen rings) ring k && passes p k)
    to_world p ring k = λ i. is_linked (sym seen i) ring k && key_passes (sym keys i) k (answers q p)

    -- no key has the name
    pub none_sole : ((k : ℕ) → has_name known.keys k q.typ q.description ≡ false) → (ring : Option ℕ) → IsSole w q ring None
    none_sole none None = refl
    none_sole none (Some ring) = λ p k. to_world p ring k ∙ last_false (is_linked (rings_seen rings) ring k) (passes p k) (no_name none p k)

    found_at : (n : ℕ) → IsNameOf known q.typ q.description (Some n) → (ring f : ℕ) (r : Numbered) → map.get rings ring ≡ Some r → map.get r.links f ≡ Some n
        → ((j : ℕ) → map.get r.links j ≡ Some n → j ≡ f)
        → (kf : Key) → map.get known.keys f ≡ Some kf → (p : Standing → Bool) (k : ℕ)
        → (is_linked (rings_seen rings) ring k && passes p k) ≡ (nat_eq k f && p (standing_of kf q.now))
    found_at n names ring f r there match sole kf is p k = by_link (map.get r.links k) refl
      where
        by_key : (b : Bool) → nat_eq k f ≡ b → (m : ℕ) → map.get r.links k ≡ Some m → (key : Key) → map.get known.keys k ≡ Some key
            → (nat_eq m n && p (standing_of key q.now)) ≡ (b && p (standing_of kf q.now))
        by_key true t m link key there_is =
            let e : k ≡ f = eqb-true k f t in
            let same : Some m ≡ Some n = sym link ∙ ap (map.get r.links) e ∙ match in
            let mn : m ≡ n = cc in
            let keys_same : Some key ≡ Some kf = sym there_is ∙ ap (map.get known.keys) e ∙ is in
            let one : key ≡ kf = cc in
            λ i. (ap (λ x. nat_eq x n) mn ∙ eq-eqb n n refl) i && p (standing_of (one i) q.now)
        by_key false t m link key there_is =
            ap (λ b. b && p (standing_of key q.now)) (ne_eqb m n (λ e. both_ways _ t (eq-eqb k f (sole k (link ∙ ap (λ (x : ℕ). Some x) e)))))

        by_link : (o : Option ℕ) → map.get r.links k ≡ o → (is_linked (rings_seen rings) ring k && passes p k) ≡ (nat_eq k f && p (standing_of kf q.now))
        by_link None link =
            ap (λ b. b && passes p k) (linked_is rings ring k r None there link)
            ∙ ap (λ b. b && p (standing_of kf q.now)) (sym (ne_eqb k f
            (λ e. let no : None ≡ Some n = sym link ∙ ap (map.get r.links) e ∙ match in absurd (cc))))
        by_link (Some m) link =
            let number : map.get known.numbers k ≡ Some m = kept.numbered ring k m r there link in
            let key = key_of known k m naming number in
            (λ i. linked_is rings ring k r (Some m) there link i && passes_by n names p k m key.0 number key.1 i) ∙ by_key (nat_eq k f) refl m link key.0 key.1

    -- what is found by the number is the one key of the name
    pub found_sole : (n : ℕ) → IsNameOf known q.typ q.description (Some n) → (ring found : Option ℕ) → IsMatch rings n ring found
        → IsSole w q ring (matched known q.now found)
    found_sole n names None found h = ap (matched known q.now) h
    found_sole n names (Some ring) (Some f) h =
        let number : map.get known.numbers f ≡ Some n = kept.numbered ring f n h.0 h.1 h.2 in
        let kf = key_of known f n naming number in
        λ p k.
        to_world p ring k ∙ found_at n names ring f h.0 h.1 h.2 h.3 kf.0 kf.1 p k
        ∙ ap (λ o. option_map_or (λ (one : Match). nat_eq k one.key && p one.standing)
        (option_map (λ (key : Key). record { key = f; standing = standing_of key q.now }) o) false) (sym kf.1)
    found_sole n names (Some ring) None h = λ p k. to_world p ring k ∙ by_ring p k (map.get rings ring) refl
      where
        by_link : (p : Standing → Bool) (k : ℕ) (r : Numbered) → map.get rings ring ≡ Some r → (o : Option ℕ) → map.get r.links k ≡ o
            → (is_linked (rings_seen rings) ring k && passes p k) ≡ false
        by_link p k r there None link = ap (λ b. b && passes p k) (linked_is rings ring k r None there link)
        by_link p k r there (Some m) link =
            let number : map.get known.numbers k ≡ Some m = kept.numbered ring k m r there link in
            let key = key_of known k m naming number in
            last_false (is_linked (rings_seen rings) ring k) (passes p k)
            (passes_by n names p k m key.0 number key.1 ∙ ap (λ b. b && p (standing_of key.0 q.now))
            (ne_eqb m n (λ e. h r there k (link ∙ ap (λ (x : ℕ). Some x) e))))

        by_ring : (p : Standing → Bool) (k : ℕ) (o : Option Numbered) → map.get rings ring ≡ o → (is_linked (rings_seen rings) ring k && passes p k) ≡ false
        by_ring p k None none = ap (λ b. b && passes p k) (not_linked rings ring k none)
        by_ring p k (Some r) there = by_link p k r there (map.get r.links k) refl
