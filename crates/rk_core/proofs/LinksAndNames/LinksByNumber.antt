-- Links by the numbers of names, as the world sees them.
use Rattle.rk_core.proofs.Words.{◌≡◌, ◌⊎◌, ℕ, Bool, true, false, cond, not, ◌&&◌, ◌||◌, List, [], ◌∷◌, refl, sym, ap, ◌∙◌, inl, inr, ⊤, Option, Some, None}
use Rattle.rk_core.proofs.Words.{Result, Ok, Err, OnOk, OnErr, IfErr, nat_eq, nat_le, option_map, unwrap_or, is_some, option_map_or, list_any, nat_cmp}
use Rattle.rk_core.proofs.Words.{eq_by_cmp, nat_cmp_total, eqb-true, eq-eqb, ne_eqb, both_ways, changed_at, Key, key_passes, has_name, is_rival, Known}
use Rattle.rk_core.proofs.Words.{IsNaming, RingFault, Ring, is_linked, with_link, without_link, Numbered, Rings, ring_seen, rings_seen, holds, linked, unlinked}
use Rattle.rk_core.proofs.Words.{has_number, IsMatch, tied, tied_itself, any_value, some_entry, entry_found, get-rings_seen, rings_seen-changed_at}
use Rattle.rk_core.proofs.Words.{ring_seen-linked, contains-ring_seen, len-ring_seen, is_linked-rings_seen, contains_key-rings_seen, rings_seen-remove}
use Rattle.rk_core.proofs.Words.{ring_seen-unlinked, GivesWay, NumbersAgree, is_full, holds_name, get_removed, MatchBool}
use Rattle.std.proofs.Common.{◌↔◌}
use Rattle.std.specs.FinMap as map
use Rattle.std.specs.FinSet as set
use Rattle.rk_rings.specs.declared.fault.RingFault.TheVariants as fault
use Rattle.rk_rings.specs.Numbered as numbered
use Rattle.rk_core.proofs.LinksAndNames.LinksAfter.{same_answer}
use Rattle.rk_core.proofs.LinksAndNames.KeysOfAName.{IsNameOf, key_of, by_key, gives_way_by}

-- ---- a link is put in

way : (known : Known) (rings : Rings) (ring k n : ℕ) (r : Numbered) → IsNaming known.keys known.numbers → NumbersAgree known rings
    → map.get known.numbers k ≡ Some n → map.get rings ring ≡ Some r
    → GivesWay (is_rival known.keys k) k n r
way known rings ring k n r naming kept number there = (
  gives_way_by known k n k n naming number number ∙ ap (λ b. not b && nat_eq n n) (eq-eqb k k refl),
  λ j m link other. gives_way_by known k n j m naming number (kept.numbered ring j m r there link) ∙ ap (λ b. not b && nat_eq m n) (ne_eqb j k other),
)

pub seen_linked : (known : Known) (rings : Rings) (ring k n : ℕ) → IsNaming known.keys known.numbers → NumbersAgree known rings
    → map.get known.numbers k ≡ Some n
    → rings_seen (changed_at ring (linked k n) rings) ≡ changed_at ring (with_link (is_rival known.keys k) k) (rings_seen rings)
seen_linked known rings ring k n naming kept number =
    rings_seen-changed_at ring (linked k n) (with_link (is_rival known.keys k) k) rings
    (λ r there. ring_seen-linked (is_rival known.keys k) k n r (way known rings ring k n r naming kept number there))

-- ---- if there is room

and_true : (b : Bool) → (b && true) ≡ b
and_true true = refl
and_true false = refl

or_true : (b : Bool) → (b || true) ≡ true
or_true true = refl
or_true false = refl

among : (p : ℕ → Bool) (k : ℕ) → p k ≡ true → (ks : List ℕ) → list_any (eq_by_cmp nat_cmp k) ks ≡ true → list_any p ks ≡ true
among p k is [] h = absurd (both_ways false refl h)
among p k is (j ∷ ks) h =
    elim (eq_by_cmp nat_cmp k j) as (λ b. eq_by_cmp nat_cmp k j ≡ b → (b || list_any (eq_by_cmp nat_cmp k) ks) ≡ true → (p j || list_any p ks) ≡ true) [
      | true ↦ λ t h. ap (λ b. b || list_any p ks) (ap p (sym (tied k j t)) ∙ is)
      | false ↦ λ t h. ap (λ b. p j || b) (among p k is ks h) ∙ or_true (p j)
    ] refl h

-- what some key of a set passes
pub item_passes : (p : ℕ → Bool) (s : set.FinSet nat_cmp) (k : ℕ) → set.contains s k ≡ true → p k ≡ true → list_any p (set.items s) ≡ true
item_passes p s k there is = among p k is (set.items s) (sym (set.contains-items s k) ∙ there)

one_of : (p : ℕ → Bool) (ks : List ℕ) → list_any p ks ≡ true → (k : ℕ) × (list_any (eq_by_cmp nat_cmp k) ks ≡ true) × (p k ≡ true)
one_of p [] h = absurd (both_ways false refl h)
one_of p (j ∷ ks) h =
    elim (p j) as (λ b. p j ≡ b → (b || list_any p ks) ≡ true → (k : ℕ) × ((eq_by_cmp nat_cmp k j || list_any (eq_by_cmp nat_cmp k) ks) ≡ true)
    × (p k ≡ true)) [
      | true ↦ λ t h. (j, ap (λ b. b || list_any (eq_by_cmp nat_cmp j) ks) (tied_itself j), t)
      | false ↦ λ t h. let f = one_of p ks h in (f.0, ap (λ b. eq_by_cmp nat_cmp f.0 j || b) f.1 ∙ or_true (eq_by_cmp nat_cmp f.0 j), f.2)
    ] refl h

-- if some item of a set passes a test, there is one in the set that passes
pub passing_item : (p : ℕ → Bool) (s : set.FinSet nat_cmp) → list_any p (set.items s) ≡ true → (k : ℕ) × (set.contains s k ≡ true) × (p k ≡ true)
passing_item p s h = let f = one_of p (set.items s) h in (f.0, set.contains-items s f.0 ∙ f.1, f.2)

pub some_there : {A : Type 0} (o : Option A) → is_some o ≡ true → (x : A) × (o ≡ Some x)
some_there None h = absurd (both_ways false refl h)
some_there (Some x) h = (x, refl)

holds_alike : (known : Known) (rings : Rings) (ring : ℕ) (r : Numbered) (typ description : List ℕ) (name : Option ℕ) → NumbersAgree known rings
    → IsNameOf known typ description name → map.get rings ring ≡ Some r
    → option_map_or (has_number r) name false ≡ holds_name known.keys (ring_seen r) typ description
holds_alike known rings ring r typ description name kept names there = same_answer _ _ (has name names) (λ h.
    let f = passing_item (λ k. has_name known.keys k typ description) (ring_seen r).keys h in
    let m = some_there (map.get r.links f.0) (sym (contains-ring_seen r f.0) ∙ f.1) in
    number name f.0 m.0 m.1 (sym (names f.0 m.0 (kept.numbered ring f.0 m.0 r there m.1)) ∙ f.2))
  where
    has : (name : Option ℕ) → IsNameOf known typ description name → option_map_or (has_number r) name false ≡ true
        → holds_name known.keys (ring_seen r) typ description ≡ true
    has None names h = absurd (both_ways false refl h)
    has (Some n) names h =
        let f = entry_found (λ (e : ℕ × ℕ). nat_eq e.1 n) r.links (sym (any_value (λ m. nat_eq m n) r.links) ∙ h) in
        item_passes (λ k. has_name known.keys k typ description) (ring_seen r).keys f.0 (contains-ring_seen r f.0 ∙ ap is_some f.2)
        (names f.0 f.1 (kept.numbered ring f.0 f.1 r there f.2) ∙ f.3)

    number : (name : Option ℕ) (k m : ℕ) → map.get r.links k ≡ Some m → option_map_or (λ n. nat_eq m n) name false ≡ true
        → option_map_or (has_number r) name false ≡ true
    number None k m is h = h
    number (Some n) k m is h = any_value (λ m. nat_eq m n) r.links ∙ some_entry (λ (e : ℕ × ℕ). nat_eq e.1 n) r.links k m is h

-- a ring is full by the number of a name where it is full by the name
pub full_alike : (known : Known) (rings : Rings) (ring : ℕ) (typ description : List ℕ) (name : Option ℕ) → NumbersAgree known rings
    → IsNameOf known typ description name
    → numbered.is_full_at rings ring name ≡ option_map_or (is_full known.keys typ description) (map.get (rings_seen rings) ring) false
full_alike known rings ring typ description name kept names =
    by_ring (map.get rings ring) refl ∙ sym (ap (λ o. option_map_or (is_full known.keys typ description) o false) (get-rings_seen rings ring))
  where
    by_ring : (o : Option Numbered) → map.get rings ring ≡ o
        → option_map_or (numbered.is_full name) o false ≡ option_map_or (is_full known.keys typ description) (option_map ring_seen o) false
    by_ring None is = refl
    by_ring (Some r) is = λ i. nat_le 256 (sym (len-ring_seen r) i) && not (holds_alike known rings ring r typ description name kept names is i)

-- a ring that has room for a name that no key has, has room for every name
pub room_for_all : (known : Known) (rings : Rings) (ring : ℕ) (typ description : List ℕ) → numbered.is_full_at rings ring None ≡ false
    → option_map_or (is_full known.keys typ description) (map.get (rings_seen rings) ring) false ≡ false
room_for_all known rings ring typ description room =
    ap (λ o. option_map_or (is_full known.keys typ description) o false) (get-rings_seen rings ring) ∙ by_ring (map.get rings ring) room
  where
    few : (full free : Bool) → (full && not false) ≡ false → (full && free) ≡ false
    few true free h = absurd (both_ways true h refl)
    few false free h = refl

    by_ring : (o : Option Numbered) → option_map_or (numbered.is_full None) o false ≡ false
        → option_map_or (is_full known.keys typ description) (option_map ring_seen o) false ≡ false
    by_ring None h = refl
    by_ring (Some r) h =
        ap (λ n. nat_le 256 n && not (holds_name known.keys (ring_seen r) typ description)) (len-ring_seen r)
        ∙ few (nat_le 256 (map.len r.links)) (not (holds_name known.keys (ring_seen r) typ description)) h

-- whether there is room for a key goes by the number of its name
pub full_by_number : (known : Known) (rings : Rings) (ring k n : ℕ) → IsNaming known.keys known.numbers → NumbersAgree known rings
    → map.get known.numbers k ≡ Some n
    → numbered.is_full_at rings ring (Some n)
    ≡ key_passes known.keys k (λ key. option_map_or (is_full known.keys key.typ key.description) (map.get (rings_seen rings) ring) false)
full_by_number known rings ring k n naming kept number =
    let key = key_of known k n naming number in
    full_alike known rings ring key.0.typ key.0.description (Some n) kept (by_key known k n key.0 naming key.1 number)
    ∙ ap (λ o. unwrap_or (option_map (λ (key : Key). option_map_or (is_full known.keys key.typ key.description) (map.get (rings_seen rings) ring) false) o) false)
    (sym key.1)

-- a key without a number is none
pub unnumbered : (known : Known) (k : ℕ) (p : Key → Bool) → IsNaming known.keys known.numbers → map.get known.numbers k ≡ None
    → false ≡ key_passes known.keys k p
unnumbered known k p naming none = by_key (map.get known.keys k) (sym (naming.each k) ∙ ap is_some none)
  where
    by_key : (o : Option Key) → is_some o ≡ false → false ≡ unwrap_or (option_map p o) false
    by_key None h = refl
    by_key (Some key) h = absurd (both_ways true h refl)

-- ---- the call that links

-- a change of a ring that is not there is seen as none
pub not_there : (rings : Rings) (ring k : ℕ) (f : Ring → Ring) → map.contains_key rings ring ≡ false → changed_at ring f (rings_seen rings) ≡ rings_seen rings
not_there rings ring k f h =
    ap (λ o. option_map_or (λ v. map.insert (rings_seen rings) ring (f v)) o (rings_seen rings)) (get-rings_seen rings ring ∙ none (map.get rings ring) h)
  where
    none : (o : Option Numbered) → is_some o ≡ false → option_map ring_seen o ≡ None
    none None h = refl
    none (Some r) h = absurd (both_ways _ h refl)

-- a conjunction with a false last part is false
pub last_false : (a b : Bool) → b ≡ false → (a && b) ≡ false
last_false true b h = h
last_false false b h = refl

-- a ring that holds the key has room for it
pub held_has_room : (known : Known) (rings : Rings) (ring k n : ℕ) → NumbersAgree known rings → map.get known.numbers k ≡ Some n
    → holds rings ring k ≡ true → numbered.is_full_at rings ring (Some n) ≡ false
held_has_room known rings ring k n kept number held = by_ring (map.get rings ring) refl held
  where
    by_ring : (o : Option Numbered) → map.get rings ring ≡ o → option_map_or (λ (r : Numbered). map.contains_key r.links k) o false ≡ true
        → option_map_or (numbered.is_full (Some n)) o false ≡ false
    by_ring None is there = refl
    by_ring (Some r) is there =
        let m = some_there (map.get r.links k) there in
        let same : Some m.0 ≡ Some n = sym (kept.numbered ring k m.0 r is m.1) ∙ number in
        let mn : m.0 ≡ n = cc in
        let named : has_number r n ≡ true =
        any_value (λ m. nat_eq m n) r.links
        ∙ some_entry (λ (e : ℕ × ℕ). nat_eq e.1 n) r.links k m.0 m.1 (ap (λ x. nat_eq x n) mn ∙ eq-eqb n n refl) in
        last_false (nat_le 256 (map.len r.links)) (not (has_number r n)) (ap not named)

-- ---- the key that gives way

-- a key is seen as linked in a ring exactly if the ring has its number
pub linked_is : (rings : Rings) (ring k : ℕ) (r : Numbered) (o : Option ℕ) → map.get rings ring ≡ Some r → map.get r.links k ≡ o
    → is_linked (rings_seen rings) ring k ≡ is_some o
linked_is rings ring k r o there is =
    is_linked-rings_seen rings ring k ∙ ap (λ x. option_map_or (λ (r : Numbered). map.contains_key r.links k) x false) there ∙ ap is_some is

-- no key is linked in a ring that is not there
pub not_linked : (rings : Rings) (ring k : ℕ) → map.get rings ring ≡ None → is_linked (rings_seen rings) ring k ≡ false
not_linked rings ring k none = is_linked-rings_seen rings ring k ∙ ap (λ x. option_map_or (λ (r : Numbered). map.contains_key r.links k) x false) none

both_false : (a b c : Bool) → b ≡ false → ((a && b) && c) ≡ false
both_false true b c h = ap (λ x. x && c) h
both_false false b c h = refl

module _ (known : Known) (rings : Rings) (ring k n : ℕ) (naming : IsNaming known.keys known.numbers) (kept : NumbersAgree known rings)
    (number : map.get known.numbers k ≡ Some n) where
  -- in the ring, where j has this number, and f is the one key of the number n
  one_match : (r : Numbered) (f j m : ℕ) → map.get rings ring ≡ Some r → map.get r.links f ≡ Some n
      → ((i : ℕ) → map.get r.links i ≡ Some n → i ≡ f) → map.get r.links j ≡ Some m
      → ((not (is_linked (rings_seen rings) ring k) && is_linked (rings_seen rings) ring j) && is_rival known.keys k j) ≡ (nat_eq j f && not (nat_eq f k))
  one_match r f j m there match sole link =
      (λ i. (not (is_linked (rings_seen rings) ring k) && linked_is rings ring j r (Some m) there link i)
      && gives_way_by known k n j m naming number (kept.numbered ring j m r there link) i)
      ∙ by_match (nat_eq j f) refl
    where
      self_or_not : (b : Bool) → nat_eq f k ≡ b → ((not (is_linked (rings_seen rings) ring k) && true) && (not b && true)) ≡ not b
      self_or_not true t = last_false (not (is_linked (rings_seen rings) ring k) && true) false refl
      self_or_not false t = ap (λ b. (not b && true) && true) (free (is_linked (rings_seen rings) ring k) refl)
        where
          free : (b : Bool) → is_linked (rings_seen rings) ring k ≡ b → is_linked (rings_seen rings) ring k ≡ false
          free false e = e
          free true e =
              let x = some_there (map.get r.links k) (sym (linked_is rings ring k r (map.get r.links k) there refl) ∙ e) in
              let same : Some x.0 ≡ Some n = sym (kept.numbered ring k x.0 r there x.1) ∙ number in
              absurd (both_ways _ t (ap (λ q. nat_eq f q) (sole k (x.1 ∙ same)) ∙ eq-eqb f f refl))

      by_match : (b : Bool) → nat_eq j f ≡ b → ((not (is_linked (rings_seen rings) ring k) && true) && (not (nat_eq j k) && nat_eq m n))
          ≡ (b && not (nat_eq f k))
      by_match true t =
          let e : j ≡ f = eqb-true j f t in
          let same : Some m ≡ Some n = sym link ∙ ap (map.get r.links) e ∙ match in
          let mn : m ≡ n = cc in
          (λ i. (not (is_linked (rings_seen rings) ring k) && true) && (not (nat_eq (e i) k) && (ap (λ x. nat_eq x n) mn ∙ eq-eqb n n refl) i))
          ∙ self_or_not (nat_eq f k) refl
      by_match false t =
          last_false (not (is_linked (rings_seen rings) ring k) && true) (not (nat_eq j k) && nat_eq m n)
          (last_false (not (nat_eq j k)) (nat_eq m n) (ne_eqb m n (λ e. both_ways _ t (eq-eqb j f (sole j (link ∙ ap (λ (x : ℕ). Some x) e))))))

  -- what is found by the number is what gives way, where it is another key
  pub rival_seen : (found : Option ℕ) → IsMatch rings n (Some ring) found → (j : ℕ)
      → ((not (is_linked (rings_seen rings) ring k) && is_linked (rings_seen rings) ring j) && is_rival known.keys k j)
      ≡ option_map_or (λ f. nat_eq j f && not (nat_eq f k)) found false
  rival_seen (Some f) h j = by_link (map.get h.0.links j) refl
    where
      by_link : (o : Option ℕ) → map.get h.0.links j ≡ o
          → ((not (is_linked (rings_seen rings) ring k) && is_linked (rings_seen rings) ring j) && is_rival known.keys k j) ≡ (nat_eq j f && not (nat_eq f k))
      by_link None is =
          both_false (not (is_linked (rings_seen rings) ring k)) (is_linked (rings_seen rings) ring j) (is_rival known.keys k j)
          (linked_is rings ring j h.0 None h.1 is)
          ∙ ap (λ b. b && not (nat_eq f k)) (sym (ne_eqb j f (λ e. let no : None ≡ Some n = sym is ∙ ap (map.get h.0.links) e ∙ h.2 in absurd (cc))))
      by_link (Some m) is = one_match h.0 f j m h.1 h.2 h.3 is
  rival_seen None h j = by_ring (map.get rings ring) refl
    where
      by_link : (r : Numbered) → map.get rings ring ≡ Some r → (o : Option ℕ) → map.get r.links j ≡ o
          → ((not (is_linked (rings_seen rings) ring k) && is_linked (rings_seen rings) ring j) && is_rival known.keys k j) ≡ false
      by_link r there None is =
          both_false (not (is_linked (rings_seen rings) ring k)) (is_linked (rings_seen rings) ring j) (is_rival known.keys k j)
          (linked_is rings ring j r None there is)
      by_link r there (Some m) is =
          last_false (not (is_linked (rings_seen rings) ring k) && is_linked (rings_seen rings) ring j) (is_rival known.keys k j)
          (gives_way_by known k n j m naming number (kept.numbered ring j m r there is)
          ∙ last_false (not (nat_eq j k)) (nat_eq m n) (ne_eqb m n (λ e. h r there j (is ∙ ap (λ (x : ℕ). Some x) e))))

      by_ring : (o : Option Numbered) → map.get rings ring ≡ o
          → ((not (is_linked (rings_seen rings) ring k) && is_linked (rings_seen rings) ring j) && is_rival known.keys k j) ≡ false
      by_ring None none =
          both_false (not (is_linked (rings_seen rings) ring k)) (is_linked (rings_seen rings) ring j) (is_rival known.keys k j) (not_linked rings ring j none)
      by_ring (Some r) there = by_link r there (map.get r.links j) refl

  -- what a call that links tells is what gives way: nothing where the ring holds the key, and else what is found by the number
  pub rival_told : (rival : Option ℕ) → MatchBool (holds rings ring k) (rival ≡ None) (IsMatch rings n (Some ring) rival) → (j : ℕ)
      → ((not (is_linked (rings_seen rings) ring k) && is_linked (rings_seen rings) ring j) && is_rival known.keys k j)
      ≡ option_map_or (λ r. nat_eq j r) rival false
  rival_told rival told j = by_held (holds rings ring k) refl told
    where
      seen : (b : Bool) → holds rings ring k ≡ b → is_linked (rings_seen rings) ring k ≡ b
      seen b is = is_linked-rings_seen rings ring k ∙ is

      other : (rival : Option ℕ) → IsMatch rings n (Some ring) rival → holds rings ring k ≡ false
          → option_map_or (λ f. nat_eq j f && not (nat_eq f k)) rival false ≡ option_map_or (λ r. nat_eq j r) rival false
      other None h free = refl
      other (Some f) h free =
          ap (λ b. nat_eq j f && not b) (ne_eqb f k (λ e. both_ways _ free (
          ap (λ o. option_map_or (λ (r : Numbered). map.contains_key r.links k) o false) h.1
          ∙ ap (map.contains_key h.0.links) (sym e) ∙ ap is_some h.2)))
          ∙ and_true (nat_eq j f)

      by_held : (b : Bool) → holds rings ring k ≡ b → MatchBool b (rival ≡ None) (IsMatch rings n (Some ring) rival)
          → ((not (is_linked (rings_seen rings) ring k) && is_linked (rings_seen rings) ring j) && is_rival known.keys k j)
          ≡ option_map_or (λ r. nat_eq j r) rival false
      by_held true is told =
          ap (λ b. (not b && is_linked (rings_seen rings) ring j) && is_rival known.keys k j) (seen true is)
          ∙ ap (λ o. option_map_or (λ r. nat_eq j r) o false) (sym told)
      by_held false is told = rival_seen rival told j ∙ other rival told is

  -- nothing gives way where there is no such ring
  pub none_told : map.contains_key rings ring ≡ false → (j : ℕ)
      → ((not (is_linked (rings_seen rings) ring k) && is_linked (rings_seen rings) ring j) && is_rival known.keys k j) ≡ false
  none_told none j =
      both_false (not (is_linked (rings_seen rings) ring k)) (is_linked (rings_seen rings) ring j) (is_rival known.keys k j)
      (is_linked-rings_seen rings ring j ∙ by_ring (map.get rings ring) none)
    where
      by_ring : (o : Option Numbered) → is_some o ≡ false → option_map_or (λ (r : Numbered). map.contains_key r.links j) o false ≡ false
      by_ring None h = refl
      by_ring (Some r) h = absurd (both_ways true h refl)

-- ---- the calls that take links out

-- unlinking a linked key is seen as taking the link away
pub unlink_seen : (rings new : Rings) (ring k : ℕ) (r : Result ⊤ RingFault) → is_linked (rings_seen rings) ring k ≡ true
    → OnOk r (new ≡ changed_at ring (unlinked k) rings) → ((r ≡ Err fault.NoRing) ↔ (map.contains_key rings ring ≡ false))
    → ((r ≡ Err fault.NotLinked) ↔ ((map.contains_key rings ring ≡ true) × (holds rings ring k ≡ false)))
    → IfErr r (λ f. (f ≡ fault.NoRing) ⊎ (f ≡ fault.NotLinked))
    → rings_seen new ≡ changed_at ring (without_link k) (rings_seen rings)
unlink_seen rings new ring k (Ok x) there ok none missing others =
    ap rings_seen ok ∙ rings_seen-changed_at ring (unlinked k) (without_link k) rings (λ r _. ring_seen-unlinked k r)
unlink_seen rings new ring k (Err f) there ok none missing others = absurd (by_fault others)
  where
    linked_there : (o : Option Numbered) → option_map_or (λ (r : Numbered). map.contains_key r.links k) o false ≡ true → is_some o ≡ false → ⊥
    linked_there None h none = both_ways false refl h
    linked_there (Some r) h none = both_ways _ none refl

    by_fault : (f ≡ fault.NoRing) ⊎ (f ≡ fault.NotLinked) → ⊥
    by_fault (inl e) = linked_there (map.get rings ring) (sym (is_linked-rings_seen rings ring k) ∙ there) (none.0 (ap (λ (x : RingFault). Err x) e))
    by_fault (inr e) = both_ways _ (missing.0 (ap (λ (x : RingFault). Err x) e)).1 (sym (is_linked-rings_seen rings ring k) ∙ there)

-- dropping a ring is seen as removing it
pub drop_seen : (rings new : Rings) (ring : ℕ) (r : Result ⊤ RingFault) → OnOk r (new ≡ map.remove rings ring) → OnErr r (new ≡ rings)
    → ((r ≡ Err fault.NoRing) ↔ (map.contains_key rings ring ≡ false))
    → IfErr r (λ f. f ≡ fault.NoRing) → rings_seen new ≡ map.remove (rings_seen rings) ring
drop_seen rings new ring (Ok x) ok err none others = ap rings_seen ok ∙ rings_seen-remove rings ring
drop_seen rings new ring (Err f) ok err none others =
    ap rings_seen err
    ∙ map.same_map nat_cmp_total map.nat_cmp-IsAntisymmetric _ _
    (λ q. by_key q (nat_eq ring q) refl (map.get (rings_seen rings) q) refl ∙ sym (get_removed (rings_seen rings) ring q))
  where
    by_key : (q : ℕ) (b : Bool) → nat_eq ring q ≡ b → (o : Option Ring) → map.get (rings_seen rings) q ≡ o
        → map.get (rings_seen rings) q ≡ cond b None (map.get (rings_seen rings) q)
    by_key q false t o is = refl
    by_key q true t None is = is
    by_key q true t (Some r) is =
        let gone : map.contains_key (rings_seen rings) q ≡ false =
        ap (map.contains_key (rings_seen rings)) (sym (eqb-true ring q t)) ∙ contains_key-rings_seen rings ring
        ∙ none.0 (ap (λ (x : RingFault). Err x) others) in
        absurd (both_ways _ gone (ap is_some is))
