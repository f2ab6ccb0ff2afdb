-- The numbers of names stay in order where keys and rings change.
use Rattle.rk_core.proofs.Words.{◌≡◌, ◌⊎◌, ℕ, Bool, true, false, cond, List, [], ◌∷◌, refl, sym, ap, ◌∙◌, inl, inr, subst, Option, Some, None, Result, Ok, Err}
use Rattle.rk_core.proofs.Words.{OnOk, OnErr, nat_eq, option_map, is_some, nat_cmp, eqb-true, both_ways, changed_at, Key, Known, IsNaming, without_key, NewRing}
use Rattle.rk_core.proofs.Words.{Numbered, Rings, is_held, linked, unlinked, new_ring, with_rings, new_or_there, left_there, no_link, ring_there, any_value}
use Rattle.rk_core.proofs.Words.{some_entry, entry_found, NumbersAgree, get_inserted, get_removed, get_changed_at}
use Rattle.std.specs.FinMap as map
use Rattle.rk_keys.specs.Known.{Makes}

-- what came of a call, whatever it answered
pub either_way : {A B : Type 0} (r : Result A B) (P Q : Type 0) → OnOk r P → OnErr r Q → P ⊎ Q
either_way (Ok x) P Q p q = inl p
either_way (Err x) P Q p q = inr q

-- ---- one ring is changed

-- a change of one ring that puts in no link but with the number of its key
pub record IsFair (known : Known) (f : Numbered → Numbered) : Type 0 where
  pub numbers : (r : Numbered) (j m : ℕ) → map.get (f r).links j ≡ Some m → (map.get r.links j ≡ Some m) ⊎ (map.get known.numbers j ≡ Some m)

some_of : {A B : Type 0} (f : A → B) (o : Option A) (y : B) → option_map f o ≡ Some y → (x : A) × (o ≡ Some x) × (f x ≡ y)
some_of f None y e = absurd (cc)
some_of f (Some x) y e = (x, refl, cc)

pub kept_changed : (known : Known) (rings : Rings) (ring : ℕ) (f : Numbered → Numbered) → IsFair known f → NumbersAgree known rings
    → NumbersAgree known (changed_at ring f rings)
kept_changed known rings ring f fair h = record {
  numbered = λ q k n r there link.
      by_ring q (nat_eq ring q) r (λ old is e. by_link q k n old is (fair.numbers old k n (ap (λ (x : Numbered). map.get x.links k) e ∙ link)))
      (λ is. h.numbered q k n r is link)
      (sym (get_changed_at ring f rings q) ∙ there);
}
  where
    by_ring : {P : Type 0} (q : ℕ) (b : Bool) (r : Numbered) → ((old : Numbered) → map.get rings q ≡ Some old → f old ≡ r → P) → (map.get rings q ≡ Some r → P)
        → cond b (option_map f (map.get rings q)) (map.get rings q) ≡ Some r → P
    by_ring q true r changed same e = let o = some_of f (map.get rings q) r e in changed o.0 o.1 o.2
    by_ring q false r changed same e = same e

    by_link : (q k n : ℕ) (old : Numbered) → map.get rings q ≡ Some old → (map.get old.links k ≡ Some n) ⊎ (map.get known.numbers k ≡ Some n)
        → map.get known.numbers k ≡ Some n
    by_link q k n old is (inl e) = h.numbered q k n old is e
    by_link q k n old is (inr e) = e

fair_link : (known : Known) (k n : ℕ) → map.get known.numbers k ≡ Some n → IsFair known (linked k n)
fair_link known k n is = record {
  numbers = λ r j m e. by_link r j m (new_or_there r.links k n j m e);
}
  where
    by_link : (r : Numbered) (j m : ℕ) → (map.get r.links j ≡ Some m) ⊎ ((j ≡ k) × (m ≡ n)) → (map.get r.links j ≡ Some m) ⊎ (map.get known.numbers j ≡ Some m)
    by_link r j m (inl e) = inl e
    by_link r j m (inr e) = inr (ap (map.get known.numbers) e.0 ∙ is ∙ ap (λ (x : ℕ). Some x) (sym e.1))

fair_unlink : (known : Known) (k : ℕ) → IsFair known (unlinked k)
fair_unlink known k = record { numbers = λ r j m e. inl (left_there r.links k j m e) }

-- keys and rings agree on names after a key is linked by its number
pub kept_link : (known : Known) (rings new : Rings) (ring k n : ℕ) → map.get known.numbers k ≡ Some n
    → (new ≡ changed_at ring (linked k n) rings) ⊎ (new ≡ rings) → NumbersAgree known rings → NumbersAgree known new
kept_link known rings new ring k n is (inl e) h = subst (NumbersAgree known) (sym e) (kept_changed known rings ring (linked k n) (fair_link known k n is) h)
kept_link known rings new ring k n is (inr e) h = subst (NumbersAgree known) (sym e) h

-- keys and rings agree on names after a key is unlinked
pub kept_unlink : (known : Known) (rings new : Rings) (ring k : ℕ) → (new ≡ changed_at ring (unlinked k) rings) ⊎ (new ≡ rings) → NumbersAgree known rings
    → NumbersAgree known new
kept_unlink known rings new ring k (inl e) h = subst (NumbersAgree known) (sym e) (kept_changed known rings ring (unlinked k) (fair_unlink known k) h)
kept_unlink known rings new ring k (inr e) h = subst (NumbersAgree known) (sym e) h

-- ---- a ring is dropped, rings are made

-- keys and rings agree on names after a ring is dropped
pub kept_drop : (known : Known) (rings new : Rings) (ring : ℕ) → (new ≡ map.remove rings ring) ⊎ (new ≡ rings) → NumbersAgree known rings
    → NumbersAgree known new
kept_drop known rings new ring (inl e) h =
    subst (NumbersAgree known) (sym e) (record { numbered = λ q k n r there link. h.numbered q k n r (ring_there rings ring q r there) link })
kept_drop known rings new ring (inr e) h = subst (NumbersAgree known) (sym e) h

kept_one : (known : Known) (rings : Rings) (wanted : NewRing) → NumbersAgree known rings → NumbersAgree known (map.insert rings wanted.serial (new_ring wanted))
kept_one known rings wanted h = record {
  numbered = λ q k n r there link.
      by_key q (nat_eq wanted.serial q) r (λ e. absurd (no_link k n (ap (λ (x : Numbered). map.get x.links k) e ∙ link))) (λ is. h.numbered q k n r is link)
      (sym (get_inserted rings wanted.serial (new_ring wanted) q) ∙ there);
}
  where
    by_key : {P : Type 0} (q : ℕ) (b : Bool) (r : Numbered) → (new_ring wanted ≡ r → P) → (map.get rings q ≡ Some r → P)
        → cond b (Some (new_ring wanted)) (map.get rings q) ≡ Some r → P
    by_key q true r new same e = let is : new_ring wanted ≡ r = cc in new is
    by_key q false r new same e = same e

-- keys and rings agree on names after empty rings are made
pub kept_rings : (known : Known) (wanted : List NewRing) (rings : Rings) → NumbersAgree known rings → NumbersAgree known (with_rings wanted rings)
kept_rings known [] rings h = h
kept_rings known (one ∷ more) rings h = kept_rings known more (map.insert rings one.serial (new_ring one)) (kept_one known rings one h)

-- ---- keys change

-- keys and rings agree on names where the numbers stay
pub kept_numbers : (known new : Known) (rings : Rings) → new.numbers ≡ known.numbers → NumbersAgree known rings → NumbersAgree new rings
kept_numbers known new rings e h = record {
  numbered = λ q k n r there link. ap (λ (m : map.FinMap nat_cmp ℕ). map.get m k) e ∙ h.numbered q k n r there link;
}

-- a link to a key, in some ring
pub held_by : (rings : Rings) (ring k n : ℕ) (r : Numbered) → map.get rings ring ≡ Some r → map.get r.links k ≡ Some n → is_held rings k ≡ true
held_by rings ring k n r there link =
    any_value (λ (r : Numbered). map.contains_key r.links k) rings ∙ some_entry (λ (e : ℕ × Numbered). map.contains_key e.1.links k) rings ring r there
    (ap is_some link)

-- keys and rings agree on names after a key without a link is forgotten
pub kept_forget : (known : Known) (rings : Rings) (k : ℕ) → is_held rings k ≡ false → NumbersAgree known rings → NumbersAgree (without_key k known) rings
kept_forget known rings k free h = record {
  numbered = λ q j n r there link. get_removed known.numbers k j ∙ by_key q j n r there link (nat_eq k j) refl;
}
  where
    by_key : (q j n : ℕ) (r : Numbered) → map.get rings q ≡ Some r → map.get r.links j ≡ Some n → (b : Bool) → nat_eq k j ≡ b
        → cond b None (map.get known.numbers j) ≡ Some n
    by_key q j n r there link true t = absurd (both_ways _ free (ap (is_held rings) (eqb-true k j t) ∙ held_by rings q j n r there link))
    by_key q j n r there link false t = h.numbered q j n r there link

-- a new key has no link yet
pub kept_make : (known new : Known) (rings : Rings) (k : ℕ) (key : Key) → map.get known.numbers k ≡ None → Makes known k key new → NumbersAgree known rings
    → NumbersAgree new rings
kept_make known new rings k key none makes h = record {
  numbered = λ q j n r there link.
      ap (λ (m : map.FinMap nat_cmp ℕ). map.get m j) makes.numbers ∙ get_inserted known.numbers k makes.number j ∙ by_key q j n r there link (nat_eq k j) refl;
}
  where
    by_key : (q j n : ℕ) (r : Numbered) → map.get rings q ≡ Some r → map.get r.links j ≡ Some n → (b : Bool) → nat_eq k j ≡ b
        → cond b (Some makes.number) (map.get known.numbers j) ≡ Some n
    by_key q j n r there link true t =
        let e : None ≡ Some n = sym none ∙ ap (map.get known.numbers) (eqb-true k j t) ∙ h.numbered q j n r there link in absurd (cc)
    by_key q j n r there link false t = h.numbered q j n r there link

-- what has no number is no key, and has no link
pub no_number : (known : Known) (k : ℕ) → IsNaming known.keys known.numbers → map.get known.keys k ≡ None → map.get known.numbers k ≡ None
no_number known k naming none = empty (map.get known.numbers k) (naming.each k ∙ ap is_some none)
  where
    empty : (o : Option ℕ) → is_some o ≡ false → o ≡ None
    empty None h = refl
    empty (Some n) h = absurd (both_ways _ h refl)

-- a key without a number has no link
pub not_held : (known : Known) (rings : Rings) (k : ℕ) → NumbersAgree known rings → map.get known.numbers k ≡ None → is_held rings k ≡ false
not_held known rings k h none = by_test (is_held rings k) refl
  where
    there : (o : Option ℕ) → is_some o ≡ true → (n : ℕ) × (o ≡ Some n)
    there None h = absurd (both_ways false refl h)
    there (Some n) h = (n, refl)

    by_test : (b : Bool) → is_held rings k ≡ b → is_held rings k ≡ false
    by_test false t = t
    by_test true t =
        let f =
        entry_found (λ (e : ℕ × Numbered). map.contains_key e.1.links k) rings (sym (any_value (λ (r : Numbered). map.contains_key r.links k) rings) ∙ t) in
        let n = there (map.get f.1.links k) f.3 in
        let no : None ≡ Some n.0 = sym none ∙ h.numbered f.0 k n.0 f.1 f.2 n.1 in absurd (cc)
