-- Rings that are made one after the other.
use Rattle.rk_rings.proofs.Words.{◌∙◌, ap, sym, ◌≡◌, subst, arith, ℕ, cond, ◌≤◌, false, ◌+◌, refl, true, Bool, length, List, [], ◌∷◌, nat_cmp_total, get, len}
use Rattle.rk_rings.proofs.Words.{insert, len-insert, get-insert, nat_cmp, eq_by_cmp, None, Some, is_some, list_map, with_entries, HasEachNew, AreSerials}
use Rattle.rk_rings.proofs.Words.{Numbered, Rings, new_ring, HasEachNameOnce, HaveEachNameOnce, with_rings, AreNew, NewRing}
use Rattle.rk_rings.proofs.Named.{once_empty}
use Rattle.rk_rings.proofs.Changed.{AreRows}

-- ---- the entries that are left to put in

-- if the first ring is put in, those that are left lead to the same rings
pub left_facts : (items rest : List (ℕ × Numbered)) (k : ℕ) (v : Numbered) (m n w : Rings) → items ≡ (k, v) ∷ rest → n ≡ insert m k v →
    with_entries items m ≡ w → with_entries rest n ≡ w
left_facts items rest k v m n w e is h = ap (with_entries rest) is ∙ sym (ap (λ es. with_entries es m) e) ∙ h

-- if the first ring is put in, each that is left is still new
pub left_new : (items rest : List (ℕ × Numbered)) (k : ℕ) (v : Numbered) (m n : Rings) → items ≡ (k, v) ∷ rest → n ≡ insert m k v → HasEachNew items m →
    HasEachNew rest n
left_new items rest k v m n e is h =
    let now : HasEachNew ((k, v) ∷ rest) m = subst (λ es. HasEachNew es m) e h in
    subst (HasEachNew rest) (sym is) now.1

-- the serial of the first ring that is left has no ring
pub next_new : (items rest : List (ℕ × Numbered)) (k : ℕ) (v : Numbered) (m : Rings) → items ≡ (k, v) ∷ rest → HasEachNew items m → get m k ≡ None
next_new items rest k v m e h =
    let now : HasEachNew ((k, v) ∷ rest) m = subst (λ es. HasEachNew es m) e h in now.0

-- if no ring is left, all are made
pub none_left : (items : List (ℕ × Numbered)) (m w : Rings) → length items ≡ 0 → with_entries items m ≡ w → m ≡ w
none_left [] m w e h = h
none_left (x ∷ xs) m w e h = absurd (omega arith)

-- ---- what is wanted, as entries

pub entries_made : (wanted : List NewRing) (m : Rings) → with_entries (list_map (λ w. (w.serial, new_ring w)) wanted) m ≡ with_rings wanted m
entries_made [] m = refl
entries_made (w ∷ ws) m = entries_made ws (insert m w.serial (new_ring w))

pub entries_new : (wanted : List NewRing) (m : Rings) → AreNew wanted m → HasEachNew (list_map (λ w. (w.serial, new_ring w)) wanted) m
entries_new [] m h = h
entries_new (w ∷ ws) m h = (h.0, entries_new ws (insert m w.serial (new_ring w)) h.1)

-- each new ring is one more
pub len-with_rings : (wanted : List NewRing) (m : Rings) → AreNew wanted m → len (with_rings wanted m) ≡ len m + length wanted
len-with_rings [] m h = omega arith
len-with_rings (w ∷ ws) m h =
    let one : len (insert m w.serial (new_ring w)) ≡ len m + 1 = len-insert nat_cmp_total m w.serial (new_ring w) ∙
    ap (λ o. cond (is_some o) (len m) (len m + 1)) h.0 in
    omega (arith, len-with_rings ws (insert m w.serial (new_ring w)) h.1, one)

-- ---- what has been put in

-- rings that are new are so one after the other
pub put_new : (wanted : List NewRing) (items : List (ℕ × Numbered)) (m n : Rings) → items ≡ list_map (λ w. (w.serial, new_ring w)) wanted → n ≡ m →
    AreNew wanted m → HasEachNew items n
put_new wanted items m n e same h = subst (HasEachNew items) (sym same) (subst (λ es. HasEachNew es m) (sym e) (entries_new wanted m h))

-- putting the entries of wanted rings in makes these rings
pub put_made : (wanted : List NewRing) (items : List (ℕ × Numbered)) (m n w : Rings) → items ≡ list_map (λ w. (w.serial, new_ring w)) wanted → n ≡ m →
    w ≡ with_entries items n → w ≡ with_rings wanted m
put_made wanted items m n w e same is = is ∙ ap (with_entries items) same ∙ ap (λ es. with_entries es m) e ∙ entries_made wanted m

once-insert : (m : Rings) (wanted : NewRing) → HaveEachNameOnce m → HaveEachNameOnce (insert m wanted.serial (new_ring wanted))
once-insert m wanted once q r there = by_key (eq_by_cmp nat_cmp q wanted.serial) (sym (get-insert nat_cmp_total m wanted.serial (new_ring wanted) q) ∙ there)
  where
    by_key : (b : Bool) → cond b (Some (new_ring wanted)) (get m q) ≡ Some r → HasEachNameOnce r.links
    by_key true e = let is : new_ring wanted ≡ r = cc in subst (λ (x : Numbered). HasEachNameOnce x.links) is once_empty
    by_key false e = once q r e

once-with_rings : (wanted : List NewRing) (m : Rings) → HaveEachNameOnce m → HaveEachNameOnce (with_rings wanted m)
once-with_rings [] m once = once
once-with_rings (w ∷ ws) m once = once-with_rings ws (insert m w.serial (new_ring w)) (once-insert m w once)

-- rings stay in form where new ones are made, at serials and at most 1,024 in all
pub rows_made : (wanted : List NewRing) (m w : Rings) → w ≡ with_rings wanted m → AreNew wanted m → len m + length wanted ≤ 1024 → AreSerials w
    → HaveEachNameOnce m → AreRows w
rows_made wanted m w is new room all once = (
  omega (arith, ap len is, len-with_rings wanted m new, room),
  all,
  subst HaveEachNameOnce (sym is) (once-with_rings wanted m once),
)
