-- Rings that are to be made, with the numbers of names and without.
use Rattle.rk_core.proofs.Words.{◌≡◌, ℕ, zero, suc, false, cond, ◌||◌, List, [], ◌∷◌, ◌++◌, refl, sym, ap, ◌∙◌, subst, arith, Option, Some, None, nat_eq}
use Rattle.rk_core.proofs.Words.{option_map, nat_cmp, nat_cmp_total, tie, Drawn, IsFresh, with_drawn, NewRing, Ring, empty_ring, Rings, ring_seen, rings_seen}
use Rattle.rk_core.proofs.Words.{new_ring, with_rings, AreNew, some_key, one_less, get-rings_seen, contains_key-rings_seen, rings_seen-empty, rings_seen-insert}
use Rattle.rk_core.proofs.Words.{rings_seen-remove, ring_seen-new_ring, World, Makes, with_all, AreAllNew, with_new_rings, AreNewRings, get_inserted, or_left}
use Rattle.rk_core.proofs.Words.{or_right}
use Rattle.std.specs.FinMap as map
use Rattle.std.specs.FinSet as set

-- ---- rings as they are seen

as_many : (n : ℕ) (m : Rings) → map.len m ≡ n → map.len (rings_seen m) ≡ n
as_many zero m e = ap (λ (r : Rings). map.len (rings_seen r)) (map.empty_of_len m e) ∙ ap map.len rings_seen-empty ∙ map.len-empty nat_cmp Ring
as_many (suc n) m e =
    let k = some_key m (omega (arith, e)) in
    let rest : map.len (rings_seen (map.remove m k.0)) ≡ n = as_many n (map.remove m k.0) (omega (arith, one_less m k.0 k.1, e)) in
    omega (arith, rest, ap map.len (rings_seen-remove m k.0), one_less (rings_seen m) k.0 (contains_key-rings_seen m k.0 ∙ k.1))

-- as many rings are seen as there are
pub len-rings_seen : (m : Rings) → map.len (rings_seen m) ≡ map.len m
len-rings_seen m = as_many (map.len m) m refl

none_of : {A B : Type 0} (f : A → B) (o : Option A) → option_map f o ≡ None → o ≡ None
none_of f None e = refl
none_of f (Some x) e = absurd (cc)

one_seen : (m : Rings) (one : NewRing) → rings_seen (map.insert m one.serial (new_ring one))
    ≡ map.insert (rings_seen m) one.serial (empty_ring one.kind one.uid)
one_seen m one = rings_seen-insert m one.serial (new_ring one) ∙ ap (map.insert (rings_seen m) one.serial) (ring_seen-new_ring one)

-- what is new among the rings that are seen is new
pub all_new : (made : List NewRing) (m : Rings) → AreAllNew made (rings_seen m) → AreNew made m
all_new [] m h = tt
all_new (one ∷ more) m h = (
  none_of ring_seen (map.get m one.serial) (sym (get-rings_seen m one.serial) ∙ h.0),
  all_new more (map.insert m one.serial (new_ring one)) (subst (AreAllNew more) (sym (one_seen m one)) h.1),
)

-- rings that are made are seen as made
pub with_all_seen : (made : List NewRing) (m : Rings) → rings_seen (with_rings made m) ≡ with_all made (rings_seen m)
with_all_seen [] m = refl
with_all_seen (one ∷ more) m = with_all_seen more (map.insert m one.serial (new_ring one)) ∙ ap (with_all more) (one_seen m one)

-- ---- one ring more

with_all_push : (made : List NewRing) (m : map.FinMap nat_cmp Ring) (one : NewRing)
    → with_all (made ++ one ∷ []) m ≡ map.insert (with_all made m) one.serial (empty_ring one.kind one.uid)
with_all_push [] m one = refl
with_all_push (first ∷ more) m one = with_all_push more (map.insert m first.serial (empty_ring first.kind first.uid)) one

all_new_push : (made : List NewRing) (m : map.FinMap nat_cmp Ring) (one : NewRing) → AreAllNew made m → map.get (with_all made m) one.serial ≡ None
    → AreAllNew (made ++ one ∷ []) m
all_new_push [] m one h none = (none, tt)
all_new_push (first ∷ more) m one h none = (h.0, all_new_push more (map.insert m first.serial (empty_ring first.kind first.uid)) one h.1 none)

-- a serial that is unused after a ring was made is neither the ring's, nor was it used before
pub not_used : (d : Drawn) (k q : ℕ) → set.contains (with_drawn k d).used q ≡ false → (nat_eq k q ≡ false) × (set.contains d.used q ≡ false)
not_used d k q h =
    let e : (nat_eq k q || set.contains d.used q) ≡ false =
    sym (ap (λ b. b || set.contains d.used q) (tie q k)) ∙ sym (set.contains-insert nat_cmp_total d.used k q) ∙ h in
    (or_left (nat_eq k q) (set.contains d.used q) e, or_right (nat_eq k q) (set.contains d.used q) e)

-- a serial without a ring is still without one, where it is not the new ring's
pub still_none : (rings : map.FinMap nat_cmp Ring) (k q : ℕ) (r : Ring) → nat_eq k q ≡ false → map.get rings q ≡ None → map.get (map.insert rings k r) q ≡ None
still_none rings k q r other none = get_inserted rings k r q ∙ ap (λ b. cond b (Some r) (map.get rings q)) other ∙ none

-- one more ring under a fresh serial leaves rings to be made, beside those that are there
pub one_more_new : (old new : Drawn) (made more : List NewRing) (rings : map.FinMap nat_cmp Ring) (one : NewRing) → IsFresh old one.serial
    → new ≡ with_drawn one.serial old → more ≡ made ++ one ∷ []
    → AreNewRings old made rings → AreNewRings new more rings
one_more_new old new made more rings one fresh n m f =
    let added : AreNewRings (with_drawn one.serial old) (made ++ one ∷ []) rings = record {
      new = all_new_push made rings one f.new (f.more one.serial fresh.unused);
      more = λ q h.
          let apart = not_used old one.serial q h in
          ap (λ (m : map.FinMap nat_cmp Ring). map.get m q) (with_all_push made rings one)
          ∙ still_none (with_all made rings) one.serial q (empty_ring one.kind one.uid) apart.0 (f.more q apart.1);
    } in
    subst (λ (s : Drawn). AreNewRings s more rings) (sym n) (subst (λ es. AreNewRings (with_drawn one.serial old) es rings) (sym m) added)

-- one more ring under a fresh serial is one that the machine makes
pub makes_one : (old new : Drawn) (made more : List NewRing) (one : NewRing) → IsFresh old one.serial → new ≡ with_drawn one.serial old
    → more ≡ made ++ one ∷ []
    → (w : World) → Makes one.kind one.uid (with_new_rings old made w) (with_new_rings new more w) one.serial
makes_one old new made more one fresh n m w =
    let rings : with_all more w.rings ≡ map.insert (with_all made w.rings) one.serial (empty_ring one.kind one.uid) =
    ap (λ es. with_all es w.rings) m ∙ with_all_push made w.rings one in
    (fresh, λ i. record w { serials = n i; rings = rings i })

-- ---- none

-- at first no ring is to be made, and no undrawn serial has a ring
pub new_at_first : (serials : Drawn) (made : List NewRing) (w : World) → serials ≡ w.serials → made ≡ []
    → ((k : ℕ) → set.contains w.serials.used k ≡ false → map.get w.rings k ≡ None)
    → AreNewRings serials made w.rings
new_at_first serials made w s m unused =
    subst (λ es. AreNewRings serials es w.rings) (sym m) (record { new = tt; more = λ k h. unused k (ap (λ (d : Drawn). set.contains d.used k) (sym s) ∙ h) })

-- no new ring changes nothing
pub none_made_yet : (serials : Drawn) (made : List NewRing) (w : World) → serials ≡ w.serials → made ≡ [] → with_new_rings serials made w ≡ w
none_made_yet serials made w s m = λ i. record w { serials = s i; rings = with_all (m i) w.rings }
