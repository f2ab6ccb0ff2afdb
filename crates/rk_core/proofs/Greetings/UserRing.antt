-- The user ring of a uid: which it is, and that the other rings of a context are none.
use Rattle.rk_core.proofs.Words.{◌≡◌, ℕ, Bool, true, false, cond, ◌+◌, refl, sym, ap, ◌∙◌, subst, inl, inr, Option, Some, None, is_none, nat_eq, option_map}
use Rattle.rk_core.proofs.Words.{MatchOption, option_map_or, nat_cmp, both_ways, eqb-true, RingKind, Ring, empty_ring, is_users, Numbered, Rings, ring_seen}
use Rattle.rk_core.proofs.Words.{rings_seen, is_user_ring, any_value, some_entry, entry_found, get-rings_seen, World, Greeting, has_user_ring, rings_made}
use Rattle.rk_core.proofs.Words.{Makes, MakesIf, HasSessionRing, HasUserRing, MakesOr, IsUserRing, get_inserted}
use Rattle.std.specs.FinMap as map
use Rattle.std.specs.FinSet as set
use Rattle.rk_rings.specs.declared.kind.RingKind.TheVariants as kind
use Rattle.rk_core.proofs.Greetings.RingsOfAContext.{not_used, still_none}

-- ---- whether a uid has one

user_there : (w : World) (uid k : ℕ) (r : Ring) → map.get w.rings k ≡ Some r → is_users r.kind r.uid uid ≡ true → has_user_ring w uid ≡ true
user_there w uid k r there is =
    any_value (λ (r : Ring). is_users r.kind r.uid uid) w.rings ∙ some_entry (λ (e : ℕ × Ring). is_users e.1.kind e.1.uid uid) w.rings k r there is

no_user : (w : World) (uid : ℕ) → ((k : ℕ) (r : Ring) → map.get w.rings k ≡ Some r → is_users r.kind r.uid uid ≡ true → ⊥) → has_user_ring w uid ≡ false
no_user w uid none = by_test (has_user_ring w uid) refl
  where
    by_test : (b : Bool) → has_user_ring w uid ≡ b → has_user_ring w uid ≡ false
    by_test false t = t
    by_test true t =
        let f = entry_found (λ (e : ℕ × Ring). is_users e.1.kind e.1.uid uid) w.rings (sym (any_value (λ (r : Ring). is_users r.kind r.uid uid) w.rings) ∙ t) in
        absurd (none f.0 f.1 f.2 f.3)

some_of : {A B : Type 0} (f : A → B) (o : Option A) (y : B) → option_map f o ≡ Some y → (x : A) × (o ≡ Some x) × (f x ≡ y)
some_of f None y e = absurd (cc)
some_of f (Some x) y e = (x, refl, cc)

passed : (p : Numbered → Bool) (o : Option Numbered) → option_map_or p o false ≡ true → (x : Numbered) × (o ≡ Some x) × (p x ≡ true)
passed p None h = absurd (both_ways false refl h)
passed p (Some x) h = (x, refl, h)

-- the user ring that is found among the rings with numbers
pub user_seen : (m : Rings) (uid : ℕ) (o : Option ℕ)
    → MatchOption o ((k : ℕ) (r : Numbered) → map.get m k ≡ Some r → is_user_ring uid r ≡ false)
    (λ k. option_map_or (is_user_ring uid) (map.get m k) false ≡ true)
    → (w : World) → rings_seen m ≡ w.rings → IsUserRing w uid o
user_seen m uid None none w e = no_user w uid (λ k r there is.
    let x = some_of ring_seen (map.get m k) r (sym (get-rings_seen m k) ∙ ap (λ (n : map.FinMap nat_cmp Ring). map.get n k) e ∙ there) in
    both_ways _ (none k x.0 x.1) (ap (λ (r : Ring). is_users r.kind r.uid uid) x.2 ∙ is))
user_seen m uid (Some k) found w e =
    let x = passed (is_user_ring uid) (map.get m k) found in
    (ring_seen x.0, sym (ap (λ (n : map.FinMap nat_cmp Ring). map.get n k) e) ∙ get-rings_seen m k ∙ ap (option_map ring_seen) x.1, x.2)

-- it is made if there is none
made_or_there : (w : World) (uid : ℕ) (o : Option ℕ) → IsUserRing w uid o → ◌≡◌ {A = ℕ} (cond (is_none o) 1 0) (cond (has_user_ring w uid) 0 1)
made_or_there w uid None none = ap (λ b. cond b 0 1) (sym none)
made_or_there w uid (Some k) found = ap (λ b. cond b 0 1) (sym (user_there w uid k found.0 found.1 found.2))

-- the rings that are made one by one are as many as the machine counts
pub count_made : (w : World) (g : Greeting) (o : Option ℕ) → IsUserRing w g.uid o
    → cond g.thread 1 0 + cond g.process 1 0 + cond (is_none g.join) 1 0 + cond (is_none o) 1 0 ≡ rings_made w g
count_made w g o is = ap (λ n. cond g.thread 1 0 + cond g.process 1 0 + cond (is_none g.join) 1 0 + n) (made_or_there w g.uid o is)

-- ---- the other rings are no user rings

-- the rings stay, no user ring comes, and rings have drawn serials
pub record KeepsUsers (uid : ℕ) (old new : World) : Type 0 where
  pub there : (k : ℕ) (r : Ring) → map.get old.rings k ≡ Some r → map.get new.rings k ≡ Some r
  pub users : (k : ℕ) (r : Ring) → map.get new.rings k ≡ Some r → is_users r.kind r.uid uid ≡ true → map.get old.rings k ≡ Some r
  pub unused : (k : ℕ) → set.contains new.serials.used k ≡ false → map.get new.rings k ≡ None

-- a world in which rings have drawn serials keeps its user rings
pub keeps_all : (uid : ℕ) (w : World) → ((k : ℕ) → set.contains w.serials.used k ≡ false → map.get w.rings k ≡ None) → KeepsUsers uid w w
keeps_all uid w unused = record { there = λ k r h. h; users = λ k r h is. h; unused = unused }

same_world : (uid : ℕ) (old mid new : World) → new ≡ mid → KeepsUsers uid old mid → KeepsUsers uid old new
same_world uid old mid new e h = subst (KeepsUsers uid old) (sym e) h

made : (kind : RingKind) (uid : ℕ) → is_users kind uid uid ≡ false → (old mid new : World) (ring : ℕ) → Makes kind uid mid new ring → KeepsUsers uid old mid
    → KeepsUsers uid old new
made kind uid other old mid new ring m h = same_world uid old _ new m.1 (record {
  there = λ k r at.
      get_inserted mid.rings ring (empty_ring kind uid) k
      ∙ elim (nat_eq ring k) as (λ b. nat_eq ring k ≡ b → cond b (Some (empty_ring kind uid)) (map.get mid.rings k) ≡ Some r) [
        | true ↦ λ t. absurd (not_there k r (h.there k r at) (ap (map.get mid.rings) (sym (eqb-true ring k t)) ∙ h.unused ring m.0.unused))
        | false ↦ λ t. h.there k r at
      ] refl;
  users = λ k r at is. by_key k r (nat_eq ring k) (sym (get_inserted mid.rings ring (empty_ring kind uid) k) ∙ at) is;
  unused = λ k n. let apart = not_used mid.serials ring k n in still_none mid.rings ring k (empty_ring kind uid) apart.0 (h.unused k apart.1);
})
  where
    not_there : (k : ℕ) (r : Ring) → map.get mid.rings k ≡ Some r → map.get mid.rings k ≡ None → ⊥
    not_there k r at none = let no : None ≡ Some r = sym none ∙ at in absurd (cc)

    by_key : (k : ℕ) (r : Ring) (b : Bool) → cond b (Some (empty_ring kind uid)) (map.get mid.rings k) ≡ Some r → is_users r.kind r.uid uid ≡ true
        → map.get old.rings k ≡ Some r
    by_key k r true e is =
        let same : empty_ring kind uid ≡ r = cc in
        absurd (both_ways _ other (ap (λ (r : Ring). is_users r.kind r.uid uid) same ∙ is))
    by_key k r false e is = h.users k r e is

-- making a ring of another kind, if it is wanted, keeps the user rings
pub keeps_if : (b : Bool) (kind : RingKind) (uid : ℕ) → is_users kind uid uid ≡ false → (old mid new : World) (ring : Option ℕ)
    → MakesIf b kind uid mid new ring → KeepsUsers uid old mid
    → KeepsUsers uid old new
keeps_if false kind uid other old mid new ring m h = same_world uid old mid new m.1 h
keeps_if true kind uid other old mid new ring m h = made kind uid other old mid new m.0 m.2 h

-- making or joining a session ring keeps the user rings
pub keeps_session : (join : Option ℕ) (uid : ℕ) (old mid new : World) (ring : ℕ) → HasSessionRing join uid mid new ring → KeepsUsers uid old mid
    → KeepsUsers uid old new
keeps_session None uid old mid new ring m h = made kind.Session uid refl old mid new ring m h
keeps_session (Some join) uid old mid new ring m h = same_world uid old mid new m.1 h

-- ---- what is with_new_rings, as HELLO says it

-- a session ring that is named or made is one that is joined or made
pub joined_or_made : (join : Option ℕ) (uid : ℕ) (old new : World) (ring : ℕ) → MakesOr join kind.Session uid old new ring
    → HasSessionRing join uid old new ring
joined_or_made None uid old new ring h = h
joined_or_made (Some join) uid old new ring h = h

-- the user ring that was there before the others were made, or a new one
pub user_made : (uid : ℕ) (old mid new : World) (o : Option ℕ) (ring : ℕ) → IsUserRing old uid o → KeepsUsers uid old mid → MakesOr o kind.User uid mid new ring
    → HasUserRing uid mid new ring
user_made uid old mid new None ring none h m = inr (no_user mid uid (λ k r at is. both_ways _ none (user_there old uid k r (h.users k r at is) is)), m)
user_made uid old mid new (Some there) ring found h m = inl (found.0, ap (map.get mid.rings) m.0 ∙ h.there there found.0 found.1, found.2, m.1)
