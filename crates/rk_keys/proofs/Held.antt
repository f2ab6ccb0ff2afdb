-- What is known of the keys holds together through each change.
use Rattle.rk_keys.proofs.Words.{◌∙◌, ap, ◌≡◌, refl, sym, ℕ, false, cond, true, Bool, inl, inr, both_ways, eq-eqb, or_parts, cases_eq, none-some, same_Some}
use Rattle.rk_keys.proofs.Words.{nat_cmp_total, nat_eq_equiv, nat_cmp, eq_by_cmp, Some, None, Option, nat_eq, is_some, option_map, ◌==◌, tie, get_changed_at}
use Rattle.rk_keys.proofs.Words.{at_new, taken_out, at_other, left_in, contains_key_changed_at, have_one_name, Known, IsHeld, concluded, IsNaming, marked}
use Rattle.rk_keys.proofs.Words.{timed, with_key_changed, without_key, Drawn, with_drawn, Condition, Key}
use Rattle.std.specs.FinMap as map
use Rattle.std.specs.FinSet as set
use Rattle.rk_keys.proofs.Names.{SharesNumber, have_one_name-sym, have_one_name-refl, have_one_name-same, stays_drawn}

-- ---- a map with one entry put in or taken out

module _ {V : Type 0} where
  kept_from : (m : map.FinMap nat_cmp V) (k q : ℕ) (v : V) → map.get (map.remove m k) q ≡ Some v → map.get m q ≡ Some v
  kept_from m k q v is = elim (cases_eq q k) [ inl e ↦ absurd (none-some v (sym (taken_out m k q e) ∙ is)) | inr ne ↦ sym (left_in m k q ne) ∙ is ]

  no_value : (f : V → V) (b : Bool) → None ≡ cond b (option_map f None) None
  no_value f true = refl
  no_value f false = refl

-- ---- what holds

-- no key is there
pub held_empty : (d : Drawn) → IsHeld (record { keys = map.empty; numbers = map.empty; serials = d })
held_empty d = record {
  naming = record {
    each = λ k. ap is_some (map.get-empty nat_cmp k) ∙ sym (ap is_some (map.get-empty nat_cmp k));
    shared = λ j k a b m n ja. absurd (none-some a (sym (map.get-empty nat_cmp j) ∙ ja));
  };
  drawn = λ k _. map.get-empty nat_cmp k;
  numbered = λ k n is. absurd (none-some n (sym (map.get-empty nat_cmp k) ∙ is));
}

-- a change of a key that leaves its name
abbrev pub KeepsName : (Key → Key) → Type 0
KeepsName f = (a : Key) → ((f a).typ ≡ a.typ) × ((f a).description ≡ a.description)

named_by : (f : Key → Key) (b : Bool) (o : Option Key) (x : Key) → KeepsName f → cond b (option_map f o) o ≡ Some x
    → (a : Key) × (o ≡ Some a) × (a.typ ≡ x.typ) × (a.description ≡ x.description)
named_by f true None x keeps is = absurd (none-some x is)
named_by f true (Some a) x keeps is = let e : f a ≡ x = same_Some (f a) x is in
    (a, refl, sym (keeps a).0 ∙ ap (λ (y : Key). y.typ) e, sym (keeps a).1 ∙ ap (λ (y : Key). y.description) e)
named_by f false None x keeps is = absurd (none-some x is)
named_by f false (Some a) x keeps is = let e : a ≡ x = same_Some a x is in (a, refl, ap (λ (y : Key). y.typ) e, ap (λ (y : Key). y.description) e)

no_key : (f : Key → Key) (b : Bool) (o : Option Key) → o ≡ None → cond b (option_map f o) o ≡ None
no_key f b o e = ap (λ (p : Option Key). cond b (option_map f p) p) e ∙ sym (no_value f b)

-- a key is changed, and keeps its name
pub held_changed : (known : Known) (k : ℕ) (f : Key → Key) → KeepsName f → IsHeld known → IsHeld (with_key_changed k f known)
held_changed known k f keeps held = record {
  naming = record {
    each = λ q. held.naming.each q ∙ sym (contains_key_changed_at k f known.keys q);
    shared = λ i j a b m n ia jb im jn.
        let x = named_by f (nat_eq k i) (map.get known.keys i) a keeps (sym (get_changed_at k f known.keys i) ∙ ia) in
        let y = named_by f (nat_eq k j) (map.get known.keys j) b keeps (sym (get_changed_at k f known.keys j) ∙ jb) in
        held.naming.shared i j x.0 y.0 m n x.1 y.1 im jn ∙ have_one_name-same x.0 y.0 a b x.2 x.3 y.2 y.3;
  };
  drawn = λ q e. get_changed_at k f known.keys q ∙ no_key f (nat_eq k q) (map.get known.keys q) (held.drawn q e);
  numbered = held.numbered;
}

-- a key is forgotten
pub held_without : (known : Known) (k : ℕ) → IsHeld known → IsHeld (without_key k known)
held_without known k held = record {
  naming = record {
    each = λ q. elim (cases_eq q k) [
      | inl e ↦ ap is_some (taken_out known.numbers k q e) ∙ sym (ap is_some (taken_out known.keys k q e))
      | inr ne ↦ ap is_some (left_in known.numbers k q ne) ∙ held.naming.each q ∙ sym (ap is_some (left_in known.keys k q ne))
    ];
    shared = λ i j a b m n ia jb im jn.
        held.naming.shared i j a b m n (kept_from known.keys k i a ia) (kept_from known.keys k j b jb) (kept_from known.numbers k i m im)
        (kept_from known.numbers k j n jn);
  };
  drawn = λ q e. elim (cases_eq q k) [ inl is ↦ taken_out known.keys k q is | inr ne ↦ left_in known.keys k q ne ∙ held.drawn q e ];
  numbered = λ q n is. held.numbered q n (kept_from known.numbers k q n is);
}

-- ---- a new key

here : {V : Type 0} → (m : map.FinMap nat_cmp V) (k : ℕ) (v : V) (q : ℕ) (x : V) → q ≡ k → map.get (map.insert m k v) q ≡ Some x → v ≡ x
here m k v q x e is = same_Some v x (sym (at_new m k v q e) ∙ is)

there : {V : Type 0} → (m : map.FinMap nat_cmp V) (k : ℕ) (v : V) (q : ℕ) (x : V) → (q ≡ k → ⊥) → map.get (map.insert m k v) q ≡ Some x → map.get m q ≡ Some x
there m k v q x ne is = sym (at_other m k v q ne) ∙ is

shares : (keys : map.FinMap nat_cmp Key) (numbers : map.FinMap nat_cmp ℕ) (k : ℕ) (key : Key) (n : ℕ) → IsNaming keys numbers → SharesNumber keys numbers key n
    → (i j : ℕ) (a b : Key) (x y : ℕ) → map.get (map.insert keys k key) i ≡ Some a → map.get (map.insert keys k key) j ≡ Some b
    → map.get (map.insert numbers k n) i ≡ Some x → map.get (map.insert numbers k n) j ≡ Some y → (x == y) ≡ have_one_name a b
shares keys numbers k key n naming new i j a b x y ia jb ix jy = elim (cases_eq i k) [
  | inl ei ↦ elim (cases_eq j k) [
    | inl ej ↦
        eq-eqb x y (sym (here numbers k n i x ei ix) ∙ here numbers k n j y ej jy)
        ∙ sym (have_one_name-refl key) ∙ ap (have_one_name key) (here keys k key j b ej jb) ∙ ap (λ c. have_one_name c b) (here keys k key i a ei ia)
    | inr nj ↦
        ap (λ z. z == y) (sym (here numbers k n i x ei ix)) ∙ new.each j b y (there keys k key j b nj jb) (there numbers k n j y nj jy)
        ∙ ap (λ c. have_one_name c b) (here keys k key i a ei ia)
  ]
  | inr ni ↦ elim (cases_eq j k) [
    | inl ej ↦
        ap (λ z. x == z) (sym (here numbers k n j y ej jy)) ∙ nat_eq_equiv.symm x n ∙ new.each i a x (there keys k key i a ni ia) (there numbers k n i x ni ix)
        ∙ have_one_name-sym key a ∙ ap (have_one_name a) (here keys k key j b ej jb)
    | inr nj ↦ naming.shared i j a b x y (there keys k key i a ni ia) (there keys k key j b nj jb) (there numbers k n i x ni ix) (there numbers k n j y nj jy)
  ]
]

-- a key is made, under a number for it that is drawn
pub held_made : (known : Known) (k : ℕ) (key : Key) (n : ℕ) → SharesNumber known.keys known.numbers key n →
    set.contains (set.insert known.serials.used k) n ≡ true → IsHeld known
    → IsHeld (record { keys = map.insert known.keys k key; numbers = map.insert known.numbers k n; serials = with_drawn k known.serials })
held_made known k key n new used held = record {
  naming = record {
    each = λ q. elim (cases_eq q k) [
      | inl e ↦ ap is_some (at_new known.numbers k n q e) ∙ sym (ap is_some (at_new known.keys k key q e))
      | inr ne ↦ ap is_some (at_other known.numbers k n q ne) ∙ held.naming.each q ∙ sym (ap is_some (at_other known.keys k key q ne))
    ];
    shared = shares known.keys known.numbers k key n held.naming new;
  };
  drawn = λ q e.
      let parts = or_parts (eq_by_cmp nat_cmp q k) (set.contains known.serials.used q) (sym (set.contains-insert nat_cmp_total known.serials.used k q) ∙ e) in
      at_other known.keys k key q (λ same. both_ways _ parts.0 (tie q k ∙ eq-eqb k q (sym same))) ∙ held.drawn q parts.1;
  numbered = λ q m is. elim (cases_eq q k) [
    | inl e ↦ ap (set.contains (set.insert known.serials.used k)) (sym (here known.numbers k n q m e is)) ∙ used
    | inr ne ↦ stays_drawn known.serials k m (held.numbered q m (there known.numbers k n q m ne is))
  ];
}

-- what is known of the keys holds together after a new key is put in with its number
pub held_made_so : (known : Known) (k : ℕ) (key : Key) (n : ℕ) (keys : map.FinMap nat_cmp Key) (numbers : map.FinMap nat_cmp ℕ) (serials : Drawn)
    → keys ≡ map.insert known.keys k key → numbers ≡ map.insert known.numbers k n → serials ≡ with_drawn k known.serials
    → SharesNumber known.keys known.numbers key n × (set.contains (set.insert known.serials.used k) n ≡ true) → IsHeld known
    → IsHeld (record { keys = keys; numbers = numbers; serials = serials })
held_made_so known k key n keys numbers serials is_keys is_numbers is_serials number held =
    rw (is_keys, is_numbers, is_serials) (held_made known k key n number.0 number.1 held)

-- ---- the changes keep a key's name

-- concluding a key leaves its name
pub concluded_keeps : (condition : Condition) (expiry : Option ℕ) → KeepsName (concluded condition expiry)
concluded_keeps condition None = λ a. (refl, refl)
concluded_keeps condition (Some end) = λ a. (refl, refl)

-- revoking a key leaves its name
pub marked_keeps : KeepsName marked
marked_keeps = λ a. (refl, refl)

-- setting a key's expiry leaves its name
pub timed_keeps : (now seconds : ℕ) → KeepsName (timed now seconds)
timed_keeps now seconds = λ a. (refl, refl)
