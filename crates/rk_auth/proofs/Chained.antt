-- The chains through the slots, where one is put in front and where one is taken out.
use Rattle.rk_auth.proofs.Words.{◌∙◌, ap, sym, ◌≡◌, subst, refl, ℕ, cond, true, false, inl, inr, ◌||◌, Bool, List, ◌∷◌, both_ways, cases_eq, eq-eqb, ne_eqb}
use Rattle.rk_auth.proofs.Words.{none-some, same_Some, get, Some, None, nat_eq, is_some, Option, option_map, option_and_then, of_choice, get_changed_at}
use Rattle.rk_auth.proofs.Words.{changed_at, standing_at, home_at, AreChained, has, names, standing_in, home_in, IsChain, first_in, next_in, first_at}
use Rattle.rk_auth.proofs.Words.{IsChainOf, with_link, with_before, changed_if, link_in, before_in, next_at, before_at, with_first, with_next, led_to, Link}
use Rattle.rk_auth.proofs.Words.{Slot, Slots}
use Rattle.rk_auth.proofs.Lists.{without, has_without, once_without}
use Rattle.rk_auth.proofs.Links.{at_same, at_apart, chosen, named_is, is_named, not_named, over, over_named, over_other, frame}
use Rattle.rk_auth.proofs.Links.{in_front, taken_from, head_is, next_back, before_on, first_is}

-- ---- what a change of one slot does to a part of it

same_cond : {X : Type 0} (b : Bool) (x : X) → cond b x x ≡ x
same_cond true x = refl
same_cond false x = refl

-- after a change of the slot at k, what is read at k is read of the changed slot, and at every other place as before
pub changed : {X : Type 0} (P : Option Slot → X) (k : ℕ) (f : Slot → Slot) (m : Slots) (q : ℕ) → P (get (changed_at k f m) q) ≡ cond (nat_eq k q) (P (option_map f (get m q))) (P (get m q))
changed P k f m q = ap P (get_changed_at k f m q) ∙ of_choice P (nat_eq k q) (option_map f (get m q)) (get m q)

left_alone : {X : Type 0} (P : Option Slot → X) (f : Slot → Slot) → ((s : Slot) → P (Some (f s)) ≡ P (Some s)) → (o : Option Slot) → P (option_map f o) ≡ P o
left_alone P f same None = refl
left_alone P f same (Some s) = same s

-- a change of one slot leaves what P reads at every place, where it leaves what P reads of a slot
pub untouched : {X : Type 0} (P : Option Slot → X) (k : ℕ) (f : Slot → Slot) → ((s : Slot) → P (Some (f s)) ≡ P (Some s)) → (m : Slots) (q : ℕ)
    → P (get (changed_at k f m) q) ≡ P (get m q)
untouched P k f same m q =
    changed P k f m q ∙ ap (λ x. cond (nat_eq k q) x (P (get m q))) (left_alone P f same (get m q)) ∙ same_cond (nat_eq k q) (P (get m q))

touched : {X : Type 0} (P : Option Slot → X) (k : ℕ) (f : Slot → Slot) (m : Slots) (q : ℕ) → k ≡ q → P (get (changed_at k f m) q) ≡ P (option_map f (get m q))
touched P k f m q e = changed P k f m q ∙ at_same k q _ _ e

passed : {X : Type 0} (P : Option Slot → X) (k : ℕ) (f : Slot → Slot) (m : Slots) (q : ℕ) → (k ≡ q → ⊥) → P (get (changed_at k f m) q) ≡ P (get m q)
passed P k f m q ne = changed P k f m q ∙ at_apart k q _ _ ne

-- ---- a change of the link leaves its other parts

on_link : {X : Type 0} (P : Option Link → X) (f : Link → Link) → ((l : Link) → P (Some (f l)) ≡ P (Some l)) → (s : Slot) → P (option_map f s.link) ≡ P s.link
on_link P f same s = elim s.link as (λ k. P (option_map f k) ≡ P k) [ None ↦ refl | Some l ↦ same l ]

before_home : (v : Option ℕ) (s : Slot) → home_in (Some (with_before v s)) ≡ home_in (Some s)
before_home v = on_link (option_map (λ (l : Link). l.home)) (λ l. record l { before = v }) (λ l. refl)

before_next : (v : Option ℕ) (s : Slot) → next_in (Some (with_before v s)) ≡ next_in (Some s)
before_next v = on_link (option_and_then (λ (l : Link). l.next)) (λ l. record l { before = v }) (λ l. refl)

next_home : (v : Option ℕ) (s : Slot) → home_in (Some (with_next v s)) ≡ home_in (Some s)
next_home v = on_link (option_map (λ (l : Link). l.home)) (λ l. record l { next = v }) (λ l. refl)

next_before : (v : Option ℕ) (s : Slot) → before_in (Some (with_next v s)) ≡ before_in (Some s)
next_before v = on_link (option_and_then (λ (l : Link). l.before)) (λ l. record l { next = v }) (λ l. refl)

-- ---- what a change writes

written : {X : Type 0} (P : Option Slot → X) (f : Slot → Slot) (v : X) → ((s : Slot) → P (Some (f s)) ≡ v) → (o : Option Slot) → is_some o ≡ true
    → P (option_map f o) ≡ v
written P f v writes None t = absurd (both_ways _ refl t)
written P f v writes (Some s) t = writes s

link_written : (part : Link → Option ℕ) (f : Link → Link) (v : Option ℕ) → ((l : Link) → part (f l) ≡ v) → (o : Option Slot) → is_some (home_in o) ≡ true
    → option_and_then part (link_in (option_map (λ (s : Slot). record s { link = option_map f s.link }) o)) ≡ v
link_written part f v writes None t = absurd (both_ways _ refl t)
link_written part f v writes (Some s) t =
    elim s.link as (λ k. is_some (option_map (λ (l : Link). l.home) k) ≡ true → option_and_then part (option_map f k) ≡ v) [
      | None ↦ λ t. absurd (both_ways _ refl t)
      | Some l ↦ λ t. writes l
    ] t

before_written : (v : Option ℕ) (o : Option Slot) → is_some (home_in o) ≡ true → before_in (option_map (with_before v) o) ≡ v
before_written v = link_written (λ l. l.before) (λ l. record l { before = v }) v (λ l. refl)

next_written : (v : Option ℕ) (o : Option Slot) → is_some (home_in o) ≡ true → next_in (option_map (with_next v) o) ≡ v
next_written v = link_written (λ l. l.next) (λ l. record l { next = v }) v (λ l. refl)

home_out : (o : Option Slot) → home_in (option_map (with_link None) o) ≡ None
home_out None = refl
home_out (Some s) = refl

-- ---- a place that has a part is there, and in a chain

some_there : (o : Option Slot) (v : ℕ) → first_in o ≡ Some v → is_some o ≡ true
some_there None v e = absurd (none-some v e)
some_there (Some s) v e = refl

home_of : (part : Link → Option ℕ) (o : Option Link) (v : ℕ) → option_and_then part o ≡ Some v → (h : ℕ) × (option_map (λ (l : Link). l.home) o ≡ Some h)
home_of part None v e = absurd (none-some v e)
home_of part (Some l) v e = (l.home, refl)

-- ---- the facts of all chains

module _ (m : Slots) (chained : AreChained m) where
  in_chain : (q h : ℕ) → home_at m q ≡ Some h → has (chained h).0 q ≡ true
  in_chain q h e = (chained h).1.exact q ∙ is_named (home_at m q) h e

  pub back : (x y : ℕ) → next_at m x ≡ Some y → before_at m y ≡ Some x
  back x y e =
      let home = home_of (λ l. l.next) (link_in (get m x)) y e in
      (next_back (next_at m) (before_at m) x y None (first_at m home.0) (chained home.0).0 (chained home.0).1.linked (in_chain x home.0 home.1) e).0

  pub on : (x y : ℕ) → before_at m y ≡ Some x → next_at m x ≡ Some y
  on x y e =
      let home = home_of (λ l. l.before) (link_in (get m y)) x e in
      elim (before_on (next_at m) (before_at m) x y None (first_at m home.0) (chained home.0).0 (chained home.0).1.linked (in_chain y home.0 home.1) e) [
        | inl first ↦ absurd (none-some x first.0)
        | inr next ↦ next
      ]

  pub none_before : (j h : ℕ) → home_at m j ≡ Some h → before_at m j ≡ None → first_at m h ≡ Some j
  none_before j h home e = first_is (next_at m) (before_at m) j None (first_at m h) (chained h).0 (chained h).1.linked (in_chain j h home) e

  -- the first of a chain is in the chain that h heads, and none stands before it
  pub heads : (j h : ℕ) → first_at m h ≡ Some j → (home_at m j ≡ Some h) × (before_at m j ≡ None)
  heads j h e =
      let head = head_is (next_at m) (before_at m) j None (first_at m h) (chained h).0 (chained h).1.linked e in
      (named_is (home_at m j) h (sym ((chained h).1.exact j) ∙ head.1), head.0)

-- nothing that the chains are made of has changed
pub chained_same : (m n : Slots) → AreChained m → ((q : ℕ) → next_at n q ≡ next_at m q) → ((q : ℕ) → before_at n q ≡ before_at m q)
    → ((q : ℕ) → first_at n q ≡ first_at m q) → ((q : ℕ) → home_at n q ≡ home_at m q) → AreChained n
chained_same m n chained nexts befores firsts homes h =
    let xs : List ℕ = (chained h).0 in (
      xs,
      record {
        linked = subst (λ o. IsChain (next_at n) (before_at n) None o xs) (sym (firsts h))
            (frame (next_at m) (before_at m) (next_at n) (before_at n) None (first_at m h) xs (λ q t. nexts q) (λ q t. befores q) (chained h).1.linked);
        once = (chained h).1.once;
        exact = λ q. (chained h).1.exact q ∙ ap (λ o. names o h) (sym (homes q));
      },
    )

-- ---- one is taken out

-- it is taken out where before and after it are joined
pub record IsTaken (m n : Slots) (j : ℕ) : Type 0 where
  pub nexts : (q : ℕ) → (q ≡ j → ⊥) → next_at n q ≡ over (next_at m) j (next_at m q)
  pub befores : (q : ℕ) → (q ≡ j → ⊥) → before_at n q ≡ over (before_at m) j (before_at m q)
  pub firsts : (q : ℕ) → first_at n q ≡ over (next_at m) j (first_at m q)
  pub homes : (q : ℕ) → home_at n q ≡ cond (nat_eq j q) None (home_at m q)

-- slots stay chained where one is taken out of its chain
pub chained_taken : (m n : Slots) (j : ℕ) → AreChained m → IsTaken m n j → AreChained n
chained_taken m n j chained taken h =
    let xs : List ℕ = (chained h).0 in (
      without j xs,
      record {
        linked = subst (λ o. IsChain (next_at n) (before_at n) None o (without j xs)) (sym (taken.firsts h))
            (taken_from (next_at m) (before_at m) (next_at n) (before_at n) j None (first_at m h) xs (chained h).1.once taken.nexts taken.befores (chained h).1.linked);
        once = once_without j xs (chained h).1.once;
        exact = λ q. has_without j xs q ∙ ap (cond (nat_eq j q) false) ((chained h).1.exact q)
            ∙ sym (of_choice (λ o. names o h) (nat_eq j q) None (home_at m q)) ∙ ap (λ o. names o h) (sym (taken.homes q));
      },
    )

-- ---- one is put in front

pub record IsPut (m n : Slots) (j h : ℕ) : Type 0 where
  pub next : next_at n j ≡ first_at m h
  pub before : before_at n j ≡ None
  pub nexts : (q : ℕ) → (q ≡ j → ⊥) → next_at n q ≡ next_at m q
  pub befores : (q : ℕ) → (q ≡ j → ⊥) → before_at n q ≡ cond (names (first_at m h) q) (Some j) (before_at m q)
  pub firsts : (q : ℕ) → first_at n q ≡ cond (nat_eq h q) (Some j) (first_at m q)
  pub homes : (q : ℕ) → home_at n q ≡ cond (nat_eq j q) (Some h) (home_at m q)

module _ (m n : Slots) (j h : ℕ) (chained : AreChained m) (idle : home_at m j ≡ None) (is : IsPut m n j h) where
  not_in : (g : ℕ) → has (chained g).0 j ≡ false
  not_in g = (chained g).1.exact j ∙ ap (λ o. names o g) idle

  differs : (g q : ℕ) → has (chained g).0 q ≡ true → q ≡ j → ⊥
  differs g q t e = both_ways _ (ap (has (chained g).0) e ∙ not_in g) t

  put_here : IsChainOf n h (j ∷ (chained h).0)
  put_here = record {
    linked = subst (λ o. IsChain (next_at n) (before_at n) None o (j ∷ (chained h).0)) (sym (is.firsts h ∙ at_same h h (Some j) (first_at m h) refl))
        (in_front (next_at m) (before_at m) (next_at n) (before_at n) j (first_at m h) (chained h).0 (chained h).1.once is.next is.before
        (λ q t. is.nexts q (differs h q t)) (λ q t. is.befores q (differs h q t)) (chained h).1.linked);
    once = (not_in h, (chained h).1.once);
    exact = λ q. elim (cases_eq j q) [
      | inl e ↦ ap (λ b. b || has (chained h).0 q) (eq-eqb j q e) ∙ sym (is_named (home_at n q) h (is.homes q ∙ at_same j q (Some h) (home_at m q) e))
      | inr ne ↦ ap (λ b. b || has (chained h).0 q) (ne_eqb j q ne) ∙ (chained h).1.exact q ∙ ap (λ o. names o h) (sym (is.homes q ∙ at_apart j q (Some h) (home_at m q) ne))
    ];
  }

  left_there : (g : ℕ) → (h ≡ g → ⊥) → IsChainOf n g (chained g).0
  left_there g ne = record {
    linked = subst (λ o. IsChain (next_at n) (before_at n) None o (chained g).0) (sym (is.firsts g ∙ at_apart h g (Some j) (first_at m g) ne))
        (frame (next_at m) (before_at m) (next_at n) (before_at n) None (first_at m g) (chained g).0 (λ q t. is.nexts q (differs g q t))
        (λ q t. is.befores q (differs g q t) ∙ ap (λ b. cond b (Some j) (before_at m q)) (not_named (first_at m h) q (λ e. ne (same_Some h g
        (sym (heads m chained q h e).0 ∙ named_is (home_at m q) g (sym ((chained g).1.exact q) ∙ t)))))) (chained g).1.linked);
    once = (chained g).1.once;
    exact = λ q. elim (cases_eq j q) [
      | inl e ↦
          ap (has (chained g).0) (sym e) ∙ not_in g
          ∙ sym (not_named (home_at n q) g (λ s. ne (same_Some h g (sym (is.homes q ∙ at_same j q (Some h) (home_at m q) e) ∙ s))))
      | inr other ↦ (chained g).1.exact q ∙ ap (λ o. names o g) (sym (is.homes q ∙ at_apart j q (Some h) (home_at m q) other))
    ];
  }

  -- slots stay chained where one is put before a chain
  pub chained_put : AreChained n
  chained_put g = elim (cases_eq h g) [
    | inl e ↦ subst (λ x. (xs : List ℕ) × IsChainOf n x xs) e (j ∷ (chained h).0, put_here)
    | inr ne ↦ ((chained g).0, left_there g ne)
  ]

-- ---- the writes of push

module _ (m : Slots) (j h : ℕ) (chained : AreChained m) (idle : home_at m j ≡ None) (there : is_some (get m j) ≡ true) (home : is_some (get m h) ≡ true) where
  abbrev pub put_link : Link
  put_link = record { home = h; before = None; next = first_at m h }

  abbrev put_1 : Slots
  put_1 = changed_at j (with_link (Some put_link)) m

  abbrev put_2 : Slots
  put_2 = changed_at h (with_first (Some j)) put_1

  abbrev pub put_3 : Option ℕ → Slots
  put_3 n = changed_if n (with_before (Some j)) put_2

  -- what the first write leaves, the last leaves
  last_left : {X : Type 0} (P : Option Slot → X) → ((s : Slot) → P (Some (with_before (Some j) s)) ≡ P (Some s)) → (n : Option ℕ) (q : ℕ)
      → P (get (put_3 n) q) ≡ P (get put_2 q)
  last_left P same None q = refl
  last_left P same (Some y) q = untouched P y (with_before (Some j)) same put_2 q

  next_2 : (q : ℕ) → next_at put_2 q ≡ next_at put_1 q
  next_2 q = untouched next_in h (with_first (Some j)) (λ s. refl) put_1 q

  before_2 : (q : ℕ) → before_at put_2 q ≡ before_at put_1 q
  before_2 q = untouched before_in h (with_first (Some j)) (λ s. refl) put_1 q

  home_2 : (q : ℕ) → home_at put_2 q ≡ home_at put_1 q
  home_2 q = untouched home_in h (with_first (Some j)) (λ s. refl) put_1 q

  there_at : (q : ℕ) → j ≡ q → is_some (get m q) ≡ true
  there_at q e = ap (λ x. is_some (get m x)) (sym e) ∙ there

  befores_3 : (n : Option ℕ) → n ≡ first_at m h → (q : ℕ) → before_at (put_3 n) q ≡ cond (names n q) (Some j) (before_at put_1 q)
  befores_3 None is q = before_2 q
  befores_3 (Some y) is q =
      chosen y q (λ e.
      let homed : home_at m q ≡ Some h = (heads m chained q h (sym is ∙ ap (λ x. Some x) e)).0 in
      let apart : j ≡ q → ⊥ = λ s. none-some h (sym idle ∙ ap (home_at m) s ∙ homed) in
      touched before_in y (with_before (Some j)) put_2 q e
      ∙ before_written (Some j) (get put_2 q) (ap is_some (home_2 q ∙ passed home_in j (with_link (Some put_link)) m q apart ∙ homed)))
      (λ ne. passed before_in y (with_before (Some j)) put_2 q ne ∙ before_2 q)

  firsts_3 : (n : Option ℕ) (q : ℕ) → first_at (put_3 n) q ≡ cond (nat_eq h q) (Some j) (first_at m q)
  firsts_3 n q =
      last_left first_in (λ s. refl) n q
      ∙ chosen h q (λ e. touched first_in h (with_first (Some j)) put_1 q e
      ∙ written first_in (with_first (Some j)) (Some j) (λ s. refl) (get put_1 q)
      (untouched is_some j (with_link (Some put_link)) (λ s. refl) m q ∙ ap (λ x. is_some (get m x)) (sym e) ∙ home))
      (λ ne. passed first_in h (with_first (Some j)) put_1 q ne ∙ untouched first_in j (with_link (Some put_link)) (λ s. refl) m q)

  -- the three changes put j before the chain that h heads
  pub is_put : (n : Option ℕ) → n ≡ first_at m h → IsPut m (put_3 n) j h
  is_put n is = record {
    next = last_left next_in (before_next (Some j)) n j ∙ next_2 j ∙ touched next_in j (with_link (Some put_link)) m j refl
        ∙ written next_in (with_link (Some put_link)) (first_at m h) (λ s. refl) (get m j) there;
    before =
        befores_3 n is j ∙ ap (λ b. cond b (Some j) (before_at put_1 j)) (not_named n j (λ e. none-some h (sym idle ∙ (heads m chained j h (sym is ∙ e)).0)))
        ∙ touched before_in j (with_link (Some put_link)) m j refl ∙ written before_in (with_link (Some put_link)) None (λ s. refl) (get m j) there;
    nexts = λ q ne. last_left next_in (before_next (Some j)) n q ∙ next_2 q ∙ passed next_in j (with_link (Some put_link)) m q (λ e. ne (sym e));
    befores = λ q ne.
        befores_3 n is q ∙ ap (cond (names n q) (Some j)) (passed before_in j (with_link (Some put_link)) m q (λ e. ne (sym e)))
        ∙ ap (λ o. cond (names o q) (Some j) (before_at m q)) is;
    firsts = firsts_3 n;
    homes = λ q. last_left home_in (before_home (Some j)) n q ∙ home_2 q
        ∙ chosen j q (λ e. touched home_in j (with_link (Some put_link)) m q e
        ∙ written home_in (with_link (Some put_link)) (Some h) (λ s. refl) (get m q) (there_at q e)) (passed home_in j (with_link (Some put_link)) m q);
  }

  -- putting a slot before a chain leaves who stands at each place
  pub put_standing : (n : Option ℕ) (q : ℕ) → standing_at (put_3 n) q ≡ standing_at m q
  put_standing n q =
      last_left standing_in (λ s. refl) n q ∙ untouched standing_in h (with_first (Some j)) (λ s. refl) put_1 q
      ∙ untouched standing_in j (with_link (Some put_link)) (λ s. refl) m q

-- ---- the writes of unlink

module _ (m : Slots) (j : ℕ) (l : Link) (chained : AreChained m) (at : link_in (get m j) ≡ Some l) where
  abbrev out_1 : Option ℕ → Slots
  out_1 b = led_to l.home b l.next m

  abbrev out_2 : Option ℕ → Option ℕ → Slots
  out_2 b n = changed_if n (with_before l.before) (out_1 b)

  abbrev pub out_3 : Option ℕ → Option ℕ → Slots
  out_3 b n = changed_at j (with_link None) (out_2 b n)

  home_is : home_at m j ≡ Some l.home
  home_is = ap (option_map (λ (k : Link). k.home)) at

  next_is : next_at m j ≡ l.next
  next_is = ap (option_and_then (λ (k : Link). k.next)) at

  before_is : before_at m j ≡ l.before
  before_is = ap (option_and_then (λ (k : Link). k.before)) at

  -- what both writes of the first step leave
  left_1 : {X : Type 0} (P : Option Slot → X) → ((s : Slot) → P (Some (with_first l.next s)) ≡ P (Some s))
      → ((s : Slot) → P (Some (with_next l.next s)) ≡ P (Some s))
      → (b : Option ℕ) (q : ℕ) → P (get (out_1 b) q) ≡ P (get m q)
  left_1 P one other None q = untouched P l.home (with_first l.next) one m q
  left_1 P one other (Some p) q = untouched P p (with_next l.next) other m q

  left_2 : {X : Type 0} (P : Option Slot → X) → ((s : Slot) → P (Some (with_before l.before s)) ≡ P (Some s)) → (b n : Option ℕ) (q : ℕ)
      → P (get (out_2 b n) q) ≡ P (get (out_1 b) q)
  left_2 P same b None q = refl
  left_2 P same b (Some y) q = untouched P y (with_before l.before) same (out_1 b) q

  home_1 : (b : Option ℕ) (q : ℕ) → home_at (out_1 b) q ≡ home_at m q
  home_1 b q = left_1 home_in (λ s. refl) (next_home l.next) b q

  before_1 : (b : Option ℕ) (q : ℕ) → before_at (out_1 b) q ≡ before_at m q
  before_1 b q = left_1 before_in (λ s. refl) (next_before l.next) b q

  nexts_1 : (b : Option ℕ) → b ≡ l.before → (q : ℕ) → next_at (out_1 b) q ≡ over (next_at m) j (next_at m q)
  nexts_1 None is q =
      untouched next_in l.home (with_first l.next) (λ s. refl) m q
      ∙ sym (over_other (next_at m) j (next_at m q) (λ e. none-some q (is ∙ sym before_is ∙ back m chained q j e)))
  nexts_1 (Some p) is q = elim (cases_eq p q) [
    | inl e ↦
        let next : next_at m q ≡ Some j = on m chained q j (before_is ∙ sym is ∙ ap (λ x. Some x) e) in
        touched next_in p (with_next l.next) m q e ∙ next_written l.next (get m q) (ap is_some (home_of (λ k. k.next) (link_in (get m q)) j next).1)
        ∙ sym (over_named (next_at m) j (next_at m q) next ∙ next_is)
    | inr ne ↦
        passed next_in p (with_next l.next) m q ne
        ∙ sym (over_other (next_at m) j (next_at m q) (λ e. ne (same_Some p q (is ∙ sym before_is ∙ back m chained q j e))))
  ]

  firsts_1 : (b : Option ℕ) → b ≡ l.before → (q : ℕ) → first_at (out_1 b) q ≡ over (next_at m) j (first_at m q)
  firsts_1 None is q = elim (cases_eq l.home q) [
    | inl e ↦
        let first : first_at m q ≡ Some j = ap (first_at m) (sym e) ∙ none_before m chained j l.home home_is (before_is ∙ sym is) in
        touched first_in l.home (with_first l.next) m q e ∙ written first_in (with_first l.next) l.next (λ s. refl) (get m q) (some_there (get m q) j first)
        ∙ sym (over_named (next_at m) j (first_at m q) first ∙ next_is)
    | inr ne ↦
        passed first_in l.home (with_first l.next) m q ne
        ∙ sym (over_other (next_at m) j (first_at m q) (λ e. ne (same_Some l.home q (sym home_is ∙ (heads m chained j q e).0))))
  ]
  firsts_1 (Some p) is q =
      untouched first_in p (with_next l.next) (λ s. refl) m q
      ∙ sym (over_other (next_at m) j (first_at m q) (λ e. none-some p (sym (heads m chained j q e).1 ∙ before_is ∙ sym is)))

  befores_2 : (b n : Option ℕ) → n ≡ l.next → (q : ℕ) → before_at (out_2 b n) q ≡ over (before_at m) j (before_at m q)
  befores_2 b None is q = before_1 b q ∙ sym (over_other (before_at m) j (before_at m q) (λ e. none-some q (is ∙ sym next_is ∙ on m chained j q e)))
  befores_2 b (Some y) is q = elim (cases_eq y q) [
    | inl e ↦
        let before : before_at m q ≡ Some j = back m chained j q (next_is ∙ sym is ∙ ap (λ x. Some x) e) in
        touched before_in y (with_before l.before) (out_1 b) q e
        ∙ before_written l.before (get (out_1 b) q) (ap is_some (home_1 b q ∙ (home_of (λ k. k.before) (link_in (get m q)) j before).1))
        ∙ sym (over_named (before_at m) j (before_at m q) before ∙ before_is)
    | inr ne ↦
        passed before_in y (with_before l.before) (out_1 b) q ne ∙ before_1 b q
        ∙ sym (over_other (before_at m) j (before_at m q) (λ e. ne (same_Some y q (is ∙ sym next_is ∙ on m chained j q e))))
  ]

  -- the three changes take j out of its chain
  pub is_taken : (b n : Option ℕ) → b ≡ l.before → n ≡ l.next → IsTaken m (out_3 b n) j
  is_taken b n b_is n_is = record {
    nexts = λ q ne. passed next_in j (with_link None) (out_2 b n) q (λ e. ne (sym e)) ∙ left_2 next_in (before_next l.before) b n q ∙ nexts_1 b b_is q;
    befores = λ q ne. passed before_in j (with_link None) (out_2 b n) q (λ e. ne (sym e)) ∙ befores_2 b n n_is q;
    firsts = λ q. untouched first_in j (with_link None) (λ s. refl) (out_2 b n) q ∙ left_2 first_in (λ s. refl) b n q ∙ firsts_1 b b_is q;
    homes = λ q. chosen j q (λ e. touched home_in j (with_link None) (out_2 b n) q e ∙ home_out (get (out_2 b n) q))
        (λ ne. passed home_in j (with_link None) (out_2 b n) q ne ∙ left_2 home_in (before_home l.before) b n q ∙ home_1 b q);
  }

  -- taking a slot out of its chain leaves who stands at each place
  pub out_standing : (b n : Option ℕ) (q : ℕ) → standing_at (out_3 b n) q ≡ standing_at m q
  out_standing b n q =
      untouched standing_in j (with_link None) (λ s. refl) (out_2 b n) q ∙ left_2 standing_in (λ s. refl) b n q ∙ left_1 standing_in (λ s. refl) (λ s. refl) b q

-- who stands in no chain is in none once he is taken out
pub no_link : (m : Slots) (j : ℕ) → link_in (get m j) ≡ None → (q : ℕ) → home_at m q ≡ cond (nat_eq j q) None (home_at m q)
no_link m j none q = chosen j q (λ e. ap (home_at m) (sym e) ∙ ap (option_map (λ (k : Link). k.home)) none) (λ ne. refl)
