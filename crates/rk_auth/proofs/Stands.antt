-- Who waits for what, through the changes of who stands in the slots.
use Rattle.rk_auth.proofs.Words.{◌∙◌, ap, sym, ◌≡◌, subst, refl, ℕ, cond, true, false, inl, inr, ◌||◌, Bool, List, ◌∷◌, [], ◌⊎◌, cases_eq, none-some, same_Some}
use Rattle.rk_auth.proofs.Words.{get, FinMap, remove, insert, nat_cmp, Some, None, nat_eq, is_some, Option, option_map, option_and_then, unwrap_or, of_choice}
use Rattle.rk_auth.proofs.Words.{shadow, at_new, at_other, left_in, taken_out, get_inserted, get_removed, changed_at, SessionId, standing_at, home_at}
use Rattle.rk_auth.proofs.Words.{AreChained, has, standing_in, home_in, in_standing, first_in, next_in, first_at, IsChainOf, link_in, before_in}
use Rattle.rk_auth.proofs.Words.{changed_each_at, IsTied, who_at, who_of, waited_in, same_home, home_for, Link, Slot, Standing, Slots}
use Rattle.rk_names.specs.declared.numbers.SessionId.TheVariants as id
use Rattle.rk_auth.proofs.Links.{at_same, at_apart}
use Rattle.rk_auth.proofs.Chained.{untouched, changed, heads, chained_same}

-- ---- options

none_of : (o : Option ℕ) → ((v : ℕ) → o ≡ Some v → ⊥) → o ≡ None
none_of None h = refl
none_of (Some v) h = absurd (h v refl)

-- ---- one is put in

-- the slot of somebody who waits for nothing, and for whom nobody waits
abbrev pub new_slot : Standing → Slot
new_slot st = record { standing = st; first = None; link = None }

module _ (m : Slots) (p : ℕ) (st : Standing) (none : get m p ≡ None) where
  put_part : {X : Type 0} (P : Option Slot → X) → P (Some (new_slot st)) ≡ P None → (q : ℕ) → P (get (insert m p (new_slot st)) q) ≡ P (get m q)
  put_part P same q = elim (cases_eq p q) [
    | inl e ↦ ap P (at_new m p (new_slot st) q (sym e)) ∙ same ∙ sym (ap P (ap (get m) (sym e) ∙ none))
    | inr ne ↦ ap P (at_other m p (new_slot st) q (λ e. ne (sym e)))
  ]

  -- a new slot leaves the slots chained
  pub put_chained : AreChained m → AreChained (insert m p (new_slot st))
  put_chained chained =
      chained_same m (insert m p (new_slot st)) chained (put_part next_in refl) (put_part before_in refl) (put_part first_in refl) (put_part home_in refl)

  -- a new slot leaves the chain of each place
  pub put_homes : (q : ℕ) → home_at (insert m p (new_slot st)) q ≡ home_at m q
  put_homes = put_part home_in refl

  -- who is put into a new slot stands there, and all others as before
  pub put_stands : (q : ℕ) → standing_at (insert m p (new_slot st)) q ≡ cond (nat_eq p q) (Some st) (standing_at m q)
  put_stands q = ap standing_in (get_inserted m p (new_slot st) q) ∙ of_choice standing_in (nat_eq p q) (Some (new_slot st)) (get m q)

-- ---- one is taken out

no_part : (part : Link → Option ℕ) (o : Option Link) → option_map (λ (l : Link). l.home) o ≡ None → option_and_then part o ≡ None
no_part part None e = refl
no_part part (Some l) e = absurd (none-some l.home (sym e))

module _ (m : Slots) (p : ℕ) (idle : home_at m p ≡ None) (chained : AreChained m) (alone : (q : ℕ) → home_at m q ≡ Some p → ⊥) where
  out_part : {X : Type 0} (P : Option Slot → X) → P (get m p) ≡ P None → (q : ℕ) → P (get (remove m p) q) ≡ P (get m q)
  out_part P same q = elim (cases_eq p q) [
    | inl e ↦ ap P (taken_out m p q (sym e)) ∙ sym same ∙ ap (λ x. P (get m x)) e
    | inr ne ↦ ap P (left_in m p q (λ e. ne (sym e)))
  ]

  -- removing a slot that is in no chain and heads none leaves the slots chained
  pub out_chained : AreChained (remove m p)
  out_chained =
      chained_same m (remove m p) chained (out_part next_in (no_part (λ l. l.next) (link_in (get m p)) idle))
      (out_part before_in (no_part (λ l. l.before) (link_in (get m p)) idle))
      (out_part first_in (none_of (first_at m p) (λ j e. alone j (heads m chained j p e).0))) (out_part home_in idle)

  -- removing a slot that is in no chain leaves the chain of each place
  pub out_homes : (q : ℕ) → home_at (remove m p) q ≡ home_at m q
  out_homes = out_part home_in idle

-- after a slot is removed nobody stands there, and all others as before
pub out_stands : (m : Slots) (p q : ℕ) → standing_at (remove m p) q ≡ cond (nat_eq p q) None (standing_at m q)
out_stands m p q = ap standing_in (get_removed m p q) ∙ of_choice standing_in (nat_eq p q) None (get m q)

-- if nobody was in the chain of p, nobody is in it once the place p is taken out of its own
pub still_alone : (p q : ℕ) (o : Option ℕ) → (o ≡ Some p → ⊥) → cond (nat_eq p q) None o ≡ Some p → ⊥
still_alone p q o h e = elim (cases_eq p q) [
  | inl same ↦ none-some p (sym (at_same p q None o same) ∙ e)
  | inr ne ↦ h (sym (at_apart p q None o ne) ∙ e)
]

-- ---- one is changed

module _ (f : Standing → Standing) where
  made_standing : (o : Option Slot) → standing_in (option_map (in_standing f) o) ≡ option_map f (standing_in o)
  made_standing None = refl
  made_standing (Some s) = refl

  pub changed_chained : (m : Slots) (p : ℕ) → AreChained m → AreChained (changed_at p (in_standing f) m)
  changed_chained m p chained =
      chained_same m (changed_at p (in_standing f) m) chained (untouched next_in p (in_standing f) (λ s. refl) m)
      (untouched before_in p (in_standing f) (λ s. refl) m)
      (untouched first_in p (in_standing f) (λ s. refl) m) (untouched home_in p (in_standing f) (λ s. refl) m)

  pub changed_homes : (m : Slots) (p q : ℕ) → home_at (changed_at p (in_standing f) m) q ≡ home_at m q
  changed_homes m p q = untouched home_in p (in_standing f) (λ s. refl) m q

  pub changed_stands : (m : Slots) (p q : ℕ) → standing_at (changed_at p (in_standing f) m) q ≡ cond (nat_eq p q) (option_map f (standing_at m q)) (standing_at m q)
  changed_stands m p q = changed standing_in p (in_standing f) m q ∙ ap (λ x. cond (nat_eq p q) x (standing_at m q)) (made_standing (get m q))

  -- ---- the waiters of a chain are changed

  each_part : {X : Type 0} (P : Option Slot → X) → ((s : Slot) → P (Some (in_standing f s)) ≡ P (Some s)) → (xs : List ℕ) (m : Slots) (q : ℕ)
      → P (get (changed_each_at (in_standing f) xs m) q) ≡ P (get m q)
  each_part P same [] m q = refl
  each_part P same (x ∷ xs) m q = each_part P same xs (changed_at x (in_standing f) m) q ∙ untouched P x (in_standing f) same m q

  -- a change of who stands at some places leaves the slots chained
  pub each_chained : (xs : List ℕ) (m : Slots) → AreChained m → AreChained (changed_each_at (in_standing f) xs m)
  each_chained xs m chained =
      chained_same m (changed_each_at (in_standing f) xs m) chained (each_part next_in (λ s. refl) xs m) (each_part before_in (λ s. refl) xs m)
      (each_part first_in (λ s. refl) xs m) (each_part home_in (λ s. refl) xs m)

  -- a change of who stands at some places leaves the chain of each
  pub each_homes : (xs : List ℕ) (m : Slots) (q : ℕ) → home_at (changed_each_at (in_standing f) xs m) q ≡ home_at m q
  each_homes xs m q = each_part home_in (λ s. refl) xs m q

  module _ (settled : (s : Standing) → f (f s) ≡ f s) where
    twice : (o : Option Standing) → option_map f (option_map f o) ≡ option_map f o
    twice None = refl
    twice (Some s) = ap (λ x. Some x) (settled s)

    once_more : (a b : Bool) (o : Option Standing) → cond b (option_map f (cond a (option_map f o) o)) (cond a (option_map f o) o) ≡ cond (a || b) (option_map f o) o
    once_more true true o = twice o
    once_more true false o = refl
    once_more false b o = refl

    each_stands : (xs : List ℕ) (m : Slots) (q : ℕ) → standing_at (changed_each_at (in_standing f) xs m) q ≡ cond (has xs q) (option_map f (standing_at m q)) (standing_at m q)
    each_stands [] m q = refl
    each_stands (x ∷ xs) m q =
        each_stands xs (changed_at x (in_standing f) m) q ∙ ap (λ o. cond (has xs q) (option_map f o) o) (changed_stands m x q)
        ∙ once_more (nat_eq x q) (has xs q) (standing_at m q)

    -- a change of who stands at each place of a chain changes exactly those whose chain it is
    pub chain_stands : (h : ℕ) (xs : List ℕ) (m : Slots) → IsChainOf m h xs → (q : ℕ)
        → standing_at (changed_each_at (in_standing f) xs m) q ≡ cond (same_home (Some h) (home_at m q)) (option_map f (standing_at m q)) (standing_at m q)
    chain_stands h xs m is q = each_stands xs m q ∙ ap (λ b. cond b (option_map f (standing_at m q)) (standing_at m q)) (is.exact q)

-- ---- who waits stands in a chain

-- a change that leaves who somebody is does so also if it is made by a condition
pub who_kept : (f : Standing → Standing) → ((s : Standing) → who_of (f s) ≡ who_of s) → (b : Bool) (o : Option Standing) → option_map who_of (cond b (option_map f o) o) ≡ option_map who_of o
who_kept f same true None = refl
who_kept f same true (Some s) = ap (λ x. Some x) (same s)
who_kept f same false o = refl

pub tied_again : (m n : Slots) (index : FinMap nat_cmp ℕ) (nobody p : ℕ) (o : Option ℕ) → IsTied m index nobody → AreChained n
    → ((q : ℕ) → who_at n q ≡ who_at m q) → ((q : ℕ) → (p ≡ q → ⊥) → standing_at n q ≡ standing_at m q)
    → ((q : ℕ) → home_at n q ≡ cond (nat_eq p q) o (home_at m q))
    → is_some o ≡ is_some (waited_in (standing_at n p))
    → ((h : ℕ) → o ≡ Some h → (h ≡ nobody) ⊎ (option_and_then (get index) (waited_in (standing_at n p)) ≡ Some h))
    → IsTied n index nobody
tied_again m n index nobody p o tied chained who others homes waits home = record {
  chained = chained;
  waits = λ q. elim (cases_eq p q) [
    | inl e ↦ ap is_some (homes q ∙ at_same p q o (home_at m q) e) ∙ waits ∙ ap (λ x. is_some (waited_in (standing_at n x))) e
    | inr ne ↦ ap is_some (homes q ∙ at_apart p q o (home_at m q) ne) ∙ tied.waits q ∙ ap (λ x. is_some (waited_in x)) (sym (others q ne))
  ];
  homes = λ q h is. elim (cases_eq p q) [
    | inl e ↦ subst (λ x. (h ≡ nobody) ⊎ (option_and_then (get index) (waited_in (standing_at n x)) ≡ Some h)) e (home h (sym (homes q ∙ at_same p q o (home_at m q) e) ∙ is))
    | inr ne ↦
        subst (λ x. (h ≡ nobody) ⊎ (option_and_then (get index) (waited_in x) ≡ Some h)) (sym (others q ne))
        (tied.homes q h (sym (homes q ∙ at_apart p q o (home_at m q) ne) ∙ is))
  ];
  heads = λ k i is. who i ∙ tied.heads k i is;
  nobody_there = who nobody ∙ tied.nobody_there;
}

pub home_chosen : (index : FinMap nat_cmp ℕ) (nobody k h : ℕ) → home_for index nobody k ≡ h → (h ≡ nobody) ⊎ (get index k ≡ Some h)
home_chosen index nobody k h e = elim (get index k) as (λ o. unwrap_or o nobody ≡ h → (h ≡ nobody) ⊎ (o ≡ Some h)) [
  | None ↦ λ e. inl (sym e)
  | Some i ↦ λ e. inr (ap (λ x. Some x) e)
] e

-- who has a name is there
pub who_there : (m : Slots) (q : ℕ) (w : Option SessionId) → who_at m q ≡ Some w → is_some (get m q) ≡ true
who_there m q w e = elim (get m q) as (λ o. option_map who_of (standing_in o) ≡ Some w → is_some o ≡ true) [ None ↦ λ e. absurd (none-some w e) | Some s ↦ λ e. refl ] e

-- one is changed, and stands in no chain
pub record IsRestood (f : Standing → Standing) (m n : Slots) (p : ℕ) : Type 0 where
  pub chained : AreChained n
  pub stands : (q : ℕ) → standing_at n q ≡ cond (nat_eq p q) (option_map f (standing_at m q)) (standing_at m q)
  pub homes : (q : ℕ) → home_at n q ≡ cond (nat_eq p q) None (home_at m q)

-- a place that is taken out of its chain, and then changed, is restood
pub restood : (f : Standing → Standing) (m l n : Slots) (p : ℕ) → AreChained l → ((q : ℕ) → standing_at l q ≡ standing_at m q)
    → ((q : ℕ) → home_at l q ≡ cond (nat_eq p q) None (home_at m q)) → n ≡ changed_at p (in_standing f) l → IsRestood f m n p
restood f m l n p chained standing homes by = record {
  chained = subst AreChained (sym by) (changed_chained f l p chained);
  stands = λ q. ap (λ x. standing_at x q) by ∙ changed_stands f l p q ∙ ap (λ o. cond (nat_eq p q) (option_map f o) o) (standing q);
  homes = λ q. ap (λ x. home_at x q) by ∙ changed_homes f l p q ∙ homes q;
}

module _ (f : Standing → Standing) (m n : Slots) (index : FinMap nat_cmp ℕ) (nobody p : ℕ) (tied : IsTied m index nobody) (same : (s : Standing) → who_of (f s) ≡ who_of s) (re : IsRestood f m n p) where
  restood_who : (q : ℕ) → who_at n q ≡ who_at m q
  restood_who q = ap (option_map who_of) (re.stands q) ∙ who_kept f same (nat_eq p q) (standing_at m q)

  restood_other : (q : ℕ) → (p ≡ q → ⊥) → standing_at n q ≡ standing_at m q
  restood_other q ne = re.stands q ∙ at_apart p q (option_map f (standing_at m q)) (standing_at m q) ne

  -- the slot that heads the chain of a key is there
  pub home_there : (k h : ℕ) → h ≡ home_for index nobody k → is_some (get n h) ≡ true
  home_there k h e = elim (home_chosen index nobody k h (sym e)) [
    | inl here ↦ who_there n h None (restood_who h ∙ ap (who_at m) here ∙ tied.nobody_there)
    | inr is ↦ who_there n h (Some (id.Handler k)) (restood_who h ∙ tied.heads k h is)
  ]

  -- a restood place is in no chain
  pub restood_idle : home_at n p ≡ None
  restood_idle = re.homes p ∙ at_same p p None (home_at m p) refl

  -- the slots are tied where the restood session waits for nothing
  pub tied_idle : waited_in (standing_at n p) ≡ None → IsTied n index nobody
  tied_idle idle = tied_again m n index nobody p None tied re.chained restood_who restood_other re.homes (ap is_some (sym idle)) (λ h e. absurd (none-some h e))

  -- the slots are tied where the restood session waits for a key and is put into its chain
  pub tied_waiting : (l : Slots) (k h : ℕ) → waited_in (standing_at n p) ≡ Some k → h ≡ home_for index nobody k → AreChained l
      → ((q : ℕ) → standing_at l q ≡ standing_at n q) → ((q : ℕ) → home_at l q ≡ cond (nat_eq p q) (Some h) (home_at n q)) → IsTied l index nobody
  tied_waiting l k h waits home chained standing homes =
      let key : waited_in (standing_at l p) ≡ Some k = ap waited_in (standing p) ∙ waits in
      tied_again m l index nobody p (Some h) tied chained (λ q. ap (option_map who_of) (standing q) ∙ restood_who q) (λ q ne. standing q ∙ restood_other q ne)
      (λ q. homes q ∙ ap (cond (nat_eq p q) (Some h)) (re.homes q) ∙ shadow (nat_eq p q) (Some h) None (home_at m q))
      (ap is_some (sym key))
      (λ g e. elim (home_chosen index nobody k h (sym home)) [
        | inl here ↦ inl (sym (same_Some h g e) ∙ here)
        | inr is ↦ inr (ap (option_and_then (get index)) key ∙ is ∙ e)
      ])
