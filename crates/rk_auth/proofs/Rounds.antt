-- Rounds through one chain.
use Rattle.rk_auth.proofs.Words.{◌∙◌, ap, sym, ◌≡◌, subst, refl, ℕ, cond, arith, true, false, inl, inr, ◌||◌, List, ◌∷◌, [], ◌≤◌, length, ◌+◌, both_ways}
use Rattle.rk_auth.proofs.Words.{cases_eq, ne_eqb, none-some, same_Some, get, Some, None, nat_eq, is_some, Option, changed_at, standing_at, home_at, AreChained}
use Rattle.rk_auth.proofs.Words.{has, names, standing_in, home_in, EachOnce, in_standing, IsChain, next_in, first_at, IsChainOf, next_at, before_at}
use Rattle.rk_auth.proofs.Words.{changed_each_at, rehomed, Slot, Standing, Slots}
use Rattle.rk_auth.proofs.Lists.{not_more}
use Rattle.rk_auth.proofs.Links.{at_same, at_apart, named_is, is_named, not_named}
use Rattle.rk_auth.proofs.Chained.{untouched, heads}

-- ---- the way through a chain

abbrev pub IsWay : (ℕ → Option ℕ) → Option ℕ → List ℕ → Type 0
IsWay next at [] = at ≡ None
IsWay next at (x ∷ xs) = (at ≡ Some x) × IsWay next (next x) xs

way_of : (nx bf : ℕ → Option ℕ) (from at : Option ℕ) (xs : List ℕ) → IsChain nx bf from at xs → IsWay nx at xs
way_of nx bf from at [] h = h
way_of nx bf from at (x ∷ xs) h = (h.0, way_of nx bf (Some x) (nx x) xs h.2)

one_way : (nx : ℕ → Option ℕ) (at : Option ℕ) (xs ys : List ℕ) → IsWay nx at xs → IsWay nx at ys → xs ≡ ys
one_way nx at [] [] h k = refl
one_way nx at [] (y ∷ ys) h k = absurd (none-some y (sym h ∙ k.0))
one_way nx at (x ∷ xs) [] h k = absurd (none-some x (sym k ∙ h.0))
one_way nx at (x ∷ xs) (y ∷ ys) h k =
    let same : x ≡ y = same_Some x y (sym h.0 ∙ k.0) in
    ap (λ l. x ∷ l) (one_way nx (nx x) xs ys h.1 (subst (λ z. IsWay nx (nx z) ys) (sym same) k.1)) ∙ ap (λ z. z ∷ ys) same

same_way : (nx nx' : ℕ → Option ℕ) (at : Option ℕ) (xs : List ℕ) → ((q : ℕ) → nx' q ≡ nx q) → IsWay nx at xs → IsWay nx' at xs
same_way nx nx' at [] same h = h
same_way nx nx' at (x ∷ xs) same h = (h.0, same_way nx nx' (nx' x) xs same (subst (λ o. IsWay nx o xs) (sym (same x)) h.1))

-- the same chain has the same places
pub one_chain : (m : Slots) (h : ℕ) (xs ys : List ℕ) → IsChainOf m h xs → IsChainOf m h ys → xs ≡ ys
one_chain m h xs ys one other =
    one_way (next_at m) (first_at m h) xs ys (way_of (next_at m) (before_at m) None (first_at m h) xs one.linked) (way_of (next_at m) (before_at m) None (first_at m h) ys other.linked)

-- who is in a chain is there
is_there : (o : Option Slot) (h : ℕ) → home_in o ≡ Some h → is_some o ≡ true
is_there None h e = absurd (none-some h e)
is_there (Some s) h e = refl

pub there_in : (m : Slots) (h : ℕ) (xs : List ℕ) → IsChainOf m h xs → (q : ℕ) → has xs q ≡ true → is_some (get m q) ≡ true
there_in m h xs is q t = is_there (get m q) h (named_is (home_at m q) h (sym (is.exact q) ∙ t))

-- ---- the round that changes each

-- what is left to change leads to what all of it does, and is not more than the steps that are left
pub record IsRound (f : Slot → Slot) (old now : Slots) (h : ℕ) (at : Option ℕ) (step end : ℕ) : Type 0 where
  pub left : List ℕ
  pub way : IsWay (next_at now) at left
  pub leads : (xs : List ℕ) → IsChainOf old h xs → changed_each_at f left now ≡ changed_each_at f xs old
  pub short : length left + step ≤ end

-- a round begins at the first of a chain, with as many steps as there may be places
pub round_begins : (f : Slot → Slot) (m : Slots) (h : ℕ) (at : Option ℕ) (n : ℕ) → AreChained m → at ≡ first_at m h
    → ((ps : List ℕ) → EachOnce ps → ((p : ℕ) → has ps p ≡ true → is_some (get m p) ≡ true) → length ps ≤ n)
    → IsRound f m m h at 0 n
round_begins f m h at n chained is most =
    let all = chained h in
    let few : length all.0 ≤ n = most all.0 all.1.once (there_in m h all.0 all.1) in
    record {
      left = all.0;
      way = subst (λ o. IsWay (next_at m) o all.0) (sym is) (way_of (next_at m) (before_at m) None (first_at m h) all.0 all.1.linked);
      leads = λ xs one. ap (λ l. changed_each_at f l m) (one_chain m h all.0 xs all.1 one);
      short = omega (arith, few);
    }

-- a round that changes the place at which it is, and goes on to the next, is still that round
pub round_goes_on : (f : Standing → Standing) (old now new : Slots) (h : ℕ) (at : Option ℕ) (p : ℕ) (then : Option ℕ) (step end : ℕ) → IsRound (in_standing f) old now h at step end
    → at ≡ Some p → new ≡ changed_at p (in_standing f) now → then ≡ next_at new p → IsRound (in_standing f) old new h then (step + 1) end
round_goes_on f old now new h at p then step end round is by next = by_left round.left round.way round.leads round.short
  where
    same : (q : ℕ) → next_at new q ≡ next_at now q
    same q = ap (λ x. next_at x q) by ∙ untouched next_in p (in_standing f) (λ s. refl) now q

    by_left : (left : List ℕ) → IsWay (next_at now) at left → ((xs : List ℕ) → IsChainOf old h xs → changed_each_at (in_standing f) left now ≡ changed_each_at (in_standing f) xs old)
        → length left + step ≤ end → IsRound (in_standing f) old new h then (step + 1) end
    by_left [] way leads short = absurd (none-some p (sym way ∙ is))
    by_left (x ∷ xs) way leads short =
        let one : x ≡ p = same_Some x p (sym way.0 ∙ is) in
        record {
          left = xs;
          way = same_way (next_at now) (next_at new) then xs same (subst (λ o. IsWay (next_at now) o xs) (ap (next_at now) one ∙ sym (same p) ∙ sym next) way.1);
          leads = λ ys all. ap (changed_each_at (in_standing f) xs) (by ∙ ap (λ z. changed_at z (in_standing f) now) (sym one)) ∙ leads ys all;
          short = omega (arith, short);
        }

none_left : (f : Slot → Slot) (old now : Slots) (h : ℕ) (left : List ℕ) → left ≡ [] → ((xs : List ℕ) → IsChainOf old h xs → changed_each_at f left now ≡ changed_each_at f xs old)
    → (xs : List ℕ) → IsChainOf old h xs → now ≡ changed_each_at f xs old
none_left f old now h left none leads xs one = sym (ap (λ l. changed_each_at f l now) none) ∙ leads xs one

at_end : (nx : ℕ → Option ℕ) (left : List ℕ) → IsWay nx None left → left ≡ []
at_end nx [] way = refl
at_end nx (x ∷ xs) way = absurd (none-some x way.0)

no_length : (left : List ℕ) → length left ≤ 0 → left ≡ []
no_length [] le = refl
no_length (x ∷ xs) le = absurd (omega (arith, le))

-- a round that is at no place has changed each of the chain
pub round_ends : (f : Slot → Slot) (old now : Slots) (h : ℕ) (at : Option ℕ) (step end : ℕ) → IsRound f old now h at step end → at ≡ None
    → (xs : List ℕ) → IsChainOf old h xs → now ≡ changed_each_at f xs old
round_ends f old now h at step end round is =
    none_left f old now h round.left (at_end (next_at now) round.left (subst (λ o. IsWay (next_at now) o round.left) is round.way)) round.leads

-- a round that has used its steps has changed each of the chain
pub round_is_over : (f : Slot → Slot) (old now : Slots) (h : ℕ) (at : Option ℕ) (step end : ℕ) → IsRound f old now h at step end → end ≤ step
    → (xs : List ℕ) → IsChainOf old h xs → now ≡ changed_each_at f xs old
round_is_over f old now h at step end round le = none_left f old now h round.left (no_length round.left (omega (arith, round.short, le))) round.leads

-- ---- the round that takes each to another chain

-- after so many steps of that round: the chains hold, who stands where is as before, and what is left of the chain fits in the steps to come
pub record IsLoosened (old now : Slots) (h other step end : ℕ) : Type 0 where
  pub chained : AreChained now
  pub standing : (q : ℕ) → standing_at now q ≡ standing_at old q
  pub homes : (q : ℕ) → rehomed h other (home_at now q) ≡ rehomed h other (home_at old q)
  pub short : (xs : List ℕ) → IsChainOf now h xs → length xs + step ≤ end

-- taking a chain over to another begins with no step made, and with as many steps as there may be places
pub loosening_begins : (m : Slots) (h other n : ℕ) → AreChained m
    → ((ps : List ℕ) → EachOnce ps → ((p : ℕ) → has ps p ≡ true → is_some (get m p) ≡ true) → length ps ≤ n) → IsLoosened m m h other 0 n
loosening_begins m h other n chained most = record {
  chained = chained;
  standing = λ q. refl;
  homes = λ q. refl;
  short = λ xs is. let few : length xs ≤ n = most xs is.once (there_in m h xs is) in omega (arith, few);
}

-- who stands somewhere is there
is_standing : (o : Option Slot) → is_some (standing_in o) ≡ is_some o
is_standing None = refl
is_standing (Some s) = refl

-- if the same one stands at a place, its slot is still there
pub there_still : (m n : Slots) (q : ℕ) → standing_at n q ≡ standing_at m q → is_some (get m q) ≡ true → is_some (get n q) ≡ true
there_still m n q same t = sym (is_standing (get n q)) ∙ ap is_some same ∙ is_standing (get m q) ∙ t

-- the first place of a chain has a slot
pub there_first : (m : Slots) (h p : ℕ) → AreChained m → first_at m h ≡ Some p → is_some (get m p) ≡ true
there_first m h p chained e = is_there (get m p) h (heads m chained p h e).0

-- taking the first place out of its chain and putting it into the other is one step
pub loosening_goes_on : (old now mid new : Slots) (h other p step end : ℕ) → IsLoosened old now h other step end → (other ≡ h → ⊥) → first_at now h ≡ Some p
    → ((q : ℕ) → standing_at mid q ≡ standing_at now q) → ((q : ℕ) → home_at mid q ≡ cond (nat_eq p q) None (home_at now q))
    → AreChained new → ((q : ℕ) → standing_at new q ≡ standing_at mid q) → ((q : ℕ) → home_at new q ≡ cond (nat_eq p q) (Some other) (home_at mid q))
    → IsLoosened old new h other (step + 1) end
loosening_goes_on old now mid new h other p step end was apart first mid_standing mid_homes chained standing homes = record {
  chained = chained;
  standing = λ q. standing q ∙ mid_standing q ∙ was.standing q;
  homes = λ q. elim (cases_eq p q) [
    | inl e ↦
        ap (rehomed h other) (homes q ∙ at_same p q (Some other) (home_at mid q) e) ∙ ap (λ b. cond b (Some other) (Some other)) (ne_eqb other h apart)
        ∙ sym (ap (λ b. cond b (Some other) (home_at now q)) (is_named (home_at now q) h (ap (home_at now) (sym e) ∙ home))) ∙ was.homes q
    | inr ne ↦ ap (rehomed h other) (homes q ∙ at_apart p q (Some other) (home_at mid q) ne ∙ mid_homes q ∙ at_apart p q None (home_at now q) ne) ∙ was.homes q
  ];
  short = λ xs is.
      let all = was.chained h in
      let gone : has xs p ≡ false = is.exact p ∙ not_named (home_at new p) h (λ e. apart (same_Some other h (sym (homes p ∙ at_same p p (Some other) (home_at mid p) refl) ∙ e))) in
      let fewer : length (p ∷ xs) ≤ length all.0 = not_more (p ∷ xs) all.0 (gone, is.once) (λ q t. elim (cases_eq p q) [
        | inl e ↦ all.1.exact q ∙ is_named (home_at now q) h (ap (home_at now) (sym e) ∙ home)
        | inr ne ↦
            let among : has xs q ≡ true = sym (ap (λ b. b || has xs q) (ne_eqb p q ne)) ∙ t in
            all.1.exact q
            ∙ ap (λ o. names o h) (sym (homes q ∙ at_apart p q (Some other) (home_at mid q) ne ∙ mid_homes q ∙ at_apart p q None (home_at now q) ne))
            ∙ sym (is.exact q) ∙ among
      ]) in
      omega (arith, fewer, was.short all.0 all.1);
}
  where
    home : home_at now p ≡ Some h
    home = (heads now was.chained p h first).0

empty_chain : (m : Slots) (h : ℕ) (xs : List ℕ) → IsChainOf m h xs → xs ≡ [] → (q : ℕ) → home_at m q ≡ Some h → ⊥
empty_chain m h xs is none q e = both_ways _ (ap (λ l. has l q) none) (is.exact q ∙ is_named (home_at m q) h e)

nobody_left : (old now : Slots) (h other step end : ℕ) → IsLoosened old now h other step end → ((q : ℕ) → home_at now q ≡ Some h → ⊥) → (q : ℕ) → home_at now q ≡ rehomed h other (home_at old q)
nobody_left old now h other step end was nobody q = sym (ap (λ b. cond b (Some other) (home_at now q)) (not_named (home_at now q) h (nobody q))) ∙ was.homes q

-- if the chain has no first place any more, all that were in it are in the other
pub loosened : (old now : Slots) (h other step end : ℕ) → IsLoosened old now h other step end → None ≡ first_at now h → (q : ℕ) → home_at now q ≡ rehomed h other (home_at old q)
loosened old now h other step end was none =
    let all = was.chained h in
    nobody_left old now h other step end was (empty_chain now h all.0 all.1 (at_end (next_at now) all.0
    (subst (λ o. IsWay (next_at now) o all.0) (sym none) (way_of (next_at now) (before_at now) None (first_at now h) all.0 all.1.linked))))

-- if the steps are used, all that were in the chain are in the other
pub loosened_at_last : (old now : Slots) (h other step end : ℕ) → IsLoosened old now h other step end → end ≤ step → (q : ℕ) → home_at now q ≡ rehomed h other (home_at old q)
loosened_at_last old now h other step end was le =
    let all = was.chained h in
    nobody_left old now h other step end was (empty_chain now h all.0 all.1 (no_length all.0 (omega (arith, was.short all.0 all.1, le))))
