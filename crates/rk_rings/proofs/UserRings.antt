-- A user ring of each user, through each change of the rings.
use Rattle.rk_rings.proofs.Words.{◌∙◌, ap, sym, ◌≡◌, subst, arith, ℕ, cond, false, ◌+◌, refl, true, Bool, ◌-◌, not, ◌<◌, ◌||◌, inl, inr, both_ways, eq-eqb}
use Rattle.rk_rings.proofs.Words.{eqb-true, cases_eq, ne_eqb, nat_cmp_total, get, len, insert, remove, empty, FinMap, contains_key, get-empty, len-remove}
use Rattle.rk_rings.proofs.Words.{option_map_or, nat_cmp, None, Some, nat_eq, is_some, Option, MatchOption, of_choice, get_changed_at, get_inserted, at_new}
use Rattle.rk_rings.proofs.Words.{at_other, taken_out, left_in, changed_at, Numbered, Rings, unlinked, is_full, linked_in_room, linked, is_user_ring, is_users}
use Rattle.rk_rings.proofs.Words.{AreUserRings, is_his, IsHis}
use Rattle.std.specs.Prelude.{option_map}
use Rattle.rk_rings.specs.declared.kind.RingKind.{RingKind}
use Rattle.rk_rings.specs.declared.kind.RingKind.TheVariants as kind
use Rattle.rk_rings.proofs.Counts.{has_some}

-- a user ring is of one user
pub one_user : (k : RingKind) (owner uid other : ℕ) → is_users k owner uid ≡ true → is_users k owner other ≡ true → other ≡ uid
one_user kind.User owner uid other h g = sym (eqb-true owner other g) ∙ eqb-true owner uid h
one_user kind.Thread owner uid other h g = absurd (both_ways _ refl h)
one_user kind.Process owner uid other h g = absurd (both_ways _ refl h)
one_user kind.Session owner uid other h g = absurd (both_ways _ refl h)

pub users_empty : (m : Rings) (u : FinMap nat_cmp ℕ) → m ≡ empty → u ≡ empty → AreUserRings m u
users_empty m u is none uid =
    subst (IsHis m uid) (sym (ap (λ x. get x uid) none ∙ get-empty nat_cmp uid))
    (λ ring. ap (λ x. is_his x uid ring) is ∙ ap (λ o. option_map_or (is_user_ring uid) o false) (get-empty nat_cmp ring))

same_his : (m n : Rings) (uid : ℕ) (o : Option ℕ) → ((ring : ℕ) → is_his n uid ring ≡ is_his m uid ring) → IsHis m uid o → IsHis n uid o
same_his m n uid None same h = λ ring. same ring ∙ h ring
same_his m n uid (Some ring) same h = same ring ∙ h

-- ---- a ring changed

abbrev pub KeepsUser : (Numbered → Numbered) → Type 0
KeepsUser f = (r : Numbered) (uid : ℕ) → is_user_ring uid (f r) ≡ is_user_ring uid r

pub user_linked : (k n : ℕ) → KeepsUser (linked_in_room k n)
user_linked k n r uid = elim (contains_key r.links k || not (is_full (Some n) r)) as (λ b. is_user_ring uid (cond b (linked k n r) r) ≡ is_user_ring uid r) [
  | true ↦ refl
  | false ↦ refl
]

pub user_unlinked : (k : ℕ) → KeepsUser (unlinked k)
user_unlinked k r uid = refl

pub users_changed : (m n : Rings) (u : FinMap nat_cmp ℕ) (ring : ℕ) (f : Numbered → Numbered) → n ≡ changed_at ring f m
    → KeepsUser f → AreUserRings m u → AreUserRings n u
users_changed m n u ring f is keeps all uid = same_his m n uid (get u uid) (λ q.
    ap (λ x. is_his x uid q) is ∙ ap (λ o. option_map_or (is_user_ring uid) o false) (get_changed_at ring f m q) ∙ by_ring (nat_eq ring q) (get m q)) (all uid)
  where
    by_ring : (b : Bool) (o : Option Numbered) → option_map_or (is_user_ring uid) (cond b (option_map f o) o) false ≡ option_map_or (is_user_ring uid) o false
    by_ring true None = refl
    by_ring true (Some r) = keeps r uid
    by_ring false o = refl

-- ---- a ring made

his_made : (m : Rings) (s : ℕ) (r : Numbered) (uid q : ℕ) → is_his (insert m s r) uid q ≡ cond (nat_eq s q) (is_user_ring uid r) (is_his m uid q)
his_made m s r uid q =
    ap (λ o. option_map_or (is_user_ring uid) o false) (get_inserted m s r q)
    ∙ of_choice (λ o. option_map_or (is_user_ring uid) o false) (nat_eq s q) (Some r) (get m q)

-- who is there already, or is not the user of the new ring
made_beside : (m : Rings) (s : ℕ) (r : Numbered) (uid : ℕ) (o : Option ℕ) → get m s ≡ None → (is_user_ring uid r ≡ true → is_some o ≡ true)
    → IsHis m uid o → IsHis (insert m s r) uid o
made_beside m s r uid None new there h = λ q. his_made m s r uid q ∙ by_ring (nat_eq s q) (is_user_ring uid r) refl q
  where
    by_ring : (b t : Bool) → is_user_ring uid r ≡ t → (q : ℕ) → cond b (is_user_ring uid r) (is_his m uid q) ≡ false
    by_ring true false e q = e
    by_ring true true e q = absurd (both_ways false refl (there e))
    by_ring false t e q = h q
made_beside m s r uid (Some ring) new there h = his_made m s r uid ring ∙ elim (cases_eq s ring) [
  | inl e ↦ absurd (both_ways _ (ap (λ o. option_map_or (is_user_ring uid) o false) (ap (get m) (sym e) ∙ new)) h)
  | inr ne ↦ ap (λ b. cond b (is_user_ring uid r) (is_his m uid ring)) (ne_eqb s ring ne) ∙ h
]

pub users_beside : (m : Rings) (u : FinMap nat_cmp ℕ) (s : ℕ) (r : Numbered) → get m s ≡ None
    → ((uid : ℕ) → is_user_ring uid r ≡ true → contains_key u uid ≡ true) → AreUserRings m u → AreUserRings (insert m s r) u
users_beside m u s r new there all uid = made_beside m s r uid (get u uid) new (there uid) (all uid)

pub users_made : (m : Rings) (u : FinMap nat_cmp ℕ) (s : ℕ) (r : Numbered) (whose : ℕ) → get m s ≡ None → is_user_ring whose r ≡ true
    → AreUserRings m u → AreUserRings (insert m s r) (insert u whose s)
users_made m u s r whose new his all uid = elim (cases_eq uid whose) [
  | inl e ↦
      subst (IsHis (insert m s r) uid) (sym (at_new u whose s uid e))
      (his_made m s r uid s ∙ ap (λ b. cond b (is_user_ring uid r) (is_his m uid s)) (eq-eqb s s refl) ∙ ap (λ x. is_user_ring x r) e ∙ his)
  | inr ne ↦
      subst (IsHis (insert m s r) uid) (sym (at_other u whose s uid ne))
      (made_beside m s r uid (get u uid) new (λ too. absurd (ne (one_user r.kind r.uid whose uid his too))) (all uid))
]

-- ---- a ring dropped

his_dropped : (m : Rings) (s uid q : ℕ) → is_his m uid s ≡ false → is_his (remove m s) uid q ≡ is_his m uid q
his_dropped m s uid q not_his = elim (cases_eq q s) [
  | inl e ↦ ap (λ o. option_map_or (is_user_ring uid) o false) (taken_out m s q e) ∙ sym (ap (is_his m uid) e ∙ not_his)
  | inr ne ↦ ap (λ o. option_map_or (is_user_ring uid) o false) (left_in m s q ne)
]

-- whose user ring it was not keeps what was found for him
pub dropped_beside : (m : Rings) (u : FinMap nat_cmp ℕ) (s uid : ℕ) → is_his m uid s ≡ false → AreUserRings m u → IsHis (remove m s) uid (get u uid)
dropped_beside m u s uid not_his all = same_his m (remove m s) uid (get u uid) (λ q. his_dropped m s uid q not_his) (all uid)

-- one who is the user of a ring is the only one
pub not_of : (m : Rings) (s whose uid : ℕ) → is_his m whose s ≡ true → (uid ≡ whose → ⊥) → is_his m uid s ≡ false
not_of m s whose uid his ne = by_ring (get m s) his
  where
    by_ring : (o : Option Numbered) → option_map_or (is_user_ring whose) o false ≡ true → option_map_or (is_user_ring uid) o false ≡ false
    by_ring None h = refl
    by_ring (Some r) h = elim (is_user_ring uid r) as (λ b. is_user_ring uid r ≡ b → b ≡ false) [
      | true ↦ λ t. absurd (ne (one_user r.kind r.uid whose uid h t))
      | false ↦ λ _. refl
    ] refl

-- if a user's ring is removed, and the places stay, one is free
pub place_left : (u : FinMap nat_cmp ℕ) (uid room left : ℕ) → contains_key u uid ≡ true → len (remove u uid) + left ≡ len u + room → 0 < left
place_left u uid room left there sum =
    let fewer : len (remove u uid) ≡ len u - 1 = len-remove nat_cmp_total u uid ∙ ap (λ b. cond b (len u - 1) (len u)) there in
    omega (arith, fewer, has_some u uid there, sum)

-- ---- what the library's own functions say

-- the user of a ring, where it is a user ring
abbrev pub IsUserOf : Numbered → Option ℕ → Type 0
IsUserOf r o = MatchOption o ((uid : ℕ) → is_user_ring uid r ≡ false) (λ uid. is_user_ring uid r ≡ true)

pub users_same : (m : Rings) (u : FinMap nat_cmp ℕ) (s : ℕ) (r : Numbered) (o : Option ℕ) → IsUserOf r o
    → ((uid : ℕ) → o ≡ Some uid → contains_key u uid ≡ true) → get m s ≡ None → AreUserRings m u → AreUserRings (insert m s r) u
users_same m u s r None of there new all = users_beside m u s r new (λ uid his. absurd (both_ways _ (of uid) his)) all
users_same m u s r (Some whose) of there new all =
    users_beside m u s r new (λ uid his. ap (contains_key u) (one_user r.kind r.uid whose uid of his) ∙ there whose refl) all

-- a user has no ring where none is of its uid
pub none_his : (m : Rings) (uid : ℕ) → ((k : ℕ) (r : Numbered) → get m k ≡ Some r → is_user_ring uid r ≡ false) → IsHis m uid None
none_his m uid h ring = by_ring (get m ring) refl
  where
    by_ring : (o : Option Numbered) → get m ring ≡ o → is_his m uid ring ≡ false
    by_ring None is = ap (λ o. option_map_or (is_user_ring uid) o false) is
    by_ring (Some r) is = ap (λ o. option_map_or (is_user_ring uid) o false) is ∙ h ring r is

pub user_told : (m : Rings) (u : FinMap nat_cmp ℕ) (uid : ℕ) (o : Option ℕ) → o ≡ get u uid → AreUserRings m u
    → MatchOption o ((k : ℕ) (r : Numbered) → get m k ≡ Some r → is_user_ring uid r ≡ false) (λ k. option_map_or (is_user_ring uid) (get m k) false ≡ true)
user_told m u uid o is all = by_entry o (subst (IsHis m uid) (sym is) (all uid))
  where
    by_entry : (o : Option ℕ) → IsHis m uid o
        → MatchOption o ((k : ℕ) (r : Numbered) → get m k ≡ Some r → is_user_ring uid r ≡ false) (λ k. option_map_or (is_user_ring uid) (get m k) false ≡ true)
    by_entry None h = λ k r there. sym (ap (λ o. option_map_or (is_user_ring uid) o false) there) ∙ h k
    by_entry (Some k) h = h

-- another ring of his in the place of the one that was dropped, or none
pub renewed : (m : Rings) (u : FinMap nat_cmp ℕ) (whose : ℕ) (o : Option ℕ) → IsHis m whose o → ((uid : ℕ) → (uid ≡ whose → ⊥) → IsHis m uid (get u uid))
    → AreUserRings m (option_map_or (λ k. insert (remove u whose) whose k) o (remove u whose))
renewed m u whose None his others uid = elim (cases_eq uid whose) [
  | inl e ↦ subst (IsHis m uid) (sym (taken_out u whose uid e)) (subst (λ x. IsHis m x None) (sym e) his)
  | inr ne ↦ subst (IsHis m uid) (sym (left_in u whose uid ne)) (others uid ne)
]
renewed m u whose (Some k) his others uid = elim (cases_eq uid whose) [
  | inl e ↦ subst (IsHis m uid) (sym (at_new (remove u whose) whose k uid e)) (subst (λ x. IsHis m x (Some k)) (sym e) his)
  | inr ne ↦ subst (IsHis m uid) (sym (at_other (remove u whose) whose k uid ne ∙ left_in u whose uid ne)) (others uid ne)
]

-- what is left to renew after a ring was dropped
pub dropped_others : (m n : Rings) (u : FinMap nat_cmp ℕ) (s : ℕ) (o : Option ℕ) → n ≡ remove m s
    → MatchOption o ((uid : ℕ) → is_his m uid s ≡ false) (λ uid. is_his m uid s ≡ true) → AreUserRings m u
    → (uid : ℕ) → (o ≡ Some uid → ⊥) → IsHis n uid (get u uid)
dropped_others m n u s None is of all uid ne = subst (λ x. IsHis x uid (get u uid)) (sym is) (dropped_beside m u s uid (of uid) all)
dropped_others m n u s (Some whose) is of all uid ne =
    subst (λ x. IsHis x uid (get u uid)) (sym is) (dropped_beside m u s uid (not_of m s whose uid of (λ e. ne (ap (λ x. Some x) (sym e)))) all)
