-- Who is seated where, through all that is done to the slots and their names.
use Rattle.rk_auth.proofs.Words.{◌∙◌, ap, sym, ◌≡◌, subst, refl, ℕ, cond, arith, true, false, inl, inr, Bool, [], ◌-◌, ◌⊎◌, ◌<◌, zero, suc, both_ways, cases_eq}
use Rattle.rk_auth.proofs.Words.{eq-eqb, none-some, same_Some, nat_cmp_total, get, FinMap, remove, insert, len, get-empty, empty_of_len, len-remove, empty}
use Rattle.rk_auth.proofs.Words.{len-empty, nat_cmp, Some, None, nat_eq, is_some, Option, option_map, option_and_then, at_new, at_other, left_in, taken_out}
use Rattle.rk_auth.proofs.Words.{changed_at, SessionId, standing_at, home_at, AreChained, names, standing_in, home_in, first_in, rehomed, in_handler}
use Rattle.rk_auth.proofs.Words.{session_changed, client_of, construction_of, IsTied, who_at, who_of, waited_in, in_session, seen, waited_of, in_construction}
use Rattle.rk_auth.proofs.Words.{client_named, construction_named, place_of, AreSeated, Sessions, Construction, Session, Slot, Standing, Index, Slots}
use Rattle.rk_names.specs.declared.numbers.SessionId.TheVariants as id
use Rattle.rk_table.specs.Stored.{Stored}
use Rattle.rk_auth.specs.declared.slot.Standing.TheVariants as standing
use Rattle.rk_auth.proofs.Links.{at_same, at_apart, is_named}
use Rattle.rk_auth.proofs.Seen.{seen_len, seen_same, seen_changed, seen_unchanged, seen_put, seen_out, seen_not_out}
use Rattle.rk_auth.proofs.Stands.{who_kept, new_slot, put_chained, put_homes, put_stands}

-- ---- names

number_of : SessionId → ℕ
number_of (id.Client n) = n
number_of (id.Handler k) = k

is_client : SessionId → Bool
is_client (id.Client n) = true
is_client (id.Handler k) = false

same_client : (a b : ℕ) → id.Client a ≡ id.Client b → a ≡ b
unfolding number_of
same_client a b e = ap number_of e

same_handler : (a b : ℕ) → id.Handler a ≡ id.Handler b → a ≡ b
unfolding number_of
same_handler a b e = ap number_of e

not_both : (a b : ℕ) → id.Client a ≡ id.Handler b → ⊥
unfolding is_client
not_both a b e = both_ways _ (ap is_client e) refl

some_name : (a b : SessionId) → Some (Some a) ≡ Some (Some b) → a ≡ b
some_name a b e = same_Some a b (same_Some (Some a) (Some b) e)

apart_places : (m : Slots) (i j : ℕ) (a b : SessionId) → who_at m i ≡ Some (Some a) → who_at m j ≡ Some (Some b) → (a ≡ b → ⊥) → i ≡ j → ⊥
apart_places m i j a b at too ne e = ne (some_name a b (sym at ∙ ap (who_at m) e ∙ too))

-- the slot of a session is not the slot of nobody
pub not_nobody : (m : Slots) (i j : ℕ) (a : SessionId) → who_at m i ≡ Some (Some a) → who_at m j ≡ Some None → i ≡ j → ⊥
not_nobody m i j a at nobody e = none-some a (same_Some None (Some a) (sym nobody ∙ sym (ap (who_at m) e) ∙ at))

-- ---- what is read

-- what holds of client n, whatever his session, holds of a slot in which client n stands
at_client : (P : Option Standing → Type 0) (o : Option Standing) (n : ℕ) → ((s : Session) → P (Some (standing.Client n s)))
    → option_map who_of o ≡ Some (Some (id.Client n)) → P o
at_client P None n h e = absurd (none-some (Some (id.Client n)) e)
at_client P (Some standing.Nobody) n h e = absurd (none-some (id.Client n) (same_Some None (Some (id.Client n)) e))
at_client P (Some (standing.Client own s)) n h e =
    subst (λ m. P (Some (standing.Client m s))) (sym (same_client own n (some_name (id.Client own) (id.Client n) e))) (h s)
at_client P (Some (standing.Construction k c)) n h e = absurd (not_both n k (sym (some_name (id.Handler k) (id.Client n) e)))

-- what holds of the construction of k, however far it is, holds of a slot in which that construction stands
at_construction : (P : Option Standing → Type 0) (o : Option Standing) (k : ℕ) → ((c : Construction) → P (Some (standing.Construction k c)))
    → option_map who_of o ≡ Some (Some (id.Handler k)) → P o
at_construction P None k h e = absurd (none-some (Some (id.Handler k)) e)
at_construction P (Some standing.Nobody) k h e = absurd (none-some (id.Handler k) (same_Some None (Some (id.Handler k)) e))
at_construction P (Some (standing.Client n s)) k h e = absurd (not_both n k (some_name (id.Client n) (id.Handler k) e))
at_construction P (Some (standing.Construction own c)) k h e =
    subst (λ m. P (Some (standing.Construction m c))) (sym (same_handler own k (some_name (id.Handler own) (id.Handler k) e))) (h c)

-- a slot in which client n stands is read as that client
pub client_read : (o : Option Standing) (n : ℕ) → option_map who_of o ≡ Some (Some (id.Client n)) → client_named n o ≡ Some (client_of o)
client_read o n = at_client (λ o. client_named n o ≡ Some (client_of o)) o n (λ s. ap (λ b. cond b (Some s) None) (eq-eqb n n refl))

-- a slot in which the construction of k stands is read as that construction
pub construction_read : (o : Option Standing) (k : ℕ) → option_map who_of o ≡ Some (Some (id.Handler k)) → construction_named k o ≡ Some (construction_of o)
construction_read o k = at_construction (λ o. construction_named k o ≡ Some (construction_of o)) o k (λ c. ap (λ b. cond b (Some c) None) (eq-eqb k k refl))

-- ---- what a change makes

-- a change of who stands in a client's slot changes that client's session
pub made_client : (g : Session → Session) (o : Option Standing) (n : ℕ) → option_map who_of o ≡ Some (Some (id.Client n)) → client_of (option_map (in_session g) o) ≡ g (client_of o)
made_client g o n = at_client (λ o. client_of (option_map (in_session g) o) ≡ g (client_of o)) o n (λ s. refl)

-- a change of the session in a construction's slot changes its handler's session
pub made_handler : (g : Session → Session) (o : Option Standing) (k : ℕ) → option_map who_of o ≡ Some (Some (id.Handler k))
    → construction_of (option_map (in_session g) o) ≡ in_handler g (construction_of o)
made_handler g o k = at_construction (λ o. construction_of (option_map (in_session g) o) ≡ in_handler g (construction_of o)) o k (λ c. refl)

pub made_construction : (h : Construction → Construction) (o : Option Standing) (k : ℕ) → option_map who_of o ≡ Some (Some (id.Handler k))
    → construction_of (option_map (in_construction h) o) ≡ h (construction_of o)
made_construction h o k = at_construction (λ o. construction_of (option_map (in_construction h) o) ≡ h (construction_of o)) o k (λ c. refl)

-- a change of a session leaves whose it is
pub session_who : (g : Session → Session) (s : Standing) → who_of (in_session g s) ≡ who_of s
session_who g standing.Nobody = refl
session_who g _ = refl

-- a change of a construction leaves whose it is
pub construction_who : (h : Construction → Construction) (s : Standing) → who_of (in_construction h s) ≡ who_of s
construction_who h standing.Nobody = refl
construction_who h _ = refl

-- ---- what is seen of all

-- the sessions that are seen through the slots and the two indexes
abbrev pub View : Slots → Index → Index → Sessions
View m clients constructions = record { constructions = seen construction_of m constructions; clients = seen client_of m clients }

-- equal constructions and equal clients make equal sessions
pub views : {a b : FinMap nat_cmp Construction} {c d : FinMap nat_cmp Session} → a ≡ b → c ≡ d
    → ◌≡◌ {A = Sessions} (record { constructions = a; clients = c }) (record { constructions = b; clients = d })
views e f i = record { constructions = e i; clients = f i }

-- a change of a session that has no slot leaves the view
pub unchanged_view : (m : Slots) (clients constructions : Index) (g : Session → Session) (s : SessionId) → place_of clients constructions s ≡ None
    → View m clients constructions ≡ session_changed s g (View m clients constructions)
unchanged_view m clients constructions g (id.Client k) none = views refl (seen_unchanged client_of m clients k g none)
unchanged_view m clients constructions g (id.Handler k) none = views (seen_unchanged construction_of m constructions k (in_handler g) none) refl

-- a change of a construction that has no slot leaves the view
pub unchanged_construction : (m : Slots) (clients constructions : Index) (h : Construction → Construction) (k : ℕ) → get constructions k ≡ None
    → View m clients constructions ≡ record { constructions = changed_at k h (seen construction_of m constructions); clients = seen client_of m clients }
unchanged_construction m clients constructions h k none = views (seen_unchanged construction_of m constructions k h none) refl

-- all stay seated where only who stands there was changed
pub seated_changed : {s : Stored Slot} {clients constructions : Stored ℕ} {nobody reserved : ℕ} (f : Standing → Standing) (t : Stored Slot) (p : ℕ)
    → AreSeated s clients constructions nobody reserved
    → ((x : Standing) → who_of (f x) ≡ who_of x) → IsTied t.facts constructions.facts nobody
    → ((q : ℕ) → standing_at t.facts q ≡ cond (nat_eq p q) (option_map f (standing_at s.facts q)) (standing_at s.facts q)) → t.room ≡ s.room
    → AreSeated t clients constructions nobody reserved
seated_changed {s} f t p was same tied stands room = record {
  tied = tied;
  names = λ n i is. ap (option_map who_of) (stands i) ∙ who_kept f same (nat_eq p i) (standing_at s.facts i) ∙ was.names n i is;
  few = was.few;
  in_clients = was.in_clients;
  fits = was.fits;
  in_constructions = was.in_constructions;
  in_slots = omega (arith, was.in_slots, room);
}

-- ---- one is put in

standing_there : (m : Slots) (q : ℕ) (w : Option SessionId) → who_at m q ≡ Some w → standing_at m q ≡ None → ⊥
standing_there m q w e none = none-some w (sym (ap (option_map who_of) none) ∙ e)

module _ (m n : Slots) (st : Standing) (p : ℕ) (new : standing_at m p ≡ None) (stands : (q : ℕ) → standing_at n q ≡ cond (nat_eq p q) (Some st) (standing_at m q)) where
  -- who is put at a place stands there
  pub put_at : standing_at n p ≡ Some st
  put_at = stands p ∙ at_same p p (Some st) (standing_at m p) refl

  put_elsewhere : (q : ℕ) → (p ≡ q → ⊥) → standing_at n q ≡ standing_at m q
  put_elsewhere q ne = stands q ∙ at_apart p q (Some st) (standing_at m q) ne

  put_not : (q : ℕ) (w : Option SessionId) → who_at m q ≡ Some w → p ≡ q → ⊥
  put_not q w e same = standing_there m q w e (ap (standing_at m) (sym same) ∙ new)

  put_who : (q : ℕ) (w : Option SessionId) → who_at m q ≡ Some w → who_at n q ≡ Some w
  put_who q w e = ap (option_map who_of) (put_elsewhere q (put_not q w e)) ∙ e

  -- one who waits for nothing may take a place, and the slots stay tied
  pub tied_put : (index : Index) (nobody : ℕ) → IsTied m index nobody → waited_of st ≡ None → AreChained n → ((q : ℕ) → home_at n q ≡ home_at m q) → IsTied n index nobody
  tied_put index nobody tied idle chained homes = record {
    chained = chained;
    waits = λ q. elim (cases_eq p q) [
      | inl e ↦
          ap is_some (homes q) ∙ tied.waits q ∙ ap (λ o. is_some (waited_in o)) (ap (standing_at m) (sym e) ∙ new)
          ∙ sym (ap (λ o. is_some (waited_in o)) (ap (standing_at n) (sym e) ∙ put_at) ∙ ap is_some idle)
      | inr ne ↦ ap is_some (homes q) ∙ tied.waits q ∙ sym (ap (λ o. is_some (waited_in o)) (put_elsewhere q ne))
    ];
    homes = λ q h is.
        let was : home_at m q ≡ Some h = sym (homes q) ∙ is in
        let ne : p ≡ q → ⊥ = λ e. both_ways _ (sym (ap is_some was) ∙ tied.waits q ∙ ap (λ o. is_some (waited_in o)) (ap (standing_at m) (sym e) ∙ new)) refl in
        subst (λ o. (h ≡ nobody) ⊎ (option_and_then (get index) (waited_in o) ≡ Some h)) (sym (put_elsewhere q ne)) (tied.homes q h was);
    heads = λ k i is. put_who i (Some (id.Handler k)) (tied.heads k i is);
    nobody_there = put_who nobody None tied.nobody_there;
  }

other_key : (index : Index) (k p h : ℕ) (o : Option ℕ) → get index k ≡ None → option_and_then (get index) o ≡ Some h → option_and_then (get (insert index k p)) o ≡ Some h
other_key index k p h None none e = e
other_key index k p h (Some q) none e = at_other index k p q (λ same. none-some h (sym none ∙ ap (get index) (sym same) ∙ e)) ∙ e

-- the construction has a name now
pub tied_named : (n : Slots) (index : Index) (nobody k p : ℕ) → IsTied n index nobody → get index k ≡ None → who_at n p ≡ Some (Some (id.Handler k)) → IsTied n (insert index k p) nobody
tied_named n index nobody k p tied none who = record {
  chained = tied.chained;
  waits = tied.waits;
  homes = λ q h is. elim (tied.homes q h is) [
    | inl e ↦ inl e
    | inr at ↦ inr (other_key index k p h (waited_in (standing_at n q)) none at)
  ];
  heads = λ q i is. elim (cases_eq q k) [
    | inl e ↦
        let same : p ≡ i = same_Some p i (sym (at_new index k p q e) ∙ is) in
        sym (ap (who_at n) same) ∙ who ∙ ap (λ x. Some (Some (id.Handler x))) (sym e)
    | inr ne ↦ tied.heads q i (sym (at_other index k p q ne) ∙ is)
  ];
  nobody_there = tied.nobody_there;
}

-- ---- one is taken out

key_of : (index : Index) (o : Option ℕ) (p : ℕ) → option_and_then (get index) o ≡ Some p → (k : ℕ) × (get index k ≡ Some p)
key_of index None p e = absurd (none-some p e)
key_of index (Some k) p e = (k, e)

-- no chain is headed by a client's slot
pub nobody_homes : (m : Slots) (index : Index) (nobody n p : ℕ) → IsTied m index nobody → who_at m p ≡ Some (Some (id.Client n)) → (q : ℕ) → home_at m q ≡ Some p → ⊥
nobody_homes m index nobody n p tied who q e = elim (tied.homes q p e) [
  | inl same ↦ not_nobody m p nobody (id.Client n) who tied.nobody_there same
  | inr at ↦
      let key = key_of index (waited_in (standing_at m q)) p at in
      apart_places m p p (id.Client n) (id.Handler key.0) who (tied.heads key.0 p key.1) (not_both n key.0) refl
]

-- who is named at a place stands there
pub is_standing_there : (m : Slots) (q : ℕ) (w : Option SessionId) → who_at m q ≡ Some w → is_some (standing_at m q) ≡ true
is_standing_there m q w e = elim (standing_at m q) as (λ o. option_map who_of o ≡ Some w → is_some o ≡ true) [ None ↦ λ e. absurd (none-some w e) | Some s ↦ λ e. refl ] e

module _ (m n : Slots) (p : ℕ) (stands : (q : ℕ) → standing_at n q ≡ cond (nat_eq p q) None (standing_at m q)) where
  out_elsewhere : (q : ℕ) → (p ≡ q → ⊥) → standing_at n q ≡ standing_at m q
  out_elsewhere q ne = stands q ∙ at_apart p q None (standing_at m q) ne

  out_here : (q : ℕ) → p ≡ q → standing_at n q ≡ None
  out_here q e = stands q ∙ at_same p q None (standing_at m q) e

  -- a client may give its slot back, and the slots stay tied
  pub tied_out : (index : Index) (nobody k : ℕ) → IsTied m index nobody → who_at m p ≡ Some (Some (id.Client k)) → AreChained n
      → ((q : ℕ) → home_at n q ≡ cond (nat_eq p q) None (home_at m q)) → IsTied n index nobody
  tied_out index nobody k tied who chained homes = record {
    chained = chained;
    waits = λ q. elim (cases_eq p q) [
      | inl e ↦ ap is_some (homes q ∙ at_same p q None (home_at m q) e) ∙ sym (ap (λ o. is_some (waited_in o)) (out_here q e))
      | inr ne ↦ ap is_some (homes q ∙ at_apart p q None (home_at m q) ne) ∙ tied.waits q ∙ sym (ap (λ o. is_some (waited_in o)) (out_elsewhere q ne))
    ];
    homes = λ q h is. elim (cases_eq p q) [
      | inl e ↦ absurd (none-some h (sym (homes q ∙ at_same p q None (home_at m q) e) ∙ is))
      | inr ne ↦
          subst (λ o. (h ≡ nobody) ⊎ (option_and_then (get index) (waited_in o) ≡ Some h)) (sym (out_elsewhere q ne))
          (tied.homes q h (sym (homes q ∙ at_apart p q None (home_at m q) ne) ∙ is))
    ];
    heads = λ q i is.
        ap (option_map who_of) (out_elsewhere i (apart_places m p i (id.Client k) (id.Handler q) who (tied.heads q i is) (not_both k q))) ∙ tied.heads q i is;
    nobody_there = ap (option_map who_of) (out_elsewhere nobody (not_nobody m p nobody (id.Client k) who tied.nobody_there)) ∙ tied.nobody_there;
  }

-- if a chain was taken over from p, none is in the chain of p
pub not_homed : (p nobody : ℕ) (o : Option ℕ) → (nobody ≡ p → ⊥) → rehomed p nobody o ≡ Some p → ⊥
not_homed p nobody o ne e = elim (names o p) as (λ b. names o p ≡ b → cond b (Some nobody) o ≡ Some p → ⊥) [
  | true ↦ λ t e. ne (same_Some nobody p e)
  | false ↦ λ t e. both_ways _ t (is_named o p e)
] refl e

some_rehomed : (p nobody : ℕ) (o : Option ℕ) → is_some (rehomed p nobody o) ≡ is_some o
some_rehomed p nobody None = refl
some_rehomed p nobody (Some h) = elim (nat_eq h p) as (λ b. is_some (cond b (Some nobody) (Some h)) ≡ true) [ true ↦ refl | false ↦ refl ]

was_homed : (p nobody h : ℕ) (o : Option ℕ) → rehomed p nobody o ≡ Some h → (h ≡ nobody) ⊎ ((o ≡ Some h) × (h ≡ p → ⊥))
was_homed p nobody h o e = elim (names o p) as (λ b. names o p ≡ b → cond b (Some nobody) o ≡ Some h → (h ≡ nobody) ⊎ ((o ≡ Some h) × (h ≡ p → ⊥))) [
  | true ↦ λ t e. inl (sym (same_Some nobody h e))
  | false ↦ λ t e. inr (e, λ same. both_ways _ t (is_named o p (e ∙ ap (λ x. Some x) same)))
] refl e

key_left : (index : Index) (k p h : ℕ) (o : Option ℕ) → get index k ≡ Some p → (h ≡ p → ⊥) → option_and_then (get index) o ≡ Some h → option_and_then (get (remove index k)) o ≡ Some h
key_left index k p h None is ne e = e
key_left index k p h (Some q) is ne e = left_in index k q (λ same. ne (same_Some h p (sym e ∙ ap (get index) same ∙ is))) ∙ e

-- the slots stay tied where a construction ends: its chain is taken over by nobody's, and its slot is given back
pub tied_ended : (m l n : Slots) (index : Index) (nobody k p : ℕ) → IsTied m index nobody → get index k ≡ Some p
    → ((q : ℕ) → standing_at l q ≡ standing_at m q) → ((q : ℕ) → home_at l q ≡ rehomed p nobody (home_at m q)) → AreChained n
    → ((q : ℕ) → standing_at n q ≡ cond (nat_eq p q) None (standing_at l q)) → ((q : ℕ) → home_at n q ≡ cond (nat_eq p q) None (home_at l q))
    → IsTied n (remove index k) nobody
tied_ended m l n index nobody k p tied is standing_l homes_l chained standing_n homes_n = record {
  chained = chained;
  waits = λ q. elim (cases_eq p q) [
    | inl e ↦ ap is_some (homes_n q ∙ at_same p q None (home_at l q) e) ∙ sym (ap (λ o. is_some (waited_in o)) (standing_n q ∙ at_same p q None (standing_at l q) e))
    | inr ne ↦
        ap is_some (homes_n q ∙ at_apart p q None (home_at l q) ne ∙ homes_l q) ∙ some_rehomed p nobody (home_at m q) ∙ tied.waits q
        ∙ sym (ap (λ o. is_some (waited_in o)) (left q ne))
  ];
  homes = λ q h e. elim (cases_eq p q) [
    | inl same ↦ absurd (none-some h (sym (homes_n q ∙ at_same p q None (home_at l q) same) ∙ e))
    | inr ne ↦ elim (was_homed p nobody h (home_at m q) (sym (homes_n q ∙ at_apart p q None (home_at l q) ne ∙ homes_l q) ∙ e)) [
      | inl none ↦ inl none
      | inr was ↦ elim (tied.homes q h was.0) [
        | inl none ↦ inl none
        | inr at ↦ inr (ap (λ o. option_and_then (get (remove index k)) (waited_in o)) (left q ne) ∙ key_left index k p h (waited_in (standing_at m q)) is was.1 at)
      ]
    ]
  ];
  heads = λ q i e.
      let other : k ≡ q → ⊥ = λ same. none-some i (sym (taken_out index k q (sym same)) ∙ e) in
      let at : get index q ≡ Some i = sym (left_in index k q (λ s. other (sym s))) ∙ e in
      let who = tied.heads q i at in
      ap (option_map who_of) (left i (apart_places m p i (id.Handler k) (id.Handler q) (tied.heads k p is) who (λ s. other (same_handler k q s)))) ∙ who;
  nobody_there = ap (option_map who_of) (left nobody (not_nobody m p nobody (id.Handler k) (tied.heads k p is) tied.nobody_there)) ∙ tied.nobody_there;
}
  where
    left : (q : ℕ) → (p ≡ q → ⊥) → standing_at n q ≡ standing_at m q
    left q ne = standing_n q ∙ at_apart p q None (standing_at l q) ne ∙ standing_l q

-- ---- the views, through a change of one slot

module _ {s : Stored Slot} {cs ks : Stored ℕ} {nobody reserved : ℕ} (was : AreSeated s cs ks nobody reserved) (n : Slots) where
  abbrev m : Slots
  m = s.facts

  abbrev clients : Index
  clients = cs.facts

  abbrev constructions : Index
  constructions = ks.facts

  -- the slots of two sessions are two
  apart_of_both : (k q p j : ℕ) → get clients k ≡ Some p → get constructions q ≡ Some j → p ≡ j → ⊥
  apart_of_both k q p j is at = apart_places m p j (id.Client k) (id.Handler q) (was.names k p is) (was.tied.heads q j at) (not_both k q)

  apart_of_clients : (k q p j : ℕ) → (k ≡ q → ⊥) → get clients k ≡ Some p → get clients q ≡ Some j → p ≡ j → ⊥
  apart_of_clients k q p j ne is at = apart_places m p j (id.Client k) (id.Client q) (was.names k p is) (was.names q j at) (λ e. ne (same_client k q e))

  apart_of_constructions : (k q p j : ℕ) → (k ≡ q → ⊥) → get constructions k ≡ Some p → get constructions q ≡ Some j → p ≡ j → ⊥
  apart_of_constructions k q p j ne is at =
      apart_places m p j (id.Handler k) (id.Handler q) (was.tied.heads k p is) (was.tied.heads q j at) (λ e. ne (same_handler k q e))

  -- ---- one is changed

  module _ (f : Standing → Standing) (p : ℕ) (stands : (q : ℕ) → standing_at n q ≡ cond (nat_eq p q) (option_map f (standing_at m q)) (standing_at m q)) where
    at_place : standing_at n p ≡ option_map f (standing_at m p)
    at_place = stands p ∙ at_same p p (option_map f (standing_at m p)) (standing_at m p) refl

    elsewhere : (q : ℕ) → (p ≡ q → ⊥) → standing_at n q ≡ standing_at m q
    elsewhere q ne = stands q ∙ at_apart p q (option_map f (standing_at m q)) (standing_at m q) ne

  -- a session that is changed in its slot is changed in the view, and no other is
  pub changed_view : (g : Session → Session) (s : SessionId) (p : ℕ) → place_of clients constructions s ≡ Some p
      → ((q : ℕ) → standing_at n q ≡ cond (nat_eq p q) (option_map (in_session g) (standing_at m q)) (standing_at m q))
      → View n clients constructions ≡ session_changed s g (View m clients constructions)
  changed_view g (id.Client k) p is stands =
      views (seen_same construction_of m n constructions (λ q j at. ap construction_of (elsewhere (in_session g) p stands j (apart_of_both k q p j is at))))
      (seen_changed client_of m n clients k p g is (ap client_of (at_place (in_session g) p stands) ∙ made_client g (standing_at m p) k (was.names k p is))
      (λ q j ne at. ap client_of (elsewhere (in_session g) p stands j (apart_of_clients k q p j ne is at))))
  changed_view g (id.Handler k) p is stands =
      views (seen_changed construction_of m n constructions k p (in_handler g) is
      (ap construction_of (at_place (in_session g) p stands) ∙ made_handler g (standing_at m p) k (was.tied.heads k p is))
      (λ q j ne at. ap construction_of (elsewhere (in_session g) p stands j (apart_of_constructions k q p j ne is at))))
      (seen_same client_of m n clients (λ q j at. ap client_of (elsewhere (in_session g) p stands j (λ e. apart_of_both q k j p at is (sym e)))))

  -- a construction that is changed in its slot is changed in the view, and no other is
  pub construction_view : (h : Construction → Construction) (k p : ℕ) → get constructions k ≡ Some p
      → ((q : ℕ) → standing_at n q ≡ cond (nat_eq p q) (option_map (in_construction h) (standing_at m q)) (standing_at m q))
      → View n clients constructions ≡ record { constructions = changed_at k h (seen construction_of m constructions); clients = seen client_of m clients }
  construction_view h k p is stands =
      views (seen_changed construction_of m n constructions k p h is
      (ap construction_of (at_place (in_construction h) p stands) ∙ made_construction h (standing_at m p) k (was.tied.heads k p is))
      (λ q j ne at. ap construction_of (elsewhere (in_construction h) p stands j (apart_of_constructions k q p j ne is at))))
      (seen_same client_of m n clients (λ q j at. ap client_of (elsewhere (in_construction h) p stands j (λ e. apart_of_both q k j p at is (sym e)))))

  -- ---- one comes or goes

  module _ (p : ℕ) where
    -- a client that takes a place is in the view, and all others are as they were
    pub client_put_view : (k : ℕ) (s : Session) → standing_at m p ≡ None → ((q : ℕ) → standing_at n q ≡ cond (nat_eq p q) (Some (standing.Client k s)) (standing_at m q))
        → View n (insert clients k p) constructions ≡ record { constructions = seen construction_of m constructions; clients = insert (seen client_of m clients) k s }
    client_put_view k s new stands =
        let st = standing.Client k s in
        views (seen_same construction_of m n constructions
        (λ q j at. ap construction_of (put_elsewhere m n st p new stands j (put_not m n st p new stands j (Some (id.Handler q)) (was.tied.heads q j at)))))
        (seen_put client_of m n clients k p s (ap client_of (put_at m n st p new stands))
        (λ q j at. ap client_of (put_elsewhere m n st p new stands j (put_not m n st p new stands j (Some (id.Client q)) (was.names q j at)))))

    -- a construction that takes a place is in the view, and all others are as they were
    pub construction_put_view : (k : ℕ) (c : Construction) → standing_at m p ≡ None
        → ((q : ℕ) → standing_at n q ≡ cond (nat_eq p q) (Some (standing.Construction k c)) (standing_at m q))
        → View n clients (insert constructions k p) ≡ record { constructions = insert (seen construction_of m constructions) k c; clients = seen client_of m clients }
    construction_put_view k c new stands =
        let st = standing.Construction k c in
        views (seen_put construction_of m n constructions k p c (ap construction_of (put_at m n st p new stands))
        (λ q j at. ap construction_of (put_elsewhere m n st p new stands j (put_not m n st p new stands j (Some (id.Handler q)) (was.tied.heads q j at)))))
        (seen_same client_of m n clients (λ q j at. ap client_of
        (put_elsewhere m n st p new stands j (put_not m n st p new stands j (Some (id.Client q)) (was.names q j at)))))

    -- a client that gives its place back is no more in the view, and all others are as they were
    pub client_out_view : (k : ℕ) → get clients k ≡ Some p → ((q : ℕ) → standing_at n q ≡ cond (nat_eq p q) None (standing_at m q))
        → View n (remove clients k) constructions
        ≡ record { constructions = seen construction_of m constructions; clients = remove (seen client_of m clients) k }
    client_out_view k is stands =
        views (seen_same construction_of m n constructions (λ q j at. ap construction_of (out_elsewhere m n p stands j (apart_of_both k q p j is at))))
        (seen_out client_of m n clients k (λ q j ne at. ap client_of (out_elsewhere m n p stands j (apart_of_clients k q p j ne is at))))

    -- a construction that gives its place back is no more in the view, and all others are as they were
    pub construction_out_view : (k : ℕ) → get constructions k ≡ Some p → ((q : ℕ) → standing_at n q ≡ cond (nat_eq p q) None (standing_at m q))
        → View n clients (remove constructions k)
        ≡ record { constructions = remove (seen construction_of m constructions) k; clients = seen client_of m clients }
    construction_out_view k is stands =
        views (seen_out construction_of m n constructions k (λ q j ne at. ap construction_of (out_elsewhere m n p stands j
        (apart_of_constructions k q p j ne is at))))
        (seen_same client_of m n clients (λ q j at. ap client_of (out_elsewhere m n p stands j (λ e. apart_of_both q k j p at is (sym e)))))

    -- the names of the clients, once one is there or gone
    pub named_put : (st : Standing) → standing_at m p ≡ None → ((q : ℕ) → standing_at n q ≡ cond (nat_eq p q) (Some st) (standing_at m q))
        → (q i : ℕ) → get clients q ≡ Some i → who_at n i ≡ Some (Some (id.Client q))
    named_put st new stands q i at = put_who m n st p new stands i (Some (id.Client q)) (was.names q i at)

    -- each client's number names its slot where a client takes a place
    pub named_new : (k : ℕ) (s : Session) → standing_at m p ≡ None → ((q : ℕ) → standing_at n q ≡ cond (nat_eq p q) (Some (standing.Client k s)) (standing_at m q))
        → (q i : ℕ) → get (insert clients k p) q ≡ Some i → who_at n i ≡ Some (Some (id.Client q))
    named_new k s new stands q i is = elim (cases_eq q k) [
      | inl e ↦
          let same : p ≡ i = same_Some p i (sym (at_new clients k p q e) ∙ is) in
          sym (ap (who_at n) same) ∙ ap (option_map who_of) (put_at m n (standing.Client k s) p new stands) ∙ ap (λ x. Some (Some (id.Client x))) (sym e)
      | inr ne ↦ named_put (standing.Client k s) new stands q i (sym (at_other clients k p q ne) ∙ is)
    ]

    -- each client's number names its slot where a construction gives its place back
    pub named_left : (k : ℕ) → get constructions k ≡ Some p → ((q : ℕ) → standing_at n q ≡ cond (nat_eq p q) None (standing_at m q))
        → (q i : ℕ) → get clients q ≡ Some i → who_at n i ≡ Some (Some (id.Client q))
    named_left k is stands q i at = ap (option_map who_of) (out_elsewhere m n p stands i (λ e. apart_of_both q k i p at is (sym e))) ∙ was.names q i at

    -- each client's number names its slot where another client gives its place back
    pub named_others : (k : ℕ) → get clients k ≡ Some p → ((q : ℕ) → standing_at n q ≡ cond (nat_eq p q) None (standing_at m q))
        → (q i : ℕ) → get (remove clients k) q ≡ Some i → who_at n i ≡ Some (Some (id.Client q))
    named_others k is stands q i e =
        let other : k ≡ q → ⊥ = λ same. none-some i (sym (taken_out clients k q (sym same)) ∙ e) in
        let at : get clients q ≡ Some i = sym (left_in clients k q (λ s. other (sym s))) ∙ e in
        ap (option_map who_of) (out_elsewhere m n p stands i (apart_of_clients k q p i other is at)) ∙ was.names q i at

-- removing a client that has no place leaves the view
pub not_there_view : (m : Slots) (clients constructions : Index) (k : ℕ) → get clients k ≡ None
    → View m clients constructions ≡ record { constructions = seen construction_of m constructions; clients = remove (seen client_of m clients) k }
not_there_view m clients constructions k none = views refl (seen_not_out client_of m clients k none)

-- removing a construction that has no place leaves the view
pub not_made_view : (m : Slots) (clients constructions : Index) (k : ℕ) → get constructions k ≡ None
    → View m clients constructions ≡ record { constructions = remove (seen construction_of m constructions) k; clients = seen client_of m clients }
not_made_view m clients constructions k none = views (seen_not_out construction_of m constructions k none) refl

-- one name fewer
pub one_less : (index : Index) (k p : ℕ) → get index k ≡ Some p → len (remove index k) ≡ len index - 1
one_less index k p is = len-remove nat_cmp_total index k ∙ ap (λ o. cond (is_some o) (len index - 1) (len index)) is

-- an index with a name is not empty
pub one_at_least : (index : Index) (k p : ℕ) → get index k ≡ Some p → 0 < len index
one_at_least index k p is = elim (len index) as (λ n. len index ≡ n → 0 < len index) [
  | zero ↦ λ none. absurd (none-some p (sym (ap (λ x. get x k) (empty_of_len index none) ∙ get-empty nat_cmp k) ∙ is))
  | suc n ↦ λ more. omega (arith, more)
] refl

-- ---- as it begins

nothing_there : (m : Slots) → m ≡ empty → (q : ℕ) → get m q ≡ None
nothing_there m none q = ap (λ x. get x q) none ∙ get-empty nat_cmp q

pub no_chains : (m : Slots) → m ≡ empty → AreChained m
no_chains m none h = (
  [],
  record {
    linked = ap first_in (nothing_there m none h);
    once = tt;
    exact = λ q. sym (ap (λ o. names (home_in o) h) (nothing_there m none q));
  },
)

-- slots of which nobody has the only one are tied
pub tied_first : (m : Slots) (index : Index) (p : ℕ) → m ≡ empty → index ≡ empty → IsTied (insert m p (new_slot standing.Nobody)) index p
tied_first m index p none unnamed =
    let new : get m p ≡ None = nothing_there m none p in
    let n : Slots = insert m p (new_slot standing.Nobody) in
    let stands : (q : ℕ) → standing_at n q ≡ cond (nat_eq p q) (Some standing.Nobody) (standing_at m q) = put_stands m p standing.Nobody new in
    let homes : (q : ℕ) → home_at n q ≡ None = λ q. put_homes m p standing.Nobody new q ∙ ap home_in (nothing_there m none q) in
    record {
      chained = put_chained m p standing.Nobody new (no_chains m none);
      waits = λ q. ap is_some (homes q) ∙ sym (ap (λ o. is_some (waited_in o)) (stands q) ∙ by_test (nat_eq p q) (standing_at m q) (ap standing_in (nothing_there m none q)));
      homes = λ q h is. absurd (none-some h (sym (homes q) ∙ is));
      heads = λ k i is. absurd (none-some i (sym (ap (λ x. get x k) unnamed ∙ get-empty nat_cmp k) ∙ is));
      nobody_there = ap (option_map who_of) (stands p ∙ at_same p p (Some standing.Nobody) (standing_at m p) refl);
    }
  where
    by_test : (b : Bool) (o : Option Standing) → o ≡ None → is_some (waited_in (cond b (Some standing.Nobody) o)) ≡ false
    by_test true o e = refl
    by_test false o e = ap (λ x. is_some (waited_in x)) e

-- an empty index shows nothing
pub nothing_seen : {V : Type 0} (pick : Option Standing → V) (m : Slots) (index : Index) → index ≡ empty → seen pick m index ≡ empty
nothing_seen pick m index none = empty_of_len (seen pick m index) (seen_len pick m index ∙ ap len none ∙ len-empty nat_cmp ℕ)
