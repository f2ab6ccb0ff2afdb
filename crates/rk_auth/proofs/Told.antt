-- All who wait for a key get its outcome, where those of two chains do.
use Rattle.rk_auth.proofs.Words.{◌∙◌, ap, sym, ◌≡◌, subst, refl, ℕ, cond, true, false, inl, inr, ◌||◌, Bool, ◌⊎◌, both_ways, cases_eq, ne_eqb, none-some}
use Rattle.rk_auth.proofs.Words.{same_Some, get, Some, None, nat_eq, is_some, Option, option_map, option_and_then, shadow, standing_at, home_at, AreChained}
use Rattle.rk_auth.proofs.Words.{in_handler, all_told, in_stage, told_wait, told, client_of, construction_of, IsTied, who_at, who_of, waited_in, in_session}
use Rattle.rk_auth.proofs.Words.{same_home, waited_of, AreBothTold, handler_in, waited_key, Session, Standing, Index, Slots}
use Rattle.rk_names.specs.declared.numbers.SessionId.TheVariants as id
use Rattle.rk_auth.specs.declared.session.Wait.{Wait}
use Rattle.rk_auth.specs.declared.session.Outcome.{Outcome}
use Rattle.rk_auth.specs.declared.construction.Stage.{Stage}
use Rattle.rk_auth.specs.declared.construction.Stage.TheVariants.{Plain}
use Rattle.rk_auth.specs.declared.slot.Standing.TheVariants as standing
use Rattle.rk_auth.proofs.Links.{is_named}
use Rattle.rk_auth.proofs.Seen.{seen_all}
use Rattle.rk_auth.proofs.Stands.{who_kept}
use Rattle.rk_auth.proofs.Seated.{View, views, made_client, made_handler, session_who}

module _ (k : ℕ) (outcome : Outcome) where
  -- ---- one gets the outcome

  wait_same : (w : Wait) → (w.key ≡ k → ⊥) → told_wait k outcome w ≡ w
  wait_same w ne = ap (λ b. record w { outcome = cond b (Some outcome) w.outcome }) (ne_eqb w.key k ne)

  waits_same : (o : Option Wait) → (option_map (λ (w : Wait). w.key) o ≡ Some k → ⊥) → option_map (told_wait k outcome) o ≡ o
  waits_same None ne = refl
  waits_same (Some w) ne = ap (λ x. Some x) (wait_same w (λ e. ne (ap (λ x. Some x) e)))

  session_same : (s : Session) → (waited_key s ≡ Some k → ⊥) → told k outcome s ≡ s
  session_same s ne = ap {B = Session} (λ x. record s { wait = x }) (waits_same s.wait ne)

  stage_same : (st : Stage) → (option_and_then waited_key (handler_in st) ≡ Some k → ⊥) → in_stage (told k outcome) st ≡ st
  stage_same (Plain s) ne = ap Plain (session_same s ne)
  stage_same _ ne = refl

  standing_same : (s : Standing) → (waited_of s ≡ Some k → ⊥) → in_session (told k outcome) s ≡ s
  standing_same standing.Nobody ne = refl
  standing_same (standing.Client n s) ne = ap (standing.Client n) (session_same s ne)
  standing_same (standing.Construction q c) ne = ap {B = Standing} (λ x. standing.Construction q (record c { stage = x })) (stage_same c.stage ne)

  all_same : (o : Option Standing) → (waited_in o ≡ Some k → ⊥) → option_map (in_session (told k outcome)) o ≡ o
  all_same None ne = refl
  all_same (Some s) ne = ap (λ x. Some x) (standing_same s ne)

  -- ---- getting an outcome twice is as getting it once

  waits_twice : (o : Option Wait) → option_map (told_wait k outcome) (option_map (told_wait k outcome) o) ≡ option_map (told_wait k outcome) o
  waits_twice None = refl
  waits_twice (Some w) = ap {B = Option Wait} (λ x. Some (record w { outcome = x })) (shadow (nat_eq w.key k) (Some outcome) (Some outcome) w.outcome)

  session_twice : (s : Session) → told k outcome (told k outcome s) ≡ told k outcome s
  session_twice s = ap {B = Session} (λ x. record s { wait = x }) (waits_twice s.wait)

  stage_twice : (st : Stage) → in_stage (told k outcome) (in_stage (told k outcome) st) ≡ in_stage (told k outcome) st
  stage_twice (Plain s) = ap Plain (session_twice s)
  stage_twice _ = refl

  -- getting the outcome of a key twice is as getting it once
  pub standing_twice : (s : Standing) → in_session (told k outcome) (in_session (told k outcome) s) ≡ in_session (told k outcome) s
  standing_twice standing.Nobody = refl
  standing_twice (standing.Client n s) = ap (standing.Client n) (session_twice s)
  standing_twice (standing.Construction q c) = ap {B = Standing} (λ x. standing.Construction q (record c { stage = x })) (stage_twice c.stage)

  -- ---- who gets the outcome waits as before

  waits_kept : (o : Option Wait) → option_map (λ (w : Wait). w.key) (option_map (told_wait k outcome) o) ≡ option_map (λ (w : Wait). w.key) o
  waits_kept None = refl
  waits_kept (Some w) = refl

  stage_kept : (st : Stage) → option_and_then waited_key (handler_in (in_stage (told k outcome) st)) ≡ option_and_then waited_key (handler_in st)
  stage_kept (Plain s) = waits_kept s.wait
  stage_kept _ = refl

  standing_kept : (s : Standing) → waited_of (in_session (told k outcome) s) ≡ waited_of s
  standing_kept standing.Nobody = refl
  standing_kept (standing.Client n s) = waits_kept s.wait
  standing_kept (standing.Construction q c) = stage_kept c.stage

  kept : (o : Option Standing) → waited_in (option_map (in_session (told k outcome)) o) ≡ waited_in o
  kept None = refl
  kept (Some s) = standing_kept s

  -- ---- two chains get the outcome

  twice : (o : Option Standing) → option_map (in_session (told k outcome)) (option_map (in_session (told k outcome)) o) ≡ option_map (in_session (told k outcome)) o
  twice None = refl
  twice (Some s) = ap (λ x. Some x) (standing_twice s)

  in_one : (a b : Bool) (o : Option Standing) → (a || b) ≡ true
      → cond b (option_map (in_session (told k outcome)) (cond a (option_map (in_session (told k outcome)) o) o)) (cond a (option_map (in_session (told k outcome)) o) o)
      ≡ option_map (in_session (told k outcome)) o
  in_one true true o t = twice o
  in_one true false o t = refl
  in_one false true o t = refl
  in_one false false o t = absurd (both_ways _ refl t)

  in_none : (a b : Bool) (o : Option Standing) → option_map (in_session (told k outcome)) o ≡ o
      → cond b (option_map (in_session (told k outcome)) (cond a (option_map (in_session (told k outcome)) o) o)) (cond a (option_map (in_session (told k outcome)) o) o)
      ≡ option_map (in_session (told k outcome)) o
  in_none true true o t = twice o
  in_none true false o t = refl
  in_none false true o t = refl
  in_none false false o t = sym t

  or_right : (a : Bool) → (a || true) ≡ true
  or_right true = refl
  or_right false = refl

  some_home : (o : Option ℕ) (p : Option ℕ) (v : ℕ) → p ≡ Some v → is_some o ≡ is_some p → (h : ℕ) × (o ≡ Some h)
  some_home None p v e same = absurd (both_ways _ refl (same ∙ ap is_some e))
  some_home (Some h) p v e same = (h, refl)

  -- a round through the chain of the key, and one through nobody's, give the outcome to both
  pub told_twice : (m l n : Slots) (home : Option ℕ) (nobody : ℕ)
      → ((q : ℕ) → standing_at l q ≡ cond (same_home home (home_at m q)) (option_map (in_session (told k outcome)) (standing_at m q)) (standing_at m q))
      → ((q : ℕ) → home_at l q ≡ home_at m q)
      → ((q : ℕ) → standing_at n q ≡ cond (same_home (Some nobody) (home_at l q)) (option_map (in_session (told k outcome)) (standing_at l q)) (standing_at l q))
      → ((q : ℕ) → home_at n q ≡ home_at l q) → AreChained n → AreBothTold m n home nobody k outcome
  told_twice m l n home nobody first homes_l then homes_n chained = record {
    chained = chained;
    homes = λ q. homes_n q ∙ homes_l q;
    standing = λ q.
        then q ∙ ap (λ h. cond (same_home (Some nobody) h) (option_map (in_session (told k outcome)) (standing_at l q)) (standing_at l q)) (homes_l q)
        ∙ ap (λ o. cond (same_home (Some nobody) (home_at m q)) (option_map (in_session (told k outcome)) o) o) (first q);
  }

  module _ (m n : Slots) (index : Index) (nobody : ℕ) (tied : IsTied m index nobody) (is_told : AreBothTold m n (get index k) nobody k outcome) where
    waiter_told : (q : ℕ) → waited_in (standing_at m q) ≡ Some k → (same_home (get index k) (home_at m q) || same_home (Some nobody) (home_at m q)) ≡ true
    waiter_told q e =
        let home = some_home (home_at m q) (waited_in (standing_at m q)) k e (tied.waits q) in
        elim (tied.homes q home.0 home.1) [
          | inl none ↦
              ap (λ b. same_home (get index k) (home_at m q) || b) (is_named (home_at m q) nobody (home.1 ∙ ap (λ x. Some x) none))
              ∙ or_right (same_home (get index k) (home_at m q))
          | inr at ↦
              let place : get index k ≡ Some home.0 = sym (ap (option_and_then (get index)) e) ∙ at in
              ap (λ b. b || same_home (Some nobody) (home_at m q)) (ap (λ h. same_home h (home_at m q)) place ∙ is_named (home_at m q) home.0 home.1)
        ]

    -- each who waits for the key gets the outcome
    stands : (q : ℕ) → standing_at n q ≡ option_map (in_session (told k outcome)) (standing_at m q)
    stands q = is_told.standing q ∙ by_wait (waited_in (standing_at m q)) refl
      where
        by_wait : (o : Option ℕ) → waited_in (standing_at m q) ≡ o → cond (same_home (Some nobody) (home_at m q))
            (option_map (in_session (told k outcome)) (cond (same_home (get index k) (home_at m q)) (option_map (in_session (told k outcome)) (standing_at m q)) (standing_at m q)))
            (cond (same_home (get index k) (home_at m q)) (option_map (in_session (told k outcome)) (standing_at m q)) (standing_at m q))
            ≡ option_map (in_session (told k outcome)) (standing_at m q)
        by_wait None is =
            in_none (same_home (get index k) (home_at m q)) (same_home (Some nobody) (home_at m q)) (standing_at m q)
            (all_same (standing_at m q) (λ e. none-some k (sym is ∙ e)))
        by_wait (Some j) is = elim (cases_eq j k) [
          | inl e ↦ in_one (same_home (get index k) (home_at m q)) (same_home (Some nobody) (home_at m q)) (standing_at m q) (waiter_told q (is ∙ ap (λ x. Some x) e))
          | inr ne ↦
              in_none (same_home (get index k) (home_at m q)) (same_home (Some nobody) (home_at m q)) (standing_at m q)
              (all_same (standing_at m q) (λ e. ne (same_Some j k (sym is ∙ e))))
        ]

    who_told : (q : ℕ) → who_at n q ≡ who_at m q
    who_told q = ap (option_map who_of) (stands q) ∙ who_kept (in_session (told k outcome)) (session_who (told k outcome)) true (standing_at m q)

    -- the slots stay tied where both chains get the outcome
    pub tied_told : IsTied n index nobody
    tied_told = record {
      chained = is_told.chained;
      waits = λ q. ap is_some (is_told.homes q) ∙ tied.waits q ∙ sym (ap is_some (ap waited_in (stands q) ∙ kept (standing_at m q)));
      homes = λ q h is.
          subst (λ o. (h ≡ nobody) ⊎ (option_and_then (get index) o ≡ Some h)) (sym (ap waited_in (stands q) ∙ kept (standing_at m q)))
          (tied.homes q h (sym (is_told.homes q) ∙ is));
      heads = λ q i is. who_told i ∙ tied.heads q i is;
      nobody_there = who_told nobody ∙ tied.nobody_there;
    }

    module _ (clients : Index) (named : (q i : ℕ) → get clients q ≡ Some i → who_at m i ≡ Some (Some (id.Client q))) where
      -- each client's number names its slot where both chains get the outcome
      pub named_told : (q i : ℕ) → get clients q ≡ Some i → who_at n i ≡ Some (Some (id.Client q))
      named_told q i is = who_told i ∙ named q i is

      -- where both chains get the outcome, every session that waits for the key has it
      pub told_view : View n clients index ≡ all_told k outcome (View m clients index)
      told_view =
          views (seen_all construction_of m n index (in_handler (told k outcome)) (λ q i is. ap construction_of (stands i)
          ∙ made_handler (told k outcome) (standing_at m i) q (tied.heads q i is)))
          (seen_all client_of m n clients (told k outcome) (λ q i is. ap client_of (stands i) ∙ made_client (told k outcome) (standing_at m i) q (named q i is)))
