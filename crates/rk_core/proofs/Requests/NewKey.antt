-- A key that was just made: it has no link, and no handler yet.
use Rattle.rk_core.proofs.Words.{◌≡◌, ℕ, true, false, cond, not, ◌&&◌, refl, sym, ap, ◌∙◌, Option, Some, None, nat_eq, nat_le, option_map, option_and_then}
use Rattle.rk_core.proofs.Words.{unwrap_or, is_some, option_map_or, nat_cmp, both_ways, ne_eqb, nat_eq_equiv, SessionId, Handler, Key, has_name, is_named, Ring}
use Rattle.rk_core.proofs.Words.{has_link, Authority, Construction, Starting, Sessions, session_of, handler_in, with_construction, Leads, its_own, further}
use Rattle.rk_core.proofs.Words.{World, refused_if, is_full, is_full_at, is_full_for, holds_name, StayBut, get_inserted}
use Rattle.std.specs.Prelude.{List}
use Rattle.std.specs.FinMap as map
use Rattle.std.specs.FinSet as set
use Rattle.rk_names.specs.declared.errors.Errno.TheVariants as errno
use Rattle.rk_core.proofs.LinksAndNames.LinksAfter.{same_answer, tied_itself, link_somewhere, has_key}
use Rattle.rk_core.proofs.Vanishing.OneByOne.{stays_by}
use Rattle.rk_core.proofs.LinksAndNames.LinksByNumber.{item_passes, passing_item}

module _ (old new : World) (k : ℕ) (one : Key) (keys : new.keys ≡ map.insert old.keys k one) (rings : new.rings ≡ old.rings) where
  new_there : map.get new.keys k ≡ Some one
  new_there =
      ap (λ (m : map.FinMap nat_cmp Key). map.get m k) keys ∙ get_inserted old.keys k one k ∙ ap (λ b. cond b (Some one) (map.get old.keys k)) (tied_itself k)

  old_there : (j : ℕ) → nat_eq j k ≡ false → map.get new.keys j ≡ map.get old.keys j
  old_there j other =
      ap (λ (m : map.FinMap nat_cmp Key). map.get m j) keys ∙ get_inserted old.keys k one j
      ∙ ap (λ b. cond b (Some one) (map.get old.keys j)) (nat_eq_equiv.symm k j ∙ other)

  -- a new key is there
  pub new_known : map.contains_key new.keys k ≡ true
  new_known = ap is_some new_there

  -- every other key stays as before
  pub others_stay : StayBut (λ j. false) old → StayBut (λ j. nat_eq j k) new
  others_stay h = λ j key there other. stays_by new old j rings (old_there j other) ∙ h j key (sym (old_there j other) ∙ there) refl

  -- a ring has room for it where it had for its name
  module _ (unlinked : has_link old.rings k ≡ false) where
    not_in : (ring : ℕ) (r : Ring) (j : ℕ) → map.get old.rings ring ≡ Some r → set.contains r.keys j ≡ true → nat_eq j k ≡ false
    not_in ring r j is there =
        ne_eqb j k (λ e. both_ways _ unlinked (link_somewhere old.rings ring k (ap (has_key k) is ∙ ap (set.contains r.keys) (sym e) ∙ there)))

    named_alike : (typ description : List ℕ) (j : ℕ) → nat_eq j k ≡ false → has_name new.keys j typ description ≡ has_name old.keys j typ description
    named_alike typ description j other = ap (λ o. unwrap_or (option_map (is_named typ description) o) false) (old_there j other)

    held_alike : (typ description : List ℕ) (ring : ℕ) (r : Ring) → map.get old.rings ring ≡ Some r
        → holds_name new.keys r typ description ≡ holds_name old.keys r typ description
    held_alike typ description ring r is = same_answer _ _
        (λ h.
        let f = passing_item (λ j. has_name new.keys j typ description) r.keys h in
        item_passes (λ j. has_name old.keys j typ description) r.keys f.0 f.1 (sym (named_alike typ description f.0 (not_in ring r f.0 is f.1)) ∙ f.2))
        (λ h.
        let f = passing_item (λ j. has_name old.keys j typ description) r.keys h in
        item_passes (λ j. has_name new.keys j typ description) r.keys f.0 f.1 (named_alike typ description f.0 (not_in ring r f.0 is f.1) ∙ f.2))

    full_as_before : (typ description : List ℕ) (ring : ℕ) → is_full_at new ring typ description ≡ is_full_at old ring typ description
    full_as_before typ description ring =
        ap (λ (m : map.FinMap nat_cmp Ring). option_map_or (is_full new.keys typ description) (map.get m ring) false) rings
        ∙ by_ring (map.get old.rings ring) refl
      where
        by_ring : (o : Option Ring) → map.get old.rings ring ≡ o
            → option_map_or (is_full new.keys typ description) o false ≡ option_map_or (is_full old.keys typ description) o false
        by_ring None is = refl
        by_ring (Some r) is = ap (λ b. nat_le 256 (set.len r.keys) && not b) (held_alike typ description ring r is)

    -- a ring that was not full for the name is not full for the new key
    pub has_room : (ring : ℕ) → is_full_at old ring one.typ one.description ≡ false → refused_if (is_full_for new ring k) errno.Edquot ≡ None
    has_room ring room =
        ap (λ b. refused_if b errno.Edquot) (ap (λ o. unwrap_or (option_map (λ (key : Key). is_full_at new ring key.typ key.description) o) false) new_there
        ∙ full_as_before one.typ one.description ring ∙ room)

-- ---- whoever waits for it waits for no one else

no_handler : (a : Sessions) (k : ℕ) (authority : Authority) → session_of (with_construction k authority a) (Handler k) ≡ None
no_handler a k authority =
    ap (option_and_then (λ (c : Construction). handler_in c.stage))
    (get_inserted a.constructions k (record { stage = Starting; authority = Some authority }) k
    ∙ ap (λ b. cond b (Some (record { stage = Starting; authority = Some authority })) (map.get a.constructions k)) (tied_itself k))

-- a new construction leads to no session that was there
pub leads_nowhere : (a : Sessions) (k : ℕ) (authority : Authority) (s : SessionId) → map.get a.constructions k ≡ None → is_some (session_of a s) ≡ true
    → ¬ (Leads (with_construction k authority a) k s)
leads_nowhere a k authority s none there (its_own j) = both_ways _ (ap (λ o. is_some (option_and_then (λ (c : Construction). handler_in c.stage) o)) none) there
leads_nowhere a k authority s none there (further i j next rest) =
    let no : None ≡ Some j = sym (ap (λ o. option_map (λ w. w.key) (option_and_then (λ one. one.wait) o)) (no_handler a k authority)) ∙ next in absurd (cc)
