-- An unspent authority is that of a key under construction, after every step.
use Rattle.rk_core.proofs.Words.{◌≡◌, ℕ, Bool, true, false, cond, refl, sym, ap, ◌∙◌, inl, inr, subst, Option, Some, None, nat_eq, option_and_then, is_some}
use Rattle.rk_core.proofs.Words.{nat_cmp, eqb-true, both_ways, nat_eq_equiv, Client, changed_at, Key, Negative, new_key, concluded, Ring, Authority}
use Rattle.rk_core.proofs.Words.{Construction, Plain, Piped, Negating, Sessions, new_session, unspent, with_context, with_wait, new_wait, with_setting}
use Rattle.rk_core.proofs.Words.{with_assumed, with_construction, Event, Answer, World, drawn, serial_named, linked_in, unlinked_in, cleared_in, keys_ended}
use Rattle.rk_core.proofs.Words.{IsSound, rings_without, Effect, authority_for, refused, still, took, came, went, greets, begins, joins, links, unlinks, marks}
use Rattle.rk_core.proofs.Words.{tells, sets, adds, assumes, concludes, ran_plain, ran_piped, negates, failed, finished, greeted_sessions, greeted_keys}
use Rattle.rk_core.proofs.Words.{built_at, built_in, built_tidied, built_put, built_marked, built_concluded, unspent_changed, unspent_launched}
use Rattle.rk_core.proofs.Words.{unspent_concluded, unspent_ended, unspent_issued}
use Rattle.std.specs.FinMap as map
use Rattle.rk_names.specs.declared.errors.KeyError.TheVariants as error
use Rattle.rk_core.proofs.Vanishing.WhichMayVanish.{other_key}

-- if the authority of k alone is spent, and the condition of k alone changes
spent_one : (k q : ℕ) (o : Option Authority) (old new : Bool) → (nat_eq k q ≡ false → new ≡ old) → (is_some o ≡ true → old ≡ true)
    → is_some (cond (nat_eq k q) None o) ≡ true → new ≡ true
spent_one k q o old new same h = by_key (nat_eq k q) refl
  where
    by_key : (b : Bool) → nat_eq k q ≡ b → is_some (cond b None o) ≡ true → new ≡ true
    by_key true t s = absurd (both_ways false refl s)
    by_key false t s = same t ∙ h s

-- a new construction is one of a key under construction
issued_one : (k q : ℕ) (authority : Authority) (o : Option Authority) (old : Bool) → (is_some o ≡ true → old ≡ true)
    → is_some (cond (nat_eq k q) (Some authority) o) ≡ true → cond (nat_eq k q) true old ≡ true
issued_one k q authority o old h = by_key (nat_eq k q)
  where
    by_key : (b : Bool) → is_some (cond b (Some authority) o) ≡ true → cond b true old ≡ true
    by_key true s = refl
    by_key false s = h s

-- a new key without one
added_one : (k q : ℕ) (o : Option Authority) (old : Bool) → (nat_eq k q ≡ true → o ≡ None) → (is_some o ≡ true → old ≡ true) → is_some o ≡ true
    → cond (nat_eq k q) false old ≡ true
added_one k q o old none h s = by_key (nat_eq k q) refl
  where
    by_key : (b : Bool) → nat_eq k q ≡ b → cond b false old ≡ true
    by_key true t = absurd (both_ways false refl (ap is_some (sym (none t)) ∙ s))
    by_key false t = h s

in_world : (old new mid : World) (q : ℕ) → new ≡ mid → (is_some (unspent mid.sessions q) ≡ true → built_at mid.keys q ≡ true)
    → is_some (unspent new.sessions q) ≡ true → built_at new.keys q ≡ true
in_world old new mid q e h = subst (λ (w : World). is_some (unspent w.sessions q) ≡ true → built_at w.keys q ≡ true) (sym e) h

by_frames : (q : ℕ) (a b : Option Authority) (x y : Bool) → a ≡ b → x ≡ y → (is_some b ≡ true → y ≡ true) → is_some a ≡ true → x ≡ true
by_frames q a b x y e f h s = f ∙ h (ap is_some (sym e) ∙ s)

-- after every step an unspent authority is that of a key under construction
pub building_after : (old : World) (now : ℕ) (e : Event) (a : Answer) (new : World) → Effect old now e a new → IsSound old → (q : ℕ)
    → is_some (unspent new.sessions q) ≡ true → built_at new.keys q ≡ true
building_after old now e a new (refused error ra w free) h q = in_world old new old q w (h.building q)
building_after old now e a new (still s wait ev is ready ra w) h q = in_world old new old q w (h.building q)
building_after old now e a new (took s wait outcome ev is ready ra w) h q =
    in_world old new _ q w (by_frames q _ _ _ _ (unspent_changed s (with_wait None) old.sessions q) refl (h.building q))
building_after old now e a new (came m ev fresh ra w) h q = in_world old new _ q w (h.building q)
building_after old now e a new (went m ev there ra w) h q =
    in_world old new _ q w (by_frames q _ _ _ _ refl (built_tidied (rings_without m old) old.keys q) (h.building q))
building_after old now e a new (greets m hello ev can none joined g) h q =
    in_world old new _ q g.6.1 (by_frames q _ _ _ _
    (unspent_changed (Client m) (with_context (record { uid = hello.uid; gid = hello.gid; thread = g.0; process = g.1; session = g.2; user = g.3 })) g.4.sessions q
    ∙ ap (λ (s : Sessions). unspent s q) (greeted_sessions _ old g.4 g.0 g.1 g.2 g.3 g.5))
    (ap (λ (m : map.FinMap nat_cmp Key). built_at m q) (greeted_keys _ old g.4 g.0 g.1 g.2 g.3 g.5)) (h.building q))
building_after old now e a new (begins s asker typ description callout r ring k ev can is depth fresh ra w) h q =
    let authority : Authority = authority_for asker typ description now callout ring in
    let one : Key = new_key typ description asker.context.uid None in
    let rings : map.FinMap nat_cmp Ring = (linked_in (Some ring) k (record (drawn k old) { keys = map.insert old.keys k one })).rings in
    in_world old new _ q w (by_frames q _ _ _ _
    (unspent_changed s (with_wait (Some (new_wait k true))) (with_construction k authority old.sessions) q ∙ unspent_issued k authority old.sessions q)
    (built_tidied rings (map.insert old.keys k one) q ∙ built_put k one old.keys q)
    (issued_one k q authority (unspent old.sessions q) (built_at old.keys q) (h.building q)))
building_after old now e a new (joins s x ring k ev asks can building way ra w) h q =
    in_world old new _ q w (by_frames q _ _ _ _ (unspent_changed s (with_wait (Some (new_wait k false))) old.sessions q)
    (built_tidied (linked_in ring k old).rings old.keys q) (h.building q))
building_after old now e a new (links s x ring k m ev completes_none not_assume ra w) h q =
    in_world old new _ q w (by_frames q _ _ _ _ refl (built_tidied (linked_in ring k old).rings old.keys q) (h.building q))
building_after old now e a new (unlinks s x ring k ev completes_none not_assume ra (inl w)) h q =
    in_world old new _ q w (by_frames q _ _ _ _ refl (built_tidied (unlinked_in ring k old).rings old.keys q) (h.building q))
building_after old now e a new (unlinks s x ring k ev completes_none not_assume ra (inr w)) h q =
    in_world old new _ q w (by_frames q _ _ _ _ refl (built_tidied (cleared_in ring old).rings old.keys q) (h.building q))
building_after old now e a new (marks s x k f ev completes_none not_assume mild ra w) h q =
    in_world old new _ q w (by_frames q _ _ _ _ refl (built_marked k f mild old.keys q) (h.building q))
building_after old now e a new (tells s x bytes ev ra w) h q = in_world old new old q w (h.building q)
building_after old now e a new (sets s x setting m ev completes_none not_assume can ra w) h q =
    in_world old new _ q w (by_frames q _ _ _ _ (unspent_changed s (with_setting setting) old.sessions q) refl (h.building q))
building_after old now e a new (adds s asker typ description payload r ring k ev fresh ra w) h q =
    let one : Key = new_key typ description asker.context.uid (Some payload) in
    let rings : map.FinMap nat_cmp Ring = (linked_in (Some ring) k (record (drawn k old) { keys = map.insert old.keys k one })).rings in
    in_world old new _ q w (by_frames q _ _ _ _ refl (built_tidied rings (map.insert old.keys k one) q ∙ built_put k one old.keys q)
    (added_one k q (unspent old.sessions q) (built_at old.keys q)
    (λ t. ap (unspent old.sessions) (sym (eqb-true k q t)) ∙ ap (λ (o : Option Construction). option_and_then (λ c. c.authority) o)
    (h.constructions k fresh.unused)) (h.building q)))
building_after old now e a new (assumes s key ev can none ra w) h q =
    in_world old new _ q w (by_frames q _ _ _ _ (unspent_changed s (with_assumed (serial_named key)) old.sessions q) refl (h.building q))
building_after old now e a new (concludes s x asker ring k condition end ev completes_k can is own final ra w) h q =
    in_world old new _ q w (by_frames q _ _ _ _
    (unspent_concluded now k (changed_at k (concluded condition end) old.keys) old.sessions q)
    (built_tidied (linked_in ring k old).rings (changed_at k (concluded condition end) old.keys) q ∙ built_concluded k condition end final old.keys q)
    (spent_one k q (unspent old.sessions q) (built_at old.keys q) (cond (nat_eq k q) false (built_at old.keys q))
    (λ t. ap (λ b. cond b false (built_at old.keys q)) t) (h.building q)))
building_after old now e a new (ran_plain k st ev is launching ra w) h q =
    in_world old new _ q w (by_frames q _ _ _ _ (unspent_launched k (Plain new_session) old.sessions q) (built_tidied old.rings old.keys q) (h.building q))
building_after old now e a new (ran_piped k ev is ra w) h q =
    in_world old new _ q w (by_frames q _ _ _ _ (unspent_launched k Piped old.sessions q) (built_tidied old.rings old.keys q) (h.building q))
building_after old now e a new (negates k how payload ev is fails ra w) h q =
    in_world old new _ q w (by_frames q _ _ _ _ (unspent_launched k Negating old.sessions q) refl (h.building q))
building_after old now e a new (failed k st ev is launching ra w) h q =
    in_world old new _ q w (by_frames q _ _ _ _ (unspent_ended now k (Negative error.NoKey) old q)
    (built_tidied old.rings (keys_ended now k (Negative error.NoKey) old) q)
    (spent_one k q (unspent old.sessions q) (built_at old.keys q) (built_at (keys_ended now k (Negative error.NoKey) old) q)
    (λ t. ap built_in (other_key old now k (Negative error.NoKey) q (nat_eq_equiv.symm q k ∙ t))) (h.building q)))
building_after old now e a new (finished k how payload st condition ev is runs final ra w) h q =
    in_world old new _ q w (by_frames q _ _ _ _ (unspent_ended now k condition old q) (built_tidied old.rings (keys_ended now k condition old) q)
    (spent_one k q (unspent old.sessions q) (built_at old.keys q) (built_at (keys_ended now k condition old) q)
    (λ t. ap built_in (other_key old now k condition q (nat_eq_equiv.symm q k ∙ t))) (h.building q)))
