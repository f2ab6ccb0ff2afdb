-- Every step keeps what holds of every world.
use Rattle.rk_core.proofs.Words.{◌≡◌, ℕ, Bool, true, false, cond, ◌||◌, refl, sym, ap, ◌∙◌, inl, inr, subst, Option, Some, None, nat_eq, option_map}
use Rattle.rk_core.proofs.Words.{option_and_then, is_some, both_ways, Key, nat_cmp, is_building, Drawn, Negative, Client, with_context, completed, ended}
use Rattle.rk_core.proofs.Words.{keys_ended, Sessions, new_session, has_link, Event, Answer, World, drawn, empty_world, IsSound, stays, StayBut, Construction}
use Rattle.rk_core.proofs.Words.{Plain, Piped, new_key, linked_in, unlinked_in, cleared_in, query, waiting, started, with_key, with_key_changed, Step, gone}
use Rattle.rk_core.proofs.Words.{built_marked, Effect, effect, IsMild, authority_for, refused, still, took, came, went, greets, begins, joins, links, unlinks}
use Rattle.rk_core.proofs.Words.{marks, tells, sets, adds, assumes, concludes, ran_plain, ran_piped, negates, failed, finished, get_changed_at, is_drawn}
use Rattle.rk_core.proofs.Words.{keeps_drawn, greeted_sessions, greeted_keys}
use Rattle.std.specs.FinMap as map
use Rattle.std.specs.FinSet as set
use Rattle.rk_names.specs.declared.errors.KeyError.TheVariants as error
use Rattle.rk_auth.specs.Changes.{launched}
use Rattle.rk_core.proofs.Vanishing.WhichMayVanish.{still_stays}
use Rattle.rk_core.proofs.Stepping.UnspentIsBuilding.{building_after}
use Rattle.rk_core.proofs.Greetings.HelloTakesNothing.{Grows, rings_grow}
use Rattle.rk_core.proofs.Stepping.UndrawnIsNothing.{IsClear, none_changed, none_kept, none_inserted, none_linked, none_ended, free_changed, free_launched}
use Rattle.rk_core.proofs.Stepping.UndrawnIsNothing.{free_concluded, free_ended, apart}
use Rattle.rk_core.proofs.LinksAndNames.LinksAfter.{links_kept}
use Rattle.rk_core.proofs.Vanishing.ClearedRing.{tidied_stay}

-- ---- what bears a serial has drawn it

clear_of : (w : World) (q : ℕ) → IsSound w → is_drawn w q ≡ false → IsClear w q
clear_of w q h n = record { keys = h.keys q n; rings = h.rings q n; constructions = h.constructions q n }

as_clear : (new mid : World) (q : ℕ) → new ≡ mid → IsClear mid q → IsClear new q
as_clear new mid q e h = subst (λ (w : World). IsClear w q) (sym e) h

undrawn : (k q : ℕ) (old new mid : World) → new ≡ mid → mid.serials ≡ (drawn k old).serials → is_drawn new q ≡ false → nat_eq k q ≡ false
undrawn k q old new mid e same n = apart k q old (sym (ap (λ (s : Drawn). set.contains s.used q) same) ∙ sym (ap (λ (w : World). is_drawn w q) e) ∙ n)

clear_after : (old : World) (now : ℕ) (e : Event) (a : Answer) (new : World) → Effect old now e a new → IsSound old → (q : ℕ) → is_drawn new q ≡ false
    → IsClear old q → IsClear new q
clear_after old now e a new (refused error ra w free) h q n c = as_clear new old q w c
clear_after old now e a new (still s wait ev is ready ra w) h q n c = as_clear new old q w c
clear_after old now e a new (took s wait outcome ev is ready ra w) h q n c =
    as_clear new _ q w (record { keys = c.keys; rings = c.rings; constructions = free_changed s _ old.sessions q c.constructions })
clear_after old now e a new (came m ev fresh ra w) h q n c = as_clear new _ q w (record { keys = c.keys; rings = c.rings; constructions = c.constructions })
clear_after old now e a new (went m ev there ra w) h q n c =
    as_clear new _ q w (record { keys = none_kept _ old.keys q c.keys; rings = none_kept _ old.rings q c.rings; constructions = c.constructions })
clear_after old now e a new (greets m hello ev can none joined g) h q n c =
    let grown : Grows old g.4 = rings_grow _ old g.4 g.0 g.1 g.2 g.3 g.5 h.rings in
    let unused : is_drawn g.4 q ≡ false = sym (ap (λ (w : World). is_drawn w q) g.6.1) ∙ n in
    as_clear new _ q g.6.1 (record {
      keys = ap (λ (m : map.FinMap nat_cmp Key). map.get m q) (greeted_keys _ old g.4 g.0 g.1 g.2 g.3 g.5) ∙ c.keys;
      rings = grown.free q unused;
      constructions =
          free_changed (Client m) (with_context (record { uid = hello.uid; gid = hello.gid; thread = g.0; process = g.1; session = g.2; user = g.3 })) g.4.sessions q
          (ap (λ (s : Sessions). map.get s.constructions q) (greeted_sessions _ old g.4 g.0 g.1 g.2 g.3 g.5) ∙ c.constructions);
    })
clear_after old now e a new (begins s asker typ description callout r ring k ev can is depth fresh ra w) h q n c =
    let other : nat_eq k q ≡ false = undrawn k q old new _ w refl n in
    as_clear new _ q w (record {
      keys = none_kept _ _ q (none_inserted old.keys k _ q other c.keys);
      rings = none_linked (Some ring) _ old.rings q c.rings;
      constructions = free_changed s _ _ q (none_inserted old.sessions.constructions k _ q other c.constructions);
    })
clear_after old now e a new (joins s x ring k ev asks can building way ra w) h q n c =
    as_clear new _ q w (record {
      keys = none_kept _ old.keys q c.keys;
      rings = none_linked ring _ old.rings q c.rings;
      constructions = free_changed s _
          old.sessions q c.constructions;
    })
clear_after old now e a new (links s x ring k m ev completes_none not_assume ra w) h q n c =
    as_clear new _ q w (record { keys = none_kept _ old.keys q c.keys; rings = none_linked ring _ old.rings q c.rings; constructions = c.constructions })
clear_after old now e a new (unlinks s x ring k ev completes_none not_assume ra (inl w)) h q n c =
    as_clear new _ q w (record { keys = none_kept _ old.keys q c.keys; rings = none_linked ring _ old.rings q c.rings; constructions = c.constructions })
clear_after old now e a new (unlinks s x ring k ev completes_none not_assume ra (inr w)) h q n c =
    as_clear new _ q w (record { keys = none_kept _ old.keys q c.keys; rings = none_linked ring _ old.rings q c.rings; constructions = c.constructions })
clear_after old now e a new (marks s x k f ev completes_none not_assume mild ra w) h q n c =
    as_clear new _ q w (record { keys = none_changed k f old.keys q c.keys; rings = c.rings; constructions = c.constructions })
clear_after old now e a new (tells s x bytes ev ra w) h q n c = as_clear new old q w c
clear_after old now e a new (sets s x setting m ev completes_none not_assume can ra w) h q n c =
    as_clear new _ q w (record { keys = c.keys; rings = c.rings; constructions = free_changed s _ old.sessions q c.constructions })
clear_after old now e a new (adds s asker typ description payload r ring k ev fresh ra w) h q n c =
    as_clear new _ q w (record {
      keys = none_kept _ _ q (none_inserted old.keys k _ q (undrawn k q old new _ w refl n) c.keys);
      rings = none_linked (Some ring) _ old.rings q c.rings;
      constructions = c.constructions;
    })
clear_after old now e a new (assumes s key ev can none ra w) h q n c =
    as_clear new _ q w (record { keys = c.keys; rings = c.rings; constructions = free_changed s _ old.sessions q c.constructions })
clear_after old now e a new (concludes s x asker ring k condition end ev completes_k can is own final ra w) h q n c =
    as_clear new _ q w (record {
      keys = none_kept _ _ q (none_changed k _ old.keys q c.keys);
      rings = none_linked ring _ old.rings q c.rings;
      constructions = free_concluded now k _ old.sessions q c.constructions;
    })
clear_after old now e a new (ran_plain k st ev is launching ra w) h q n c =
    as_clear new _ q w (record { keys = none_kept _ old.keys q c.keys; rings = c.rings; constructions = free_launched k _ old.sessions q c.constructions })
clear_after old now e a new (ran_piped k ev is ra w) h q n c =
    as_clear new _ q w (record { keys = none_kept _ old.keys q c.keys; rings = c.rings; constructions = free_launched k _ old.sessions q c.constructions })
clear_after old now e a new (negates k how payload ev is fails ra w) h q n c =
    as_clear new _ q w (record { keys = c.keys; rings = c.rings; constructions = free_launched k _ old.sessions q c.constructions })
clear_after old now e a new (failed k st ev is launching ra w) h q n c =
    as_clear new _ q w (record {
      keys = none_kept (λ j one. has_link old.rings j || is_building one) (keys_ended now k (Negative error.NoKey) old) q
          (none_ended now k (Negative error.NoKey) old q c.keys);
      rings = c.rings;
      constructions = free_ended now k
          (Negative error.NoKey) old q c.constructions;
    })
clear_after old now e a new (finished k how payload st condition ev is runs final ra w) h q n c =
    as_clear new _ q w (record {
      keys = none_kept _ _ q (none_ended now k condition old q c.keys);
      rings = c.rings;
      constructions = free_ended now k condition
          old q c.constructions;
    })

-- ---- every key stays

same_stay : (new mid : World) → new ≡ mid → StayBut (λ k. false) mid → StayBut (λ k. false) new
same_stay new mid e h = subst (StayBut (λ k. false)) (sym e) h

marked_stay : (old : World) (k : ℕ) (f : Key → Key) → IsMild f → StayBut (λ j. false) old → StayBut (λ j. false) (with_key_changed k f old)
marked_stay old k f mild h j key there _ =
    ap (λ b. has_link old.rings j || b) (built_marked k f mild old.keys j) ∙ by_key (nat_eq k j) (map.get old.keys j) refl
    (sym (get_changed_at k f old.keys j) ∙ there)
  where
    by_key : (b : Bool) (o : Option Key) → map.get old.keys j ≡ o → cond b (option_map f o) o ≡ Some key → stays old j ≡ true
    by_key true None is e = let no : None ≡ Some key = e in absurd (cc)
    by_key true (Some one) is e = h j one is refl
    by_key false o is e = h j key (is ∙ e) refl

grown_stay : (old made : World) → made.keys ≡ old.keys → Grows old made → StayBut (λ j. false) old → StayBut (λ j. false) made
grown_stay old made keys g h j key there _ =
    still_stays old made j (links_kept old.rings made.rings j (λ ring. g.links ring j)) (ap (λ (m : map.FinMap nat_cmp Key). map.get m j) keys)
    (h j key (sym (ap (λ (m : map.FinMap nat_cmp Key). map.get m j) keys) ∙ there) refl)

tidy_after : (old : World) (now : ℕ) (e : Event) (a : Answer) (new : World) → Effect old now e a new → IsSound old → StayBut (λ k. false) new
tidy_after old now e a new (refused error ra w free) h = same_stay new old w h.tidy
tidy_after old now e a new (still s wait ev is ready ra w) h = same_stay new old w h.tidy
tidy_after old now e a new (took s wait outcome ev is ready ra w) h = same_stay new _ w h.tidy
tidy_after old now e a new (came m ev fresh ra w) h = same_stay new _ w h.tidy
tidy_after old now e a new (went m ev there ra w) h = same_stay new _ w (tidied_stay (gone m old))
tidy_after old now e a new (greets m hello ev can none joined g) h =
    same_stay new _ g.6.1 (grown_stay old g.4 (greeted_keys _ old g.4 g.0 g.1 g.2 g.3 g.5) (rings_grow _ old g.4 g.0 g.1 g.2 g.3 g.5 h.rings) h.tidy)
tidy_after old now e a new (begins s asker typ description callout r ring k ev can is depth fresh ra w) h =
    same_stay new _ w (tidied_stay (waiting s k true (started k (query asker typ description now) (authority_for asker typ description now callout ring) old)))
tidy_after old now e a new (joins s x ring k ev asks can building way ra w) h = same_stay new _ w (tidied_stay (waiting s k false (linked_in ring k old)))
tidy_after old now e a new (links s x ring k m ev completes_none not_assume ra w) h = same_stay new _ w (tidied_stay (linked_in ring k old))
tidy_after old now e a new (unlinks s x ring k ev completes_none not_assume ra (inl w)) h = same_stay new _ w (tidied_stay (unlinked_in ring k old))
tidy_after old now e a new (unlinks s x ring k ev completes_none not_assume ra (inr w)) h = same_stay new _ w (tidied_stay (cleared_in ring old))
tidy_after old now e a new (marks s x k f ev completes_none not_assume mild ra w) h = same_stay new _ w (marked_stay old k f mild h.tidy)
tidy_after old now e a new (tells s x bytes ev ra w) h = same_stay new old w h.tidy
tidy_after old now e a new (sets s x setting m ev completes_none not_assume can ra w) h = same_stay new _ w h.tidy
tidy_after old now e a new (adds s asker typ description payload r ring k ev fresh ra w) h =
    same_stay new _ w (tidied_stay (with_key k (new_key typ description asker.context.uid (Some payload)) ring old))
tidy_after old now e a new (assumes s key ev can none ra w) h = same_stay new _ w h.tidy
tidy_after old now e a new (concludes s x asker ring k condition end ev completes_k can is own final ra w) h =
    same_stay new _ w (tidied_stay (completed now k condition end (linked_in ring k old)))
tidy_after old now e a new (ran_plain k st ev is launching ra w) h =
    same_stay new _ w (tidied_stay (record old { sessions = launched k (Plain new_session) old.sessions }))
tidy_after old now e a new (ran_piped k ev is ra w) h = same_stay new _ w (tidied_stay (record old { sessions = launched k Piped old.sessions }))
tidy_after old now e a new (negates k how payload ev is fails ra w) h = same_stay new _ w h.tidy
tidy_after old now e a new (failed k st ev is launching ra w) h = same_stay new _ w (tidied_stay (ended now k (Negative error.NoKey) old))
tidy_after old now e a new (finished k how payload st condition ev is runs final ra w) h = same_stay new _ w (tidied_stay (ended now k condition old))

-- ---- every step, and the empty world

-- every step keeps what holds of the world of every book
pub step_sound : (old : World) (now : ℕ) (e : Event) (a : Answer) (new : World) → Step old now e a new → IsSound old → IsSound new
step_sound old now e a new step h =
    let is = effect old now e a new step in
    let clear : (q : ℕ) → is_drawn new q ≡ false → IsClear new q =
    λ q n. clear_after old now e a new is h q n (clear_of old q h (keeps_drawn old now e a new is q n)) in
    record {
      keys = λ q n. (clear q n).keys;
      rings = λ q n. (clear q n).rings;
      constructions = λ q n. (clear q n).constructions;
      building = building_after old now e a new is h;
      tidy = tidy_after old now e a new is h;
    }

-- what holds of the world of every book holds of the empty one
pub empty_sound : (negative first stride : ℕ) (w : World) → w ≡ empty_world negative first stride → IsSound w
empty_sound negative first stride w e = subst IsSound (sym e) (record {
  keys = λ q n. map.get-empty nat_cmp q;
  rings = λ q n. map.get-empty nat_cmp q;
  constructions = λ q n. map.get-empty nat_cmp q;
  building =
      λ q s. absurd (both_ways false refl (ap (λ (o : Option Construction). is_some (option_and_then (λ c. c.authority) o)) (sym (map.get-empty nat_cmp q))
      ∙ s));
  tidy = λ q key there _. let no : None ≡ Some key = sym (map.get-empty nat_cmp q) ∙ there in absurd (cc);
})
