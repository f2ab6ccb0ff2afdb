-- What whoever records a run has to know of each step.
use Rattle.rk_machine.proofs.Words.{◌≡◌, ℕ, ◌∙◌, ◌&&◌, ◌∷◌, ◌≤◌, Bool, true, false, cond, refl, ap, sym, not, inl, inr, arith, List, [], MatchBool, nat_cmp}
use Rattle.rk_machine.proofs.Words.{◌==◌, Option, Some, None, is_some, option_map, option_and_then, Errno, SessionId, Client, Handler, Bytes, ready_outcome}
use Rattle.rk_machine.proofs.Words.{Sessions, wait_of, stage_of, is_to_launch, is_running, Construction, Stage, Starting, Plain, Piped, Negating, Outcome}
use Rattle.rk_machine.proofs.Words.{Found, Failed, Wait, refused_if, done, Leaves, Settles, Unless, ended, condition_after, Event, is_done, is_followed, whose}
use Rattle.rk_machine.proofs.Words.{client_owes, stage_owes, construction_owes, owed, owed_to, start_owes, constructions, closes, closed, ends_owed}
use Rattle.rk_machine.proofs.Words.{ends_owed_to, construction_ends, Reached, IsOwedAnswer, Recording, may_launch, would_negate, negating, Ends, told_as, gone}
use Rattle.rk_machine.proofs.Words.{Past, Beginning, Run, is_owed, World, empty_world, Answer, Done, Refused, Negate, Opened, Asked, Launched, Ended, Collect}
use Rattle.rk_machine.proofs.Words.{Gone, How, true_false, Step}
use Rattle.std.specs.FinMap as map
use Rattle.rk_names.specs.declared.errors.Errno.TheVariants as errno
use Rattle.rk_names.specs.declared.errors.KeyError.TheVariants as error
use Rattle.rk_machine.specs.declared.event.Ran.TheVariants as ran
use Rattle.rk_machine.specs.Steps.{launched}
use Rattle.rk_machine.proofs.OwedSteps.WeightsOfMaps.{no_weight, no_heavier, part}
use Rattle.rk_machine.proofs.Effects.StagesByStep.{Kind, kind_of, kind_in}
use Rattle.rk_machine.proofs.Effects.UndrawnIsIdle.{IsIdle, start_is, idle_fresh, launch_kind, found_some, idle_step}
use Rattle.rk_machine.proofs.Words.{◌+◌, is_ask, wait_made}
use Rattle.rk_machine.proofs.OwedSteps.OwedByStep.{balance, NotOwed, ready_is, moves, asked_places}
use Rattle.rk_machine.proofs.Effects.KindsOfStep.{effect}
use Rattle.rk_machine.proofs.Effects.OfSessions.{InSessions, in_sessions, is_refused, waits_on, collects, goes, told, answered, is_set, runs_plain, runs_piped}
use Rattle.rk_machine.proofs.Effects.OfSessions.{follows, not_run, ends}
use Rattle.rk_machine.proofs.OwedSteps.ConstructionsCounted.{one_each, counted, ones, one_in, count_step, ends_balance, ends_taken}

done_refused : (a : Answer) (x : Errno) → a ≡ done → a ≡ Refused x → ⊥
done_refused a x d r = cc

-- ---- what is owed is not refused

by_test : (b : Bool) (old mid new : World) (a : Answer) (x : Errno) → Unless (refused_if (not b) errno.Einval) old a new (Settles done mid a new)
    → a ≡ Refused x → b ≡ false
by_test true old mid new a x h r = absurd (done_refused a x h.0 r)
by_test false old mid new a x h r = refl

abbrev EndsPiped : World → ℕ → ℕ → How → Option (List ℕ) → Bool → Answer → World → Type 0
EndsPiped old now k how payload b a new =
    MatchBool b (Leaves (Negate k) (negating k old) a new) (Settles done (ended now k (condition_after Piped how payload) old) a new)

end_refused : (old : World) (now k : ℕ) (how : How) (payload : Option (List ℕ)) (b : Bool) (a : Answer) (new : World) (x : Errno)
    → EndsPiped old now k how payload b a new → a ≡ Refused x → ⊥
end_refused old now k how payload true a new x h r = negate_refused a k x h.0 r
  where
    negate_refused : (a : Answer) (k : ℕ) (x : Errno) → a ≡ Negate k → a ≡ Refused x → ⊥
    negate_refused a k x d r = cc
end_refused old now k how payload false a new x h r = done_refused a x h.0 r

by_stage : (old : World) (now k : ℕ) (how : How) (payload : Option (List ℕ)) (st : Option Stage) (a : Answer) (new : World) (x : Errno)
    → Ends old now k how payload st a new → a ≡ Refused x → is_running st ≡ false
by_stage old now k how payload None a new x h r = refl
by_stage old now k how payload (Some Starting) a new x h r = refl
by_stage old now k how payload (Some (Plain s)) a new x h r = absurd (done_refused a x h.0 r)
by_stage old now k how payload (Some Negating) a new x h r = refl
by_stage old now k how payload (Some Piped) a new x h r = absurd (end_refused old now k how payload (would_negate old k how payload) a new x h r)

not_owed : (old : World) (now : ℕ) (e : Event) (a : Answer) (new : World) → Step old now e a new → (x : Errno) → a ≡ Refused x
    → ((s : SessionId) → e ≡ Collect s → wait_of old.sessions s ≡ None) → is_owed old e ≡ false
unfolding Step
not_owed old now (Opened s) a new h x r free = refl
not_owed old now (Asked s q) a new h x r free = refl
not_owed old now (Launched k ran) a new h x r free = by_test (may_launch ran (stage_of old.sessions k)) old (launched now k ran old) new a x h r
not_owed old now (Ended k how payload) a new h x r free = by_stage old now k how payload (stage_of old.sessions k) a new x h r
not_owed old now (Collect s) a new h x r free = ap (λ (o : Option Wait). is_some (option_and_then (ready_outcome old.sessions) o)) (free s refl)
not_owed old now (Gone (Client n)) a new h x r free = by_test (map.contains_key old.sessions.clients n) old (gone n old) new a x h r
not_owed old now (Gone (Handler k)) a new h x r free = refl

-- ---- out of memory

told_no_lack : (o : Outcome) → told_as o ≡ Refused errno.Enomem → ⊥
told_no_lack (Found k) e = cc
told_no_lack (Failed error.NoKey) e = cc
told_no_lack (Failed error.Expired) e = cc
told_no_lack (Failed error.Revoked) e = cc
told_no_lack (Failed error.Rejected) e = cc

-- it changes nothing, and is no answer to what is owed
lacks : (old new : World) (now : ℕ) (e : Event) (a : Answer) (b : Sessions) → InSessions old new now e a b → NotOwed old e a → a ≡ Refused errno.Enomem
    → (new ≡ old) × (is_owed old e ≡ false)
lacks old new now e a b (is_refused y error w free) not_owed r = (w, not_owed error refl free)
lacks old new now e a b (collects s wait outcome is ready) not_owed r = absurd (told_no_lack outcome r)
lacks old new now e a b _ not_owed r = absurd (cc)

-- ---- bytes are returned, and nothing changes

told_no_bytes : (o : Outcome) (b : List ℕ) → told_as o ≡ Done (Bytes b) → ⊥
told_no_bytes (Found k) b e = cc
told_no_bytes (Failed x) b e = cc

tells_alone : (old new : World) (now : ℕ) (e : Event) (a : Answer) (b : Sessions) → InSessions old new now e a b → (bytes : List ℕ) → a ≡ Done (Bytes bytes)
    → (new ≡ old) × (is_owed old e ≡ false)
tells_alone old new now e a b (told s x given w) bytes r = (w, refl)
tells_alone old new now e a b (collects s wait outcome is ready) bytes r = absurd (told_no_bytes outcome bytes r)
tells_alone old new now e a b _ bytes r = absurd (cc)

-- ---- what is owed is answered so

owed_answer : (old new : World) (now : ℕ) (e : Event) (a : Answer) (b : Sessions) → InSessions old new now e a b → NotOwed old e a → is_owed old e ≡ true
    → IsOwedAnswer e a
owed_answer old new now e a b (is_refused y error w free) not_owed is = absurd (true_false (sym is ∙ not_owed error refl free))
owed_answer old new now e a b (waits_on s wait found ready) not_owed is = absurd (true_false (sym is ∙ ready_is old s wait found ready))
owed_answer old new now e a b (collects s wait outcome found ready) not_owed is = (outcome, refl)
owed_answer old new now e a b (goes n there) not_owed is = refl
owed_answer old new now e a b (runs_plain k st found launches) not_owed is = refl
owed_answer old new now e a b (runs_piped k found) not_owed is = refl
owed_answer old new now e a b (not_run k st condition found launches) not_owed is = refl
owed_answer old new now e a b (follows k how payload found free) not_owed is = inr refl
owed_answer old new now e a b (ends k how payload st condition found running) not_owed is = inl refl
owed_answer old new now e a b _ not_owed is = absurd (true_false (sym is))

-- ---- what is ended was owed

nothing : (b c : Bool) → ◌≡◌ {A = ℕ} (cond b 0 0) (cond c 0 0)
nothing true true = refl
nothing true false = refl
nothing false true = refl
nothing false false = refl

runs_on : (st : Stage) → is_to_launch (Some st) ≡ false → is_running (Some st) ≡ true
runs_on Starting h = absurd (true_false h)
runs_on (Plain s) h = refl
runs_on Piped h = refl
runs_on Negating h = absurd (true_false h)

closing_owed : (old new : World) (now : ℕ) (e : Event) (a : Answer) (b : Sessions) → InSessions old new now e a b → NotOwed old e a
    → closed e a ≡ cond (is_owed old e && not (is_followed a)) (closes e) 0
closing_owed old new now e a b (is_refused y error w free) not_owed =
    sym (ap (λ o. cond (o && not (is_followed (Refused error))) (closes y) 0) (not_owed error refl free))
closing_owed old new now e a b (waits_on s wait found ready) not_owed = nothing false _
closing_owed old new now e a b (collects s wait outcome found ready) not_owed = nothing (is_done (told_as outcome)) _
closing_owed old new now e a b (goes n there) not_owed = nothing true _
closing_owed old new now e a b (answered s x n plain) not_owed = nothing (n == 0) false
closing_owed old new now e a b (is_set s x setting n plain can) not_owed = nothing (n == 0) false
closing_owed old new now e a b (runs_plain k st found launches) not_owed = nothing true _
closing_owed old new now e a b (runs_piped k found) not_owed = nothing true _
closing_owed old new now e a b (not_run k st condition found launches) not_owed =
    sym (ap (λ o. cond (o && true) 1 0) (ap is_to_launch found ∙ launches))
closing_owed old new now e a b (follows k how payload found free) not_owed = sym (ap (λ o. cond (is_running o && false) 1 0) found)
closing_owed old new now e a b (ends k how payload st condition found running) not_owed =
    sym (ap (λ o. cond (o && true) 1 0) (ap is_running found ∙ runs_on st running))
closing_owed old new now e a b _ not_owed = refl

-- ---- all of it

pub recording : (old : World) (now : ℕ) (e : Event) (a : Answer) (new : World) → Step old now e a new → IsIdle old → Recording old e a new
recording old now e a new h idle =
    let is = effect old now e a new h in
    let sessions = in_sessions old now e a new is in
    let not_refused : NotOwed old e a = not_owed old now e a new h in
    let left = moves old new now e a new.sessions sessions (idle_fresh old idle) not_refused in
    record {
      places = balance (whose e) old.sessions new.sessions (start_owes a) left.0;
      needed = left.1;
      owed_before = left.2;
      owed_answer = owed_answer old new now e a new.sessions sessions not_refused;
      lack = lacks old new now e a new.sessions sessions not_refused;
      bytes = tells_alone old new now e a new.sessions sessions;
      asked = λ k subject ra. (start_is old now e a new is k subject ra).names;
      counted = count_step old now e a new is idle not_refused;
      closing = closing_owed old new now e a new.sessions sessions not_refused;
      ends = ends_balance old now e a new is idle not_refused;
      taken = ends_taken old now e a new is idle not_refused;
    }

-- ---- runs

idle_run : (from : Beginning) (past : List Past) (w : World) → Run from past w → IsIdle w
idle_run from [] w run = λ k undrawn. ap (λ (v : World). kind_of v.sessions k) run ∙ ap kind_in (map.get-empty nat_cmp k)
idle_run from (s ∷ before) w run = idle_step run.0 s.now s.event s.answer w run.2 (idle_run from before run.0 run.1)

-- every step of a run changes what is owed as Recording says
pub reached_recording : (old : World) (now : ℕ) (e : Event) (a : Answer) (new : World) → Reached old → Step old now e a new → Recording old e a new
reached_recording old now e a new r h = recording old now e a new h (idle_run r.0 r.1 old r.2)

-- an ask changes what is owed to whoever asks by its wait alone
pub asked_owes : (old : World) (now : ℕ) (e : Event) (a : Answer) (new : World) → Reached old → Step old now e a new → is_ask e ≡ true
    → owed_to new (whose e) ≡ owed_to old (whose e) + wait_made a
asked_owes old now e a new r h asks =
    asked_places old new now e a new.sessions (in_sessions old now e a new (effect old now e a new h)) (idle_fresh old (idle_run r.0 r.1 old r.2)) asks

-- the empty world owes nothing
pub empty_owes : (negative first stride : ℕ) → owed (empty_world negative first stride) ≡ 0
empty_owes negative first stride = omega (arith, no_weight client_owes, no_weight construction_owes)

-- the empty world owes no end
pub no_ends : (negative first stride : ℕ) → ends_owed (empty_world negative first stride) ≡ 0
no_ends negative first stride = no_weight construction_ends

-- the empty world has no construction
pub no_constructions : (negative first stride : ℕ) → constructions (empty_world negative first stride) ≡ 0
no_constructions negative first stride = map.len-empty nat_cmp Construction

stage_some : (st : Stage) → 1 ≤ stage_owes st
stage_some Starting = omega arith
stage_some (Plain s) = omega arith
stage_some Piped = omega arith
stage_some Negating = omega arith

-- each construction is owed something
pub constructions_owed : (w : World) → constructions w ≤ owed w
constructions_owed w = omega (arith, counted w, no_heavier one_each construction_owes (λ c. stage_some c.stage) w.sessions.constructions)

-- what is owed to one is owed
pub owed_part : (w : World) (s : SessionId) → owed_to w s ≤ owed w
owed_part w (Client n) = omega (arith, part client_owes w.sessions.clients n)
owed_part w (Handler k) = omega (arith, part construction_owes w.sessions.constructions k)

-- what ends are owed to one are owed
pub ends_part : (w : World) (s : SessionId) → ends_owed_to w s ≤ ends_owed w
ends_part w (Client n) = omega arith
ends_part w (Handler k) = omega (arith, part construction_ends w.sessions.constructions k)

found_one : (o : Option Kind) → is_some o ≡ true → ones o ≡ 1
found_one o h = ap (λ b. cond b 1 0) h

end_kind : (a : Sessions) (k : ℕ) → is_running (stage_of a k) ≡ true → is_some (kind_of a k) ≡ true
end_kind a k h = found (map.get a.constructions k) h
  where
    found : (o : Option Construction) → is_running (option_map (λ c. c.stage) o) ≡ true → is_some (kind_in o) ≡ true
    found None e = absurd (true_false (sym e))
    found (Some c) e = refl

here : (w : World) (k : ℕ) → ones (kind_of w.sessions k) ≡ 1 → 1 ≤ constructions w
here w k one = omega (arith, counted w, part one_each w.sessions.constructions k, one_in (map.get w.sessions.constructions k), one)

-- what an owed event ends is there
pub closes_there : (w : World) (e : Event) → is_owed w e ≡ true → closes e ≤ constructions w
closes_there w (Launched k ran.Failed) is = here w k (found_one _ (found_some ran.Failed _ (sym (launch_kind w k ran.Failed) ∙ is)))
closes_there w (Ended k how payload) is = here w k (found_one _ (end_kind w.sessions k is))
closes_there w _ is = omega arith
