-- What a turn keeps: places and room for what is owed after its step.
use Rattle.std.proofs.Common.{◌≡◌, ℕ, ◌+◌, ◌-◌, ◌≤◌, ◌<◌, ◌^◌, List, refl, sym, subst, ap, arith, Bool, true, false, cond, if◌then◌else◌, true≢false, inl, inr}
use Rattle.std.specs.Prelude.{Option, Some, None, is_some, option_map}
use Rattle.std.specs.Option.{option_map_or}
use Rattle.std.specs.FinMap as map
use Rattle.rk_auth.specs.declared.construction.Construction.{Construction}
use Rattle.rk_names.specs.declared.numbers.SessionId.TheVariants.{Handler}
use Rattle.rk_auth.specs.declared.construction.Stage.{Stage}
use Rattle.rk_auth.specs.declared.construction.Stage.TheVariants.{Starting, Plain, Piped, Negating}
use Rattle.rk_auth.specs.Sessions.{is_running}
use Rattle.rk_message.specs.Ask.{Ask}
use Rattle.rk_machine.specs.Event.{Event}
use Rattle.rk_machine.specs.declared.event.EventOf.TheVariants.{Opened, Asked, Launched, Ended, Collect, Gone}
use Rattle.rk_machine.specs.declared.event.Answer.{Answer}
use Rattle.rk_machine.specs.declared.event.Answer.TheVariants.{Done, Start, Negate, Waiting, Refused}
use Rattle.rk_machine.specs.World.{World}
use Rattle.rk_machine.specs.Steps.{Step}
use Rattle.rk_machine.specs.Views.{is_owed}
use Rattle.rk_machine.specs.Owing.{owed, ends_owed, owed_to, ends_owed_to, construction_ends, stage_ends, construction_owes, stage_owes, names_in, whose, start_owes, start_ends, takes, asked_of, need, is_request, is_ask, wait_made}
use Rattle.rk_machine.specs.Recording.{Reached, Recording}
use Rattle.rk_machine.proofs.OwedSteps.EachRecorded.{reached_recording, asked_owes, owed_part, ends_part}
use Rattle.rk_machine.proofs.OwedSteps.WeightsOfMaps.{no_heavier}
use Rattle.rk_core.specs.declared.subject_copies.SubjectCopies.{SubjectCopies}
use Rattle.rk_core.specs.declared.subject_copies.SubjectCopies.TheVariants.{Wanted, Made}
use Rattle.rk_core.specs.Copies.{Copied, pair_of}
use Rattle.rk_record.specs.Journal.{JournalShown, prepared, rooms_taken, rooms_made}
use Rattle.rk_record.specs.Copies.{FitsStart, IsNoAsk, IsIdleAnswer}

-- ---- before a step

-- what is owed is no ask
pub owed_no_ask : (w : World) (e : Event) → is_owed w e ≡ true → IsNoAsk e
owed_no_ask w (Opened s) is = tt
owed_no_ask w (Asked s x) is = absurd (true≢false (sym is))
owed_no_ask w (Launched k r) is = tt
owed_no_ask w (Ended k how payload) is = tt
owed_no_ask w (Collect s) is = tt
owed_no_ask w (Gone s) is = tt

-- the end of a handler that runs is owed to it
end_owed : (o : Option Construction) → is_running (option_map (λ c. c.stage) o) ≡ true → 1 ≤ option_map_or construction_ends o 0
end_owed None is = absurd (true≢false (sym is))
end_owed (Some c) is = by_stage c.stage is
  where
    by_stage : (st : Stage) → is_running (Some st) ≡ true → 1 ≤ stage_ends st
    by_stage Starting is = absurd (true≢false (sym is))
    by_stage (Plain s) is = omega arith
    by_stage Piped is = omega arith
    by_stage Negating is = absurd (true≢false (sym is))

-- it takes one at most
taken_one : (e : Event) → rooms_taken e ≤ takes e
taken_one (Opened s) = omega arith
taken_one (Asked s x) = omega arith
taken_one (Launched k r) = omega arith
taken_one (Ended k how None) = omega arith
taken_one (Ended k how (Some payload)) = omega arith
taken_one (Collect s) = omega arith
taken_one (Gone s) = omega arith

room_owed : (w : World) (e : Event) → is_owed w e ≡ true → takes e ≤ ends_owed w
room_owed w (Opened s) is = omega arith
room_owed w (Asked s x) is = omega arith
room_owed w (Launched k r) is = omega arith
room_owed w (Ended k how payload) is =
    let one = end_owed (map.get w.sessions.constructions k) is in
    let part = ends_part w (Handler k) in omega arith
room_owed w (Collect s) is = omega arith
room_owed w (Gone s) is = omega arith

-- there is room for the payload of an owed end
pub payload_room : (w : World) (e : Event) → is_owed w e ≡ true → rooms_taken e ≤ ends_owed w
payload_room w e is = let a = taken_one e in let b = room_owed w e is in omega arith

-- no more ends than places are owed
pub ends_within : (w : World) → ends_owed w ≤ owed w
ends_within w = omega (arith, no_heavier construction_ends construction_owes (λ c. by_stage c.stage) w.sessions.constructions)
  where
    by_stage : (st : Stage) → stage_ends st ≤ stage_owes st
    by_stage Starting = omega arith
    by_stage (Plain s) = omega arith
    by_stage Piped = omega arith
    by_stage Negating = omega arith

-- ---- after a step

-- a start results from what was asked for, and two ends are owed to it
start_made : (w v : World) (now : ℕ) (e : Event) (a : Answer) → Reached w → Step w now e a v → start_ends a ≤ rooms_made e
start_made w v now e (Start k subject) r step =
    let is : asked_of e ≡ Some (names_in subject) = (reached_recording w now e _ v r step).asked k subject refl in
    let two : rooms_made e ≡ 2 = ap (λ (o : Option (List ℕ × (List ℕ × List ℕ))). cond (is_some o) 2 0) is in omega arith
start_made w v now e (Done x) r step = omega arith
start_made w v now e (Negate k) r step = omega arith
start_made w v now e (Waiting k) r step = omega arith
start_made w v now e (Refused x) r step = omega arith

owed_makes_none : (w : World) (e : Event) → is_owed w e ≡ true → rooms_made e ≡ 0
owed_makes_none w (Opened s) is = refl
owed_makes_none w (Asked s x) is = absurd (true≢false (sym is))
owed_makes_none w (Launched k r) is = refl
owed_makes_none w (Ended k how payload) is = refl
owed_makes_none w (Collect s) is = refl
owed_makes_none w (Gone s) is = refl

-- what was prepared for an event has a place for its step, and places and room for what is owed after it
pub record IsPrepared (w v : World) (e : Event) (a : Answer) (j k : JournalShown) : Type 0 where
  pub one : 1 ≤ k.reserved
  pub reserved : j.reserved + owed_to v (whose e) + start_owes a - owed_to w (whose e) ≤ k.reserved - 1
  pub ends : j.ends + ends_owed_to v (whose e) + start_ends a - ends_owed_to w (whose e) ≤ k.ends

-- a journal that keeps what was owed before a step is prepared for what is owed after it
pub is_prepared : (w v : World) (now : ℕ) (e : Event) (a : Answer) (j : JournalShown) → Reached w → Step w now e a v
    → j.reserved ≡ owed w → j.ends ≡ ends_owed w → IsPrepared w v e a j (prepared (is_owed w e) e j)
is_prepared w v now e a j reached step owes owes_ends = by_owed (is_owed w e) refl
  where
    b : Recording w e a v
    b = reached_recording w now e a v reached step

    by_owed : (t : Bool) → is_owed w e ≡ t → IsPrepared w v e a j (prepared t e j)
    by_owed true is =
        let p = b.owed_before is in
        let t : ends_owed_to v (whose e) + takes e ≤ ends_owed_to w (whose e) = subst (λ x. ends_owed_to v (whose e) + (if x then takes e else 0) ≤ ends_owed_to w (whose e)) is b.taken in
        let part = owed_part w (whose e) in
        let ends = ends_part w (whose e) in
        let m = start_made w v now e a reached step in
        let none = owed_makes_none w e is in
        let one = taken_one e in
        record { one = omega arith; reserved = omega arith; ends = omega arith }
    by_owed false is =
        let p = b.needed is in
        let t : ends_owed_to v (whose e) + 0 ≤ ends_owed_to w (whose e) = subst (λ x. ends_owed_to v (whose e) + (if x then takes e else 0) ≤ ends_owed_to w (whose e)) is b.taken in
        let part = owed_part w (whose e) in
        let m = start_made w v now e a reached step in
        record { one = omega arith; reserved = omega arith; ends = omega arith }

-- what an event frees was kept
pub frees : (w v : World) (now : ℕ) (e : Event) (a : Answer) (j : JournalShown) → Reached w → Step w now e a v → j.reserved ≡ owed w → j.ends ≡ ends_owed w
    → (owed_to w (whose e) ≤ j.reserved + owed_to v (whose e) + start_owes a) × (ends_owed_to w (whose e) ≤ j.ends + ends_owed_to v (whose e) + start_ends a)
frees w v now e a j reached step owes owes_ends =
    let part = owed_part w (whose e) in
    let ends = ends_part w (whose e) in (omega arith, omega arith)

-- of a start two copies of its subject were made
pub fits_start : (w v : World) (now : ℕ) (e : Event) (a : Answer) (new : SubjectCopies) → Reached w → Step w now e a v
    → (is_some (asked_of e) ≡ true → Copied a Wanted new) → FitsStart (pair_of new).0 a × FitsStart (pair_of new).1 a
fits_start w v now e (Start k subject) new r step made =
    let both : new ≡ Made subject subject = made (ap is_some ((reached_recording w now e _ v r step).asked k subject refl)) refl in
    (ap (λ c. (pair_of c).0) both, ap (λ c. (pair_of c).1) both)
fits_start w v now e (Done x) new r step made = (tt, tt)
fits_start w v now e (Negate k) new r step made = (tt, tt)
fits_start w v now e (Waiting k) new r step made = (tt, tt)
fits_start w v now e (Refused x) new r step made = (tt, tt)

-- what can't be recorded changed nothing, and was not owed
pub idle_same : (w v : World) (now : ℕ) (e : Event) (a : Answer) → Reached w → Step w now e a v → IsIdleAnswer a → (v ≡ w) × (is_owed w e ≡ false)
idle_same w v now e a r step (inl told) = (reached_recording w now e a v r step).bytes told.0 told.1
idle_same w v now e a r step (inr lack) = (reached_recording w now e a v r step).lack lack

-- what was free is free again
pub idle_keeps : (e : Event) (b : Bool) (j : JournalShown) → b ≡ false → (j.reserved ≤ (prepared b e j).reserved) × (j.ends ≤ (prepared b e j).ends)
idle_keeps e true j is = absurd (true≢false is)
idle_keeps e false j is = (omega arith, omega arith)

-- the counts stay small
pub few_ends : (w v : World) (now : ℕ) (e : Event) (a : Answer) (j : JournalShown) → Reached w → Step w now e a v → j.ends ≡ ends_owed w → owed w ≤ 1048576
    → (j.ends + ends_owed_to v (whose e) < 2 ^ 64) × (j.ends + ends_owed_to v (whose e) + start_ends a < 2 ^ 64)
few_ends w v now e a j reached step is most =
    let t = (reached_recording w now e a v reached step).taken in
    let part = ends_part w (whose e) in
    let within = ends_within w in
    let two = starts_two a in (omega arith, omega arith)
  where
    starts_two : (a : Answer) → start_ends a ≤ 2
    starts_two (Start k subject) = omega arith
    starts_two (Done x) = omega arith
    starts_two (Negate k) = omega arith
    starts_two (Waiting k) = omega arith
    starts_two (Refused x) = omega arith

-- an event needs at most the places of a REQUEST
need_some : (x : Ask) → cond (is_request x) 6 1 ≤ 6
need_some x = elim (is_request x) as (λ b. cond b 6 1 ≤ 6) [ true ↦ omega arith | false ↦ omega arith ]

need_most : (e : Event) → need e ≤ 6
need_most (Asked s x) = need_some x
need_most (Opened s) = omega arith
need_most _ = omega arith

kept_most : (b : Bool) (e : Event) (j : JournalShown) → (prepared b e j).reserved ≤ j.reserved + 6
kept_most true e j = omega arith
kept_most false e j = let most = need_most e in omega (arith, most)

-- the places that are counted before those that were owed are taken off
pub few_places : (w v : World) (now : ℕ) (e : Event) (a : Answer) (j : JournalShown) → Reached w → Step w now e a v → j.reserved ≡ owed w → j.ends ≡ ends_owed w
    → owed w ≤ 1048576 → j.reserved + owed_to v (whose e) + start_owes a < 2 ^ 64
few_places w v now e a j reached step owes owes_ends most =
    let kept = (is_prepared w v now e a j reached step owes owes_ends).reserved in
    let part = owed_part w (whose e) in
    let more = kept_most (is_owed w e) e j in omega (arith, kept, part, more, owes, most)

-- ---- what a turn counts of what is owed to whom its event is about

-- before the step, and after it: of an ask its wait alone
abbrev pub counted_before : World → Event → ℕ
counted_before w e = if is_ask e then 0 else owed_to w (whose e)

abbrev pub counted_after : World → Event → Answer → ℕ
counted_after v e a = if is_ask e then wait_made a else owed_to v (whose e)

-- it is as much less before the step as after it
counted_so : (w v : World) (now : ℕ) (e : Event) (a : Answer) → Reached w → Step w now e a v
    → (rest : ℕ) × (owed_to w (whose e) ≡ rest + counted_before w e) × (owed_to v (whose e) ≡ rest + counted_after v e a)
counted_so w v now e a reached step = by_kind (is_ask e) refl
  where
    by_kind : (t : Bool) → is_ask e ≡ t
        → (rest : ℕ) × (owed_to w (whose e) ≡ rest + (if t then 0 else owed_to w (whose e)))
        × (owed_to v (whose e) ≡ rest + (if t then wait_made a else owed_to v (whose e)))
    by_kind true is = (owed_to w (whose e), omega arith, asked_owes w now e a v reached step is)
    by_kind false is = (0, omega arith, omega arith)

-- so the same is kept
pub counted_same : (w v : World) (now : ℕ) (e : Event) (a : Answer) (kept : ℕ) → Reached w → Step w now e a v
    → kept + counted_after v e a + start_owes a - counted_before w e ≡ kept + owed_to v (whose e) + start_owes a - owed_to w (whose e)
counted_same w v now e a kept reached step = let so = counted_so w v now e a reached step in let before = so.1 in let after = so.2 in omega arith

-- and no more is counted than is owed
pub counted_less : (w v : World) (now : ℕ) (e : Event) (a : Answer) → Reached w → Step w now e a v
    → (counted_before w e ≤ owed_to w (whose e)) × (counted_after v e a ≤ owed_to v (whose e))
counted_less w v now e a reached step =
    let so = counted_so w v now e a reached step in let before = so.1 in let after = so.2 in (omega arith, omega arith)

-- what an event frees was kept, also as it is counted
pub counted_frees : (w v : World) (now : ℕ) (e : Event) (a : Answer) (j : JournalShown) → Reached w → Step w now e a v → j.reserved ≡ owed w → j.ends ≡ ends_owed w
    → counted_before w e ≤ j.reserved + counted_after v e a + start_owes a
counted_frees w v now e a j reached step owes owes_ends =
    let so = counted_so w v now e a reached step in
    let before = so.1 in
    let after = so.2 in
    let frees = (frees w v now e a j reached step owes owes_ends).0 in omega arith
