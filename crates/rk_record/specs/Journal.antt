-- The steps of a volume that is being recorded, with places and room that are kept for steps to come.
use Rattle.std.specs.Prelude.{ℕ, ◌+◌, ◌-◌, ◌≤◌, Bool, cond, is_some, List, length, refl, Some, if◌then◌else◌}
use Rattle.std.specs.Coded.{Coded, code_by, coded×, coded_ℕ, coded_list}
use Rattle.rk_machine.specs.Event.{Event}
use Rattle.rk_machine.specs.declared.event.EventOf.TheVariants.{Ended}
use Rattle.rk_machine.specs.Owing.{need, asked_of}
use Rattle.rk_record.specs.declared.recorded.Recorded.{Recorded}
use Rattle.rk_record.specs.contracts.recorded.Recorded as recorded

-- what is seen of a journal
pub record JournalShown : Type 0 where
  pub places : ℕ  -- how many steps it may have
  pub reserved : ℕ  -- how many of its places are kept
  pub ends : ℕ  -- for how many payloads room is kept
  pub steps : List Recorded

-- a journal as its four parts in a row, the form in which a model of a struct sees it
abbrev pub journal_code : Coded JournalShown
journal_code =
    code_by (ℕ × (ℕ × (ℕ × List Recorded))) (coded× coded_ℕ (coded× coded_ℕ (coded× coded_ℕ (coded_list recorded.the_row.coded))))
    (λ j. (j.places, (j.reserved, (j.ends, j.steps)))) (λ p. record { places = p.0; reserved = p.1.0; ends = p.1.1.0; steps = p.1.1.1 }) (λ _. refl)

-- what a journal keeps: the kept places are within its places and within the memory that it has, and there are as many rooms as it keeps
pub record IsJournal (steps : List Recorded) (places reserved ends capacity rooms : ℕ) : Type 0 where
  pub fits : length steps + reserved ≤ places
  pub most : places ≤ 1048576
  pub memory : length steps + reserved ≤ capacity
  pub room : ends ≤ rooms

-- ---- before a step

-- how many rooms the record of an event takes
abbrev pub rooms_taken : Event → ℕ
rooms_taken (Ended k how (Some payload)) = 1
rooms_taken _ = 0

-- for how many ends room has to be kept for what an event may start
abbrev pub rooms_made : Event → ℕ
rooms_made e = cond (is_some (asked_of e)) 2 0

-- what is kept once an event is prepared. For what is owed that was done before, and its payload has its room. For any other there are the places
-- that it may need, and room for the ends of what it may start
abbrev pub prepared : Bool → Event → JournalShown → JournalShown
prepared owes e j = record j {
  reserved = if owes then j.reserved else j.reserved + need e;
  ends = if owes then j.ends - rooms_taken e else j.ends + rooms_made e;
}
