-- A hall's record: the steps of its book, a volume at a time.
use Rattle.std.specs.Prelude.{◌≡◌, ℕ, ◌+◌, ◌-◌, ◌<◌, ◌≤◌, ◌^◌, List, [], ◌∷◌, length, false, refl, nat_le, if◌then◌else◌}
use Rattle.std.specs.Coded.{Coded, code_by, coded×, coded_ℕ, coded_list}
use Rattle.rk_machine.specs.World.{World, world_code}
use Rattle.rk_machine.specs.Steps.{Beginning, Past, Step, Run}
use Rattle.rk_machine.specs.Laws.{ContinuesTo}
use Rattle.rk_machine.specs.Views.{is_owed}
use Rattle.rk_machine.specs.Owing.{owed, ends_owed, need}
use Rattle.rk_machine.specs.Event.{Event}
use Rattle.rk_record.specs.declared.hall_no.HallNo.{HallNo}
use Rattle.rk_record.specs.contracts.hall_no.HallNo as hall_no
use Rattle.rk_record.specs.declared.recorded.Recorded.{Recorded}
use Rattle.rk_record.specs.contracts.recorded.Recorded as recorded

-- the steps, in order, lead from one world to another
unfoldable pub Runs : World → List Recorded → World → Type 0
Runs w [] v = w ≡ v
Runs w (s ∷ ss) v = (u : World) × Step w s.now s.event s.answer u × Runs u ss v

-- a recorded step, as the definition of a run has it
abbrev pub past_step : Recorded → Past
past_step s = record { now = s.now; event = s.event; answer = s.answer }

-- the steps after those that were before them, the newest first
abbrev pub past_of : List Recorded → List Past → List Past
past_of [] past = past
past_of (s ∷ ss) past = past_of ss (past_step s ∷ past)

-- a run of so many steps leads to this world
pub record IsReached (count : ℕ) (w : World) : Type 0 where
  pub from : Beginning
  pub past : List Past
  pub counted : length past ≡ count
  pub run : Run from past w

-- a run of so many steps leads to the first world. It goes on with these steps to the second one, and obeys the laws of every run
abbrev pub GoesOn : ℕ → World → List Recorded → World → Type 0
GoesOn before opening steps closing = (r : IsReached before opening) × ContinuesTo r.from (past_of steps r.past) closing

-- what is seen of a hall: the volume that it records, and the world of its book
pub record HallShown : Type 0 where
  pub no : HallNo
  pub opening : World  -- in which the volume opened
  pub before : ℕ  -- how many steps the volumes before it have
  pub index : ℕ  -- which volume it is, from 1
  pub limit : ℕ  -- how many steps a volume may have
  pub places : ℕ  -- and how many this one may have
  pub world : World
  pub steps : List Recorded

-- a hall as its eight parts in a row, the form in which a model of a struct sees it
abbrev pub hall_code : Coded HallShown
hall_code =
    code_by (HallNo × (World × (ℕ × (ℕ × (ℕ × (ℕ × (World × List Recorded)))))))
    (coded× hall_no.the_row.coded
    (coded× world_code
    (coded× coded_ℕ (coded× coded_ℕ (coded× coded_ℕ (coded× coded_ℕ (coded× world_code (coded_list recorded.the_row.coded))))))))
    (λ h. (h.no, (h.opening, (h.before, (h.index, (h.limit, (h.places, (h.world, h.steps))))))))
    (λ p. record {
      no = p.0;
      opening = p.1.0;
      before = p.1.1.0;
      index = p.1.1.1.0;
      limit = p.1.1.1.1.0;
      places = p.1.1.1.1.1.0;
      world = p.1.1.1.1.1.1.0;
      steps = p.1.1.1.1.1.1.1;
    })
    (λ _. refl)

-- how many steps a volume may have that opens after so many: none has a number past 2 ^ 61
abbrev pub places_after : ℕ → ℕ → ℕ
places_after limit before = if nat_le limit (2 ^ 61 - before) then limit else 2 ^ 61 - before

-- the places that are not taken and not kept for what is owed
abbrev pub free : HallShown → ℕ
free h = h.places - (length h.steps + owed h.world)

-- an event that is not owed has not as many free places as it may need
abbrev pub IsFull : HallShown → Event → Type 0
IsFull h e = (is_owed h.world e ≡ false) × (free h < need e)

-- what a hall keeps: a run leads to where the volume opened, the volume leads on to the book's world, and places and room for payloads are kept for all
-- that is owed
pub record IsSound (opening : World) (before limit places : ℕ) (w : World) (steps : List Recorded) (reserved ends : ℕ) : Type 0 where
  pub opened : IsReached before opening
  pub runs : Runs opening steps w
  pub owes : reserved ≡ owed w
  pub owes_ends : ends ≡ ends_owed w
  pub fits : length steps + reserved ≤ places
  pub numbers : before + places ≤ 2 ^ 61
  pub least : places ≤ limit
  pub most : limit ≤ 1048576

-- what holds of every hall
pub record IsRecord (h : HallShown) : Type 0 where
  pub runs : Runs h.opening h.steps h.world
  -- the steps of the volumes before this one are a run that leads to where it opened, goes on with it, and obeys the laws
  pub goes_on : GoesOn h.before h.opening h.steps h.world
  -- whatever run led to where the volume opened, it goes on with the volume, and obeys the laws
  pub laws : (from : Beginning) (past : List Past) → Run from past h.opening → ContinuesTo from (past_of h.steps past) h.world
  -- there are places for all that is owed
  pub fits : length h.steps + owed h.world ≤ h.places
  pub numbers : h.before + h.places ≤ 2 ^ 61
  pub least : h.places ≤ h.limit
  pub most : h.limit ≤ 1048576
