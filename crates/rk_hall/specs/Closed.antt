-- Four halls that were taken out of their locks.
use Rattle.std.specs.Prelude.{◌≡◌, ℕ, ◌+◌, ◌≤◌, ◌^◌, List, map, sum, refl}
use Rattle.std.specs.Coded.{Coded, code_by, coded×, coded_ℕ}
use Rattle.rk_record.specs.declared.hall_no.HallNo.{HallNo}
use Rattle.rk_record.specs.declared.hall_no.HallNo.TheVariants.{Zero, One, Two, Three}
use Rattle.rk_record.specs.HallNumbers.{hall_number}
use Rattle.rk_record.specs.Record.{HallShown, hall_code}
use Rattle.rk_hall.specs.Seats.{SeatShown, part}
use Rattle.rk_hall.specs.Locked.{taken}

-- a hall out of its lock: the turns of the seats that were handed in, those of the seats that were given back before, and the strays
pub record ClosedShown : Type 0 where
  pub hall : HallShown
  pub live : ℕ
  pub retired : ℕ
  pub strays : ℕ

-- the same as four parts in a row, the form in which a model of a struct sees it
abbrev pub closed_code : Coded ClosedShown
closed_code =
    code_by (HallShown × (ℕ × (ℕ × ℕ))) (coded× hall_code (coded× coded_ℕ (coded× coded_ℕ coded_ℕ)))
    (λ k. (k.hall, (k.live, (k.retired, k.strays)))) (λ p. record { hall = p.0; live = p.1.0; retired = p.1.1.0; strays = p.1.1.1 }) (λ _. refl)

-- what its ledgers keep: the turns that are known of are a share of its steps, and there are at most 1,048,576 strays
pub record IsClosed (no : ℕ) (hall : HallShown) (live retired strays calls_total pool_amount : ℕ) : Type 0 where
  pub number : hall_number hall.no ≡ no
  pub calls : calls_total ≡ taken hall
  pub pool : pool_amount ≡ live + retired
  pub most : live + retired ≤ 2 ^ 61
  pub few : strays ≤ 1048576

-- all four
pub record FourShown : Type 0 where
  pub zero : ClosedShown
  pub one : ClosedShown
  pub two : ClosedShown
  pub three : ClosedShown

-- the one of this number
abbrev pub closed_of : HallNo → FourShown → ClosedShown
closed_of Zero k = k.zero
closed_of One k = k.one
closed_of Two k = k.two
closed_of Three k = k.three

-- the turns that these seats made in this hall
abbrev pub turns_of : HallNo → List SeatShown → ℕ
turns_of hall seats = sum (map (λ s. (part hall s).calls) seats)

-- the same as four parts in a row
abbrev pub four_code : Coded FourShown
four_code =
    code_by (ClosedShown × (ClosedShown × (ClosedShown × ClosedShown))) (coded× closed_code (coded× closed_code (coded× closed_code closed_code)))
    (λ k. (k.zero, (k.one, (k.two, k.three)))) (λ p. record { zero = p.0; one = p.1.0; two = p.1.1.0; three = p.1.1.1 }) (λ _. refl)

-- a hall to which so many turns more were handed in
abbrev pub with_turns : ClosedShown → ℕ → ClosedShown
with_turns c n = record c { live = c.live + n }

-- the four halls with the turns that these seats made in each
abbrev pub with_seats : FourShown → List SeatShown → FourShown
with_seats k seats = record {
  zero = with_turns k.zero (turns_of Zero seats);
  one = with_turns k.one (turns_of One seats);
  two = with_turns k.two (turns_of Two seats);
  three = with_turns k.three (turns_of Three seats);
}
