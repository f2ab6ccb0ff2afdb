-- What a seat keeps over calls.
use Rattle.std.specs.Prelude.{ℕ, ◌≡◌, ◌≤◌, ◌+◌, ◌-◌}
use Rattle.rk_record.specs.declared.hall_no.HallNo.{HallNo}
use Rattle.rk_record.specs.declared.hall_no.HallNo.TheVariants.{Zero, One, Two, Three}
use Rattle.rk_hall.specs.Seats.{SeatShown, part}

-- the clients of a seat, hall by hall
pub record Clients : Type 0 where
  pub zero : ℕ
  pub one : ℕ
  pub two : ℕ
  pub three : ℕ

-- those that the seat opened and did not report gone
abbrev pub clients_at : SeatShown → Clients
clients_at s = record { zero = s.zero.clients; one = s.one.clients; two = s.two.clients; three = s.three.clients }

-- one more in this hall
abbrev pub with_one : HallNo → Clients → Clients
with_one Zero c = record c { zero = c.zero + 1 }
with_one One c = record c { one = c.one + 1 }
with_one Two c = record c { two = c.two + 1 }
with_one Three c = record c { three = c.three + 1 }

-- one fewer in this hall, never under none
abbrev pub without_one : HallNo → Clients → Clients
without_one Zero c = record c { zero = c.zero - 1 }
without_one One c = record c { one = c.one - 1 }
without_one Two c = record c { two = c.two - 1 }
without_one Three c = record c { three = c.three - 1 }

-- what the seat has seen in each hall does not fall
abbrev pub SeesOn : SeatShown → SeatShown → Type 0
SeesOn old new = (hall : HallNo) → (part hall old).seen ≤ (part hall new).seen

-- hall by hall as many clients as before, and nothing forgotten that was seen
pub record Stays (old new : SeatShown) : Type 0 where
  pub clients : clients_at new ≡ clients_at old
  pub seen : SeesOn old new
