-- Of which hall a ticket is.
use Rattle.rk_record.specs.declared.hall_no.HallNo.{HallNo}
use Rattle.rk_record.specs.declared.hall_no.HallNo.TheVariants as hall
use Rattle.rk_hall.specs.declared.ticket.OneOfFour.{OneOfFour}
use Rattle.rk_hall.specs.declared.ticket.OneOfFour.TheVariants.{Zero, One, Two, Three}

-- the hall of the one that it is
abbrev pub ticket_hall : {A B C D : Type 0} → OneOfFour A B C D → HallNo
ticket_hall (Zero t) = hall.Zero
ticket_hall (One t) = hall.One
ticket_hall (Two t) = hall.Two
ticket_hall (Three t) = hall.Three
