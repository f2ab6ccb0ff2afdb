use Rattle.rk_rings.proofs.Words.{◌≡◌, ◌≤◌, length, with_entries, HasEachNew, AreSerials, AreUserRings}
use Rattle.std.specs.Vec.Iter.{into_iter_items}
use Rattle.rk_rings.proofs.rings.insert_rows.Given as goal

-- what is left to put in makes of the table what all of it makes at first
abbrev pub invariant-loop-serial : goal.invariant-loop-serial
invariant-loop-serial l = record {
  facts : with_entries (into_iter_items l.serial-iterator) l.table.facts ≡ with_entries l.fn.rows.items l.fn.table.facts;
  new : HasEachNew (into_iter_items l.serial-iterator) l.table.facts;
  room : length (into_iter_items l.serial-iterator) ≤ l.table.room;
  serials : AreSerials l.fn.table.facts → AreSerials l.table.facts;
  user_room : length (into_iter_items l.serial-iterator) ≤ l.users.room;
  users : AreUserRings l.fn.table.facts l.fn.users.facts → AreUserRings l.table.facts l.users.facts;
}
