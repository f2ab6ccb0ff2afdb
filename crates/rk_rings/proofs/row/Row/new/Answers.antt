use Rattle.rk_rings.proofs.Words.{sym, subst, arith, AreSerials}
use Rattle.rk_rings.proofs.Links.{serials-empty}
use Rattle.rk_rings.proofs.Turned.{by_name_empty}
use Rattle.rk_rings.proofs.row.Row.new.Goals as goal

pub invariant_of-result : goal.invariant_of-result
invariant_of-result c = record {
  links = (
    omega (arith, c.in_ok-with_room.ensures.len, c.in_ok-with_room.ensures.room),
    subst AreSerials (sym c.in_ok-with_room.ensures.empty) (serials-empty _),
  );
  by_name = by_name_empty _ _ c.in_ok-with_room.ensures.empty c.in_ok-new.ensures;
}
