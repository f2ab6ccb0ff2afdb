use Rattle.rk_rings.proofs.Words.{◌∙◌, ap, sym, ◌≡◌, subst, arith, length, insert, AreSerials, AreUserRings}
use Rattle.rk_rings.proofs.Links.{serials-insert, is_serial}
use Rattle.rk_rings.proofs.Made.{left_facts, left_new, next_new}
use Rattle.rk_rings.proofs.rings.insert_rows.Goals as goal

pub loop-serial-preserved : goal.loop-serial-preserved
loop-serial-preserved c =
    let is : c.insert.new.self.facts ≡ insert c.loop-serial.table.facts c.in-Some.serial c.in-Some.row =
    c.insert.ensures.facts ∙ ap (λ k. insert c.loop-serial.table.facts k c.in-Some.row) c.get.ensures.number in
    record {
      facts = left_facts _ _ _ _ _ _ _ c.in-Some.ensures.steps.0 is c.loop-serial.invariant.facts;
      new = left_new _ _ _ _ _ _ c.in-Some.ensures.steps.0 is c.loop-serial.invariant.new;
      room = omega (arith, ap length c.in-Some.ensures.steps.0, c.loop-serial.invariant.room, c.insert.ensures.room);
      serials = λ all. subst AreSerials (sym is) (serials-insert _ _ _ (c.loop-serial.invariant.serials all)
          (is_serial _ c.get.ensures.range.0 c.get.ensures.range.1));
      user_room = omega (arith, ap length c.in-Some.ensures.steps.0, c.loop-serial.invariant.user_room, c.note_user.ensures.room);
      users = λ all. subst (λ m. AreUserRings m c.note_user.new.users.facts) (sym is)
          (c.note_user.ensures.users c.loop-serial.table.facts (next_new _ _ _ _ _ c.in-Some.ensures.steps.0 c.loop-serial.invariant.new)
          (c.loop-serial.invariant.users all));
    }
