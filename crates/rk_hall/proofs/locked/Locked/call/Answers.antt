use Rattle.std.proofs.Common.{◌∙◌, ap, sym, subst, arith}
use Rattle.rk_machine.proofs.OwedSteps.EachRecorded.{constructions_owed}
use Rattle.rk_record.specs.Copies.{started}
use Rattle.rk_hall.specs.Locked.{HasDepth}
use Rattle.rk_hall.proofs.Starts.{has_depth}
use Rattle.rk_hall.proofs.locked.Locked.call.Goals as goal

pub begin-begun-requires : goal.begin-begun-requires
begin-begun-requires g c =
    let i = c.self.invariant in
    let spare = i.spare in
    let s = c.count-found.ensures.sound in
    let fits = s.fits in
    let least = s.least in
    let most = s.most in
    let few = constructions_owed c.self.inside.hall.world in (
      omega arith,
      (
        omega arith,
        (
          c.in-Ok.ensures.subject ∙ ap started (sym c.answer-in-Ok.ensures),
          (subst (λ a. HasDepth a c.turn_to_start.new.self.world) (sym c.answer-in-Ok.ensures) (has_depth _ _ _ _ _ c.requires.call c.in-Ok.ensures.ok.step), omega arith),
        ),
      ),
    )
