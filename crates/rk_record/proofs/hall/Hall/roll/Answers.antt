use Rattle.std.proofs.Common.{◌≡◌, ◌+◌, List, length, subst, ap, arith}
use Rattle.rk_record.specs.declared.recorded.Recorded.{Recorded}
use Rattle.rk_record.specs.Record.{IsRecord, places_after}
use Rattle.rk_record.proofs.Runs.{sound_shown, sound_rolled}
use Rattle.rk_record.proofs.hall.Hall.roll.Goals as goal

pub returns-then-places-reserved-clause-sound : goal.returns-then-places-reserved-clause-sound
returns-then-places-reserved-clause-sound c = subst IsRecord c.self.view_is (sound_shown _ _ _ c.self.invariant)

pub returns-in_default-clause-sound : goal.returns-in_default-clause-sound
returns-in_default-clause-sound c = rw (c.in_default.ensures.err) (sound_shown _ _ _ c.self.invariant)

pub invariant_of-self-2 : goal.invariant_of-self-2
invariant_of-self-2 c =
    let h = c.self.inside in
    let after : places_after h.limit (h.before + length c.steps.result.now) ≡ places_after h.limit (h.before + length h.journal.steps) =
    ap (λ (s : List Recorded). places_after h.limit (h.before + length s)) c.steps.ensures in
    let reserved = c.reserved.ensures in
    let places = c.places_after-places.ensures in
    let less = c.if-places-reserved.false in
    rw (c.replace.ensures.after, c.of.ensures, c.in-Ok.ensures.ok.1, c.places_after-places.ensures, c.steps.ensures)
    (sound_rolled _ _ _ _ _ _ _ _ c.self.invariant (omega arith))

pub returns-clause-sound : goal.returns-clause-sound
returns-clause-sound c = sound_shown _ _ _ (invariant_of-self-2 c)
