use Rattle.rk_auth.proofs.Words.{◌∙◌, ap, cond, ◌+◌, is_some}
use Rattle.std.specs.FinMap as map
use Rattle.rk_auth.proofs.Slabs.{out_place, room_again}
use Rattle.rk_auth.proofs.places.Places.remove.Goals as goal

pub returns-clause-facts : goal.returns-clause-facts
returns-clause-facts g c =
    out_place c.self.inside.slab c.try_remove.new.self c.args.place c.try_remove.ensures.updates ∙ ap (λ s. map.remove s.facts c.args.place) c.self.view_is

pub returns-clause-room : goal.returns-clause-room
returns-clause-room g c =
    room_again c.self.inside.slab c.try_remove.new.self c.args.place c.try_remove.result c.try_remove.ensures.value c.try_remove.ensures.capacity
    c.try_remove.ensures.len c.try_remove.ensures.room c.try_remove.ensures.absent
    ∙ ap (λ s. cond (is_some (map.get s.facts c.args.place)) (s.room + 1) s.room) c.self.view_is
