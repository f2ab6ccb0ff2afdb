use Rattle.rk_auth.proofs.Words.{◌∙◌, ap, sym}
use Rattle.std.specs.FinMap as map
use Rattle.rk_auth.proofs.Slabs.{get_place}
use Rattle.rk_auth.proofs.places.Places.get.Goals as goal

pub returns : goal.returns
returns g c = c.get.ensures ∙ sym (get_place c.self.inside.slab c.args.place) ∙ ap (λ s. map.get s.facts c.args.place) c.self.view_is
