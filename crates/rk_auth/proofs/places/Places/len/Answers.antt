use Rattle.rk_auth.proofs.Words.{◌∙◌, ap, is_some}
use Rattle.std.specs.FinMap as map
use Rattle.rk_auth.proofs.Slabs.{no_more_places}
use Rattle.rk_auth.proofs.places.Places.len.Goals as goal

pub returns : goal.returns
returns g c ps once there =
    no_more_places c.self.inside.slab c.len.result ps c.len.ensures once (λ p t. ap (λ s. is_some (map.get s.facts p)) c.self.view_is ∙ there p t)
