use Rattle.rk_auth.proofs.Words.{◌∙◌, ap, sym}
use Rattle.std.specs.FinMap as map
use Rattle.rk_auth.proofs.Slabs.{get_place, put_place}
use Rattle.rk_auth.proofs.places.Places.put.Goals as goal

pub returns-clause-new : goal.returns-clause-new
returns-clause-new g c =
    ap (λ s. map.get s.facts c.insert_reserved.result) (sym c.self.view_is) ∙ get_place c.self.inside.slab c.insert_reserved.result ∙ c.insert_reserved.ensures.was_vacant

pub returns-clause-facts : goal.returns-clause-facts
returns-clause-facts g c =
    put_place c.self.inside.slab c.insert_reserved.new.self c.insert_reserved.result c.args.value c.insert_reserved.ensures.updates
    ∙ ap (λ s. map.insert s.facts c.insert_reserved.result c.args.value) c.self.view_is
