use Rattle.rk_core.proofs.Words.{◌≡◌, ap, ◌∙◌, rings_seen, World, world_of, without_ring}
use Rattle.std.specs.FinMap as map
use Rattle.rk_core.proofs.LinksAndNames.NumbersKept.{kept_drop, either_way}
use Rattle.rk_core.proofs.LinksAndNames.LinksByNumber.{drop_seen}
use Rattle.rk_core.proofs.tables.Tables.forget_ring.Goals as goal

pub invariant_of-self : goal.invariant_of-self
invariant_of-self c =
    kept_drop c.self.inside.keys c.self.inside.rings c.drop_ring.new.self c.args.ring
    (either_way c.drop_ring.result _ _ c.drop_ring.ensures.ok c.drop_ring.ensures.err) c.self.invariant

pub returns : goal.returns
returns c =
    let before : World = world_of c.self.inside.negative c.self.inside.keys c.self.inside.rings c.self.inside.auths.sessions in
    let seen : rings_seen c.drop_ring.new.self ≡ map.remove before.rings c.args.ring =
    drop_seen c.self.inside.rings c.drop_ring.new.self c.args.ring c.drop_ring.result c.drop_ring.ensures.ok c.drop_ring.ensures.err c.drop_ring.ensures.no_ring
    c.drop_ring.ensures.others in
    (λ i. record before { rings = seen i }) ∙ ap (without_ring c.args.ring) c.self.view_is
