use Rattle.rk_core.proofs.Words.{◌≡◌, true, ap, ◌∙◌, Some, changed_at, is_linked, without_link, rings_seen, World, world_of, unlinked_in}
use Rattle.rk_core.proofs.LinksAndNames.NumbersKept.{kept_unlink, either_way}
use Rattle.rk_core.proofs.LinksAndNames.LinksByNumber.{unlink_seen}
use Rattle.rk_core.proofs.tables.Tables.take_link.Goals as goal

pub invariant_of-self : goal.invariant_of-self
invariant_of-self c =
    kept_unlink c.self.inside.keys c.self.inside.rings c.unlink.new.self c.args.ring c.args.key
    (either_way c.unlink.result _ _ c.unlink.ensures.ok c.unlink.ensures.err) c.self.invariant

pub returns : goal.returns
returns c =
    let before : World = world_of c.self.inside.negative c.self.inside.keys c.self.inside.rings c.self.inside.auths.sessions in
    let there : is_linked before.rings c.args.ring c.args.key ≡ true =
    ap (λ (w : World). is_linked w.rings c.args.ring c.args.key) c.self.view_is ∙ c.requires in
    let seen : rings_seen c.unlink.new.self ≡ changed_at c.args.ring (without_link c.args.key) before.rings =
    unlink_seen c.self.inside.rings c.unlink.new.self c.args.ring c.args.key c.unlink.result there c.unlink.ensures.ok c.unlink.ensures.no_ring
    c.unlink.ensures.not_linked c.unlink.ensures.others in
    (λ i. record before { rings = seen i }) ∙ ap (unlinked_in (Some c.args.ring) c.args.key) c.self.view_is
