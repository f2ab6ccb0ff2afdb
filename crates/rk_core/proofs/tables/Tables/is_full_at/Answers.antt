use Rattle.rk_core.proofs.Words.{ap, ◌∙◌, sym, World, is_full_at}
use Rattle.rk_core.proofs.LinksAndNames.KeysOfAName.{by_name}
use Rattle.rk_core.proofs.LinksAndNames.LinksByNumber.{full_alike, room_for_all}
use Rattle.rk_core.proofs.tables.Tables.is_full_at.Goals as goal

pub returns-then-is_full : goal.returns-then-is_full
returns-then-is_full c =
    c.is_full-then-is_full.ensures
    ∙ full_alike c.self.inside.keys c.self.inside.rings c.args.ring c.args.name.now.typ c.args.name.now.description c.name.result c.self.invariant
    (by_name c.self.inside.keys c.args.name.now.typ c.args.name.now.description c.name.result c.name.ensures.naming c.name.ensures.none c.name.ensures.some)
    ∙ ap (λ (w : World). is_full_at w c.args.ring c.args.name.now.typ c.args.name.now.description) c.self.view_is

pub returns-else-is_full : goal.returns-else-is_full
returns-else-is_full c =
    c.if-is_full.false
    ∙ sym (room_for_all c.self.inside.keys c.self.inside.rings c.args.ring c.args.name.now.typ c.args.name.now.description (sym c.is_full.ensures ∙ c.if-is_full.false))
    ∙ ap (λ (w : World). is_full_at w c.args.ring c.args.name.now.typ c.args.name.now.description) c.self.view_is
