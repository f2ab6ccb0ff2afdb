use Rattle.rk_core.proofs.Words.{◌≡◌, sym, ap, ◌∙◌, None, new_key, has_link, has_link-rings_seen, World}
use Rattle.std.specs.FinMap as map
use Rattle.std.specs.FinSet as set
use Rattle.rk_core.proofs.LinksAndNames.NumbersKept.{kept_make, no_number, not_held}
use Rattle.rk_core.proofs.tables.Tables.make_construction.Goals as goal

pub invariant_of-self-2 : goal.invariant_of-self-2
invariant_of-self-2 c =
    let no_key : map.get c.self.inside.keys.keys c.in-Ok.key ≡ None =
    ap (λ (w : World). map.get w.keys c.in-Ok.key) c.self.view_is ∙ c.requires.sound.keys c.in-Ok.key
    (sym (ap (λ (w : World). set.contains w.serials.used c.in-Ok.key) c.self.view_is) ∙ c.in-Ok.ensures.fresh.unused) in
    kept_make c.self.inside.keys c.make.new.self c.self.inside.rings c.in-Ok.key (new_key c.args.name.now.typ c.args.name.now.description c.args.authority.context.uid None)
    (no_number c.self.inside.keys c.in-Ok.key c.make.ensures.naming no_key) c.in-Ok.ensures.ok.1 c.self.invariant

pub returns-clause-unlinked : goal.returns-clause-unlinked
returns-clause-unlinked c =
    let no_key : map.get c.self.inside.keys.keys c.in-Ok.key ≡ None =
    ap (λ (w : World). map.get w.keys c.in-Ok.key) c.self.view_is ∙ c.requires.sound.keys c.in-Ok.key
    (sym (ap (λ (w : World). set.contains w.serials.used c.in-Ok.key) c.self.view_is) ∙ c.in-Ok.ensures.fresh.unused) in
    sym (ap (λ (w : World). has_link w.rings c.in-Ok.key) c.self.view_is) ∙ has_link-rings_seen c.self.inside.rings c.in-Ok.key
    ∙ not_held c.self.inside.keys c.self.inside.rings c.in-Ok.key c.self.invariant (no_number c.self.inside.keys c.in-Ok.key c.make.ensures.naming no_key)
