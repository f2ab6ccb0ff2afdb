use Rattle.rk_rings.proofs.Words.{◌∙◌, ap, sym, subst, ◌<◌, changed_at, cleared}
use Rattle.rk_rings.proofs.Counted.{still_to_clear, fewer_left, all_cleared, links_in}
use Rattle.rk_rings.proofs.rings.Rings.empty.Goals as goal

pub loop-key-smaller : goal.loop-key-smaller
loop-key-smaller c =
    subst (λ m. links_in m c.args.ring < links_in c.loop-key.self c.args.ring) (sym c.take_out.ensures)
    (fewer_left c.loop-key.self c.args.ring c.in-Some.key c.in-Some.ensures)

pub loop-key-preserved : goal.loop-key-preserved
loop-key-preserved c = ap (changed_at c.args.ring cleared) c.take_out.ensures ∙ still_to_clear c.loop-key.self c.args.ring c.in-Some.key ∙ c.loop-key.invariant

pub returns : goal.returns
returns c = all_cleared c.loop-key.self c.args.ring c.in_default.ensures ∙ c.loop-key.invariant
