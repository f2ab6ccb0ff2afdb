use Rattle.rk_core.proofs.Words.{false, sym, ◌∙◌, subst, Some, unlinked_in, StayBut}
use Rattle.rk_core.proofs.Vanishing.ClearedRing.{tidied_stay, still_to_clear, fewer_links, all_cleared}
use Rattle.rk_core.proofs.tables.Tables.clear.Goals as goal

pub loop-key-smaller : goal.loop-key-smaller
loop-key-smaller c = fewer_links c.loop-key.self c.unlink.new.self c.args.ring c.in-Some.key c.in-Some.ensures c.unlink.ensures

pub loop-key-preserved : goal.loop-key-preserved
loop-key-preserved c = (
  subst (StayBut (λ j. false)) (sym c.unlink.ensures) (tidied_stay (unlinked_in (Some c.args.ring) c.in-Some.key c.loop-key.self)),
  still_to_clear c.loop-key.self c.unlink.new.self c.args.ring c.in-Some.key c.unlink.ensures ∙ c.loop-key.invariant.1,
)

pub returns : goal.returns
returns c = all_cleared c.loop-key.self c.args.self.now c.args.ring c.loop-key.invariant.0 c.in_default.ensures c.loop-key.invariant.1
