use Rattle.rk_session.proofs.Words.{subst, sym, LacksFrame, ReplyFramed}
use Rattle.rk_session.proofs.Sendings.{counts_then, notes_counts, writes_counts}
use Rattle.rk_session.proofs.Sayings.{memory_speaks, noted_speaks, settled_takes}
use Rattle.rk_session.proofs.turns.tell.Goals as goal

pub returns-in-Ok-clause-speaks : goal.returns-in-Ok-clause-speaks
returns-in-Ok-clause-speaks g c =
    let framed = subst (λ a. ReplyFramed a c.in-Ok.bytes) c.answer.ensures c.in-Ok.ensures.framed in
    noted_speaks c.args.receipt.now c.write.result c.as_bytes.result.now _ _ _ (subst (ReplyFramed c.args.receipt.now.answer) (sym c.as_bytes.ensures) framed)
    c.note.ensures c.write.ensures

pub returns-in-Err-clause-speaks : goal.returns-in-Err-clause-speaks
returns-in-Err-clause-speaks g c =
    memory_speaks c.args.receipt.now c.refuse.result _ _
    (settled_takes c.args.receipt.now.answer c.requires (subst LacksFrame c.answer.ensures c.in-Err.ensures.memory)) c.refuse.ensures.speaks

pub returns-in-Ok-clause-counts : goal.returns-in-Ok-clause-counts
returns-in-Ok-clause-counts g c =
    counts_then _ _ _ (notes_counts c.args.receipt.now _ _ c.note.ensures) (writes_counts c.write.result c.as_bytes.result.now _ _ c.write.ensures)
