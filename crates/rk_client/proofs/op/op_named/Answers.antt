use Rattle.std.proofs.Common.{◌≡◌, Option, sym, subst, ◌∙◌}
use Rattle.std.specs.Prelude.{IfSome}
use Rattle.rk_message.specs.declared.shape.Op.{Op}
use Rattle.rk_client.specs.Words.{op_word}
use Rattle.rk_client.proofs.Ops.{op_found, word_of}
use Rattle.rk_client.proofs.op.op_named.Goals as goal

pub returns-clause-said : goal.returns-clause-said
returns-clause-said c = c.op_in.ensures ∙ op_found c.all.result.now c.args.word.now c.all.ensures

pub returns-clause-word : goal.returns-clause-word
returns-clause-word c =
    subst (λ (o : Option Op). IfSome o (λ p. c.args.word.now ≡ op_word p)) (sym (c.op_in.ensures ∙ op_found c.all.result.now c.args.word.now c.all.ensures))
    (word_of c.args.word.now)
