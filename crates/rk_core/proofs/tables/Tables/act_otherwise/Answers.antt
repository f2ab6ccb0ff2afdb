use Rattle.rk_core.proofs.Words.{◌≡◌, ◌∙◌, sym, subst, rules, w32, to_z, of_z, Reads, answer_of}
use Rattle.rk_core.proofs.Stepping.AskByParts.{reads_so}
use Rattle.rk_core.proofs.tables.Tables.act_otherwise.Goals as goal

pub returns-in-Read : goal.returns-in-Read
returns-in-Read c =
    let w = c.args.self.now in
    let number : to_z w32 (of_z w32 c.in-Read.key) ≡ c.in-Read.key = search rules in
    record {
      step = reads_so w c.args.now c.args.id.now c.args.asker.now c.in-Read.key c.args.ask (answer_of c.read.result)
          (sym c.into_parts-ask.ensures.0 ∙ sym c.ask.ensures ∙ c.in-Read.is) c.requires.asker
          (subst (λ k. Reads w c.args.now c.args.id.now c.args.asker.now k (answer_of c.read.result) w) number c.read.ensures);
    }
