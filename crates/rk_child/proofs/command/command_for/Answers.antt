use Rattle.std.proofs.Common.{List, ℕ, subst}
use Rattle.std.specs.Prelude.{Some}
use Rattle.rk_conf.specs.Choice.{IsChosen}
use Rattle.rk_macro.specs.declared.subject.Subject.{Subject}
use Rattle.rk_macro.specs.Ops.{op_name}
use Rattle.rk_child.specs.Commands.{IsCommandFor, FailsFor, any_answer}
use Rattle.rk_macro.proofs.Lookups.{words_of_calls, fails_of_calls}
use Rattle.rk_child.proofs.command.command_for.Goals as goal

pub returns-in-Ok-clause-ok : goal.returns-in-Ok-clause-ok
returns-in-Ok-clause-ok g c =
    let s = c.subject-subject.result.now in
    let line = c.in-Some.line.now in
    let of_op : IsChosen c.args.stage.now.conf.now (op_name s.op) s.typ s.desc s.callout (Some line)
    = subst (λ (o : List ℕ). IsChosen c.args.stage.now.conf.now o s.typ s.desc s.callout (Some line)) c.as_bytes.ensures.value c.in-Some.ensures in
    let told : IsCommandFor c.args.stage.now.conf.now s c.in-Ok.command = record {
      line = line;
      chosen = of_op;
      path = c.in-Ok.ensures.path;
      piped = c.in-Ok.ensures.piped;
      words = words_of_calls _ any_answer s line.args c.in-Ok.command.words c.in-Ok.ensures.words (λ wanted r h. tt);
      short = c.in-Ok.ensures.short;
    } in
    subst (λ (x : Subject). IsCommandFor c.args.stage.now.conf.now x c.in-Ok.command) c.subject-subject.ensures told

pub returns-in-Err-clause-why : goal.returns-in-Err-clause-why
returns-in-Err-clause-why g c =
    let s = c.subject-subject.result.now in
    let line = c.in-Some.line.now in
    let of_op : IsChosen c.args.stage.now.conf.now (op_name s.op) s.typ s.desc s.callout (Some line)
    = subst (λ (o : List ℕ). IsChosen c.args.stage.now.conf.now o s.typ s.desc s.callout (Some line)) c.as_bytes.ensures.value c.in-Some.ensures in
    let told : FailsFor c.args.stage.now.conf.now s c.in-Err.fault = record {
      line = line;
      chosen = of_op;
      fails = fails_of_calls _ any_answer s line.args c.in-Err.fault c.in-Err.ensures.err (λ wanted r h. tt);
    } in
    subst (λ (x : Subject). FailsFor c.args.stage.now.conf.now x c.in-Err.fault) c.subject-subject.ensures told
