use Rattle.rk_served.proofs.Words.{List, subst, ℕ, inr, rules, Vec, Some, Option, option_map, Result, Ok, Err, IfOk, Peeks, World, looked_up}
use Rattle.std.specs.declared.alloc.AllocError.{AllocError}
use Rattle.rk_conf.specs.declared.argument.Wanted.{Wanted}
use Rattle.rk_macro.specs.Lookup.{payload_shown}
use Rattle.rk_conf.specs.Choice.{IsChosen}
use Rattle.rk_macro.proofs.Lookups.{words_of_calls, fails_of_calls}
use Rattle.rk_served.proofs.command.command_for.Goals as goal

-- what one call finds
seen_by : (w : World) (k now : ℕ) (wanted : Wanted) (r : Result (Option (Vec ℕ)) AllocError)
    → IfOk r (λ seen. Peeks w k wanted.typ wanted.desc now (option_map (λ v. v.items) seen)) → looked_up w k now wanted (payload_shown r)
seen_by w k now wanted (Ok seen) h = h
seen_by w k now wanted (Err e) h = tt

pub returns-in-Ok : goal.returns-in-Ok
returns-in-Ok c = record {
  line = c.in_ok-line.line.now;
  chosen = subst (λ (o : List ℕ). IsChosen c.args.occasion.now.conf.now o c.args.subject.now.typ c.args.subject.now.desc c.args.subject.now.callout
      (Some c.in_ok-line.line.now)) c.as_bytes.ensures.value c.in_ok-line.ensures;
  path = c.in-Ok.ensures.path;
  piped = c.in-Ok.ensures.piped;
  words = words_of_calls _ (looked_up c.args.book.now c.args.key c.args.occasion.now.moment) _ _ _ c.in-Ok.ensures.words
      (λ wanted r h. seen_by c.args.book.now c.args.key c.args.occasion.now.moment wanted r (search rules));
  short = c.in-Ok.ensures.short;
}

pub returns-in-Err : goal.returns-in-Err
returns-in-Err c = inr (record {
  line = c.in_ok-line.line.now;
  chosen = subst (λ (o : List ℕ). IsChosen c.args.occasion.now.conf.now o c.args.subject.now.typ c.args.subject.now.desc c.args.subject.now.callout
      (Some c.in_ok-line.line.now)) c.as_bytes.ensures.value c.in_ok-line.ensures;
  fault = c.in-Err.field-0;
  fails = fails_of_calls _ (looked_up c.args.book.now c.args.key c.args.occasion.now.moment) _ _ _ c.in-Err.ensures.err
      (λ wanted r h. seen_by c.args.book.now c.args.key c.args.occasion.now.moment wanted r (search rules));
})
