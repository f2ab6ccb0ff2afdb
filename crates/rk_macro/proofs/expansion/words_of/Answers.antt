use Rattle.std.proofs.Common.{◌≡◌, ◌≤◌, ◌∷◌, ◌++◌, [], ◌+◌, List, ℕ, length, take, true, subst, sym, ap, ◌∙◌, inr, arith}
use Rattle.std.specs.Prelude.{is_ok, not}
use Rattle.std.specs.Fn.{FnReturnsAt}
use Rattle.rk_macro.specs.declared.fault.ExpandFault.TheVariants.{NoMemory}
use Rattle.rk_macro.specs.Lookup.{answers_of}
use Rattle.rk_macro.specs.Expansion.{AreWords, Fails, size_of}
use Rattle.rk_macro.proofs.Failures.{fails_here, made_more, size_more}
use Rattle.rk_macro.proofs.expansion.words_of.Goals as goal

pub returns-then-is_err-clause-err : goal.returns-then-is_err-clause-err
returns-then-is_err-clause-err g c =
    let look = answers_of (FnReturnsAt g.F.Fn c.args.lookup.now) in
    let i = c.loop-argument in
    let room : size_of i.words.items + (length c.in-Ok.word + 1) ≤ 65536 = omega (arith, c.in-Ok.ensures.short) in
    fails_here look c.args.subject.now c.args.arguments.now i.words.items i.argument-index c.argument-item.result NoMemory c.loop-argument-test.true c.argument-item.is
    i.invariant.made (omega arith) (inr (c.in-Ok.word, c.in-Ok.ensures.ok, room))

pub returns-in-Err-clause-err : goal.returns-in-Err-clause-err
returns-in-Err-clause-err g c =
    let look = answers_of (FnReturnsAt g.F.Fn c.args.lookup.now) in
    let i = c.loop-argument in
    let P : ℕ → Type 0 = λ used. Fails look c.args.subject.now c.argument-item.result used c.in-Err.fault in
    fails_here look c.args.subject.now c.args.arguments.now i.words.items i.argument-index c.argument-item.result c.in-Err.fault c.loop-argument-test.true c.argument-item.is
    i.invariant.made (omega arith) (subst P i.invariant.counted c.in-Err.ensures.err)

pub loop-argument-preserved : goal.loop-argument-preserved
loop-argument-preserved g c =
    let look = answers_of (FnReturnsAt g.F.Fn c.args.lookup.now) in
    let i = c.loop-argument in
    let pushed : is_ok c.push.result ≡ true = c.is_err.ensures.negation ∙ ap not c.if-is_err.false in
    let items : c.push.new.self.items ≡ i.words.items ++ c.in-Ok.word ∷ [] = rw pushed at c.push.ensures.items in
    let made = made_more look c.args.subject.now c.args.arguments.now i.words.items i.argument-index c.argument-item.result c.in-Ok.word c.loop-argument-test.true c.argument-item.is i.invariant.made c.in-Ok.ensures.ok in
    let P : List (List ℕ) → Type 0 = λ words. AreWords look c.args.subject.now (take (i.argument-index + 1) c.args.arguments.now) words in
    let len : length c.as_bytes.result.now ≡ length c.in-Ok.word = ap length c.as_bytes.ensures.bytes in
    let size : size_of c.push.new.self.items ≡ size_of i.words.items + (length c.in-Ok.word + 1) = ap size_of items ∙ size_more i.words.items c.in-Ok.word in
    record {
      made = subst P (sym items) made;
      counted = omega arith;
      room = omega (arith, c.in-Ok.ensures.short);
    }
