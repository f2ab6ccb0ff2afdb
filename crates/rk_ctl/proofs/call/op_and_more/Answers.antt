use Rattle.std.proofs.Common.{sym, ◌∙◌, arith}
use Rattle.std.specs.Prelude.{string_bytes}
use Rattle.rk_ctl.proofs.OpOfWords.{no_words, op_first, flag_first, one_first, two_first, last_first}
use Rattle.rk_ctl.proofs.call.op_and_more.Goals as goal

pub returns-in-Some-op_named-clause-found : goal.returns-in-Some-op_named-clause-found
returns-in-Some-op_named-clause-found c =
    op_first string_bytes _ c.in-Some.word.now _ _ c.in-Some.ensures.cases.0 c.as_str.ensures.value c.in-Some-op_named.op c.in-Some-op_named.ensures.said
    ∙ sym c.each.invariant.found

pub returns-then-is_flag_with_value-clause-found : goal.returns-then-is_flag_with_value-clause-found
returns-then-is_flag_with_value-clause-found c =
    flag_first string_bytes _ c.in-Some.word.now _ _ c.in-Some.ensures.cases.0 c.as_str.ensures.value c.in_default-op_named.ensures.said
    _ c.as_str-in-Some.ensures.value (sym c.is_flag_with_value.ensures ∙ c.if-is_flag_with_value.true)
    ∙ sym c.each.invariant.found

pub each-preserved-then-is_alone : goal.each-preserved-then-is_alone
each-preserved-then-is_alone c =
    let same = one_first string_bytes _ c.in-Some.word.now _ _ c.in-Some.ensures.cases.0 c.as_str.ensures.value c.in_default-op_named.ensures.said
    _ c.as_str-in-Some.ensures.value (sym c.is_flag_with_value.ensures ∙ c.if-is_flag_with_value.false)
    _ c.as_str-in-Some-2.ensures.value (sym c.is_alone.ensures ∙ c.if-is_alone.true) in
    record { found = c.each.invariant.found ∙ same; shorter = grind (arith, c.each.invariant.shorter, c.in-Some.ensures.cases) }

pub returns-in_err-_value-clause-found : goal.returns-in_err-_value-clause-found
returns-in_err-_value-clause-found c =
    rw c.from_residual.ensures (sym (c.each.invariant.found ∙ last_first string_bytes _ c.in-Some.word.now _ _ c.in-Some.ensures.cases.0
    c.as_str.ensures.value c.in_default-op_named.ensures.said c.in_err-_value.ensures.cases))

pub each-preserved : goal.each-preserved
each-preserved c =
    let same = two_first string_bytes _ c.in-Some.word.now _ _ c.in-Some.ensures.cases.0 c.as_str.ensures.value c.in_default-op_named.ensures.said
    _ c.as_str-in-Some.ensures.value (sym c.is_flag_with_value.ensures ∙ c.if-is_flag_with_value.false)
    _ c.as_str-in-Some-2.ensures.value (sym c.is_alone.ensures ∙ c.if-is_alone.false) c.in_ok-_value._value.now _ c.in_ok-_value.ensures.cases.0 in
    record { found = c.each.invariant.found ∙ same; shorter = grind (arith, c.each.invariant.shorter, c.in-Some.ensures.cases, c.in_ok-_value.ensures.cases) }

pub returns-clause-found : goal.returns-clause-found
returns-clause-found c = sym (c.each.invariant.found ∙ no_words string_bytes _ c.in_default.ensures.cases)
