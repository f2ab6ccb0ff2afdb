use Rattle.std.proofs.Common.{string_bytes, sym, ◌∙◌}
use Rattle.rk_options.proofs.OptionsOfWords.{no_words, in_one_word, in_a_flag, in_two_words, in_no_words}
use Rattle.rk_options.proofs.options.first_option.Goals as goal

pub returns-in_default-clause-option : goal.returns-in_default-clause-option
returns-in_default-clause-option c = no_words string_bytes _ _ c.in_default.ensures.cases

pub returns-in-Some-split_once-clause-option : goal.returns-in-Some-split_once-clause-option
returns-in-Some-split_once-clause-option c =
    in_one_word string_bytes _ _ c.in-Some.word.now _ _ c.in-Some-split_once.name c.in-Some-split_once.value
    c.in-Some.ensures.cases.0 c.as_str-name.ensures.value c.in-Some-split_once.ensures.cases

pub returns-then-is_among-clause-option : goal.returns-then-is_among-clause-option
returns-then-is_among-clause-option c =
    in_a_flag string_bytes _ _ c.in-Some.word.now _ _ c.in-Some.ensures.cases.0 c.as_str-name.ensures.value c.in_default-split_once.ensures.cases
    (sym c.is_among.ensures ∙ c.if-is_among.true)

pub returns-in_err-value-clause-option : goal.returns-in_err-value-clause-option
returns-in_err-value-clause-option c =
    rw c.from_residual.ensures
    (in_no_words string_bytes _ _ c.in-Some.word.now _ _ c.in-Some.ensures.cases.0 c.in_err-value.ensures.cases c.as_str-name.ensures.value
    c.in_default-split_once.ensures.cases (sym c.is_among.ensures ∙ c.if-is_among.false))

pub returns-clause-option : goal.returns-clause-option
returns-clause-option c =
    in_two_words string_bytes _ _ c.in-Some.word.now _ c.in_ok-value.value.now _ _ _ c.in-Some.ensures.cases.0 c.in_ok-value.ensures.cases.0
    c.as_str-name.ensures.value c.as_str.ensures.value c.in_default-split_once.ensures.cases (sym c.is_among.ensures ∙ c.if-is_among.false)
