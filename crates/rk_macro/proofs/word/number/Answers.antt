use Rattle.std.proofs.Common.{◌≡◌, ◌∙◌, true, sym, subst, List, ℕ, arith}
use Rattle.rk_text.specs.Text.{is_text}
use Rattle.rk_macro.proofs.Texts.{decimal_text}
use Rattle.rk_macro.proofs.word.number.Goals as goal

pub copied-requires-clause-text : goal.copied-requires-clause-text
copied-requires-clause-text c =
    let P : List ℕ → Type 0 = λ bytes. is_text bytes ≡ true in
    subst P (sym (c.as_bytes.ensures.value ∙ c.format.ensures.text)) (decimal_text c.args.number (omega arith))
