use Rattle.std.proofs.Common.{◌≡◌, List, ℕ, true, sym, subst}
use Rattle.rk_text.specs.Text.{is_text}
use Rattle.rk_text.proofs.TextRules.{is_text-IsUtf8}
use Rattle.rk_conf.proofs.word.Word.as_str.Goals as goal

pub unreachable-requires : goal.unreachable-requires
unreachable-requires c =
    let P : List ℕ → Type 0 = λ bytes. is_text bytes ≡ true in
    c.in-Err.ensures.cases.0 (is_text-IsUtf8 c.deref.result.now (subst P (sym c.deref.ensures.value) c.self.invariant))
