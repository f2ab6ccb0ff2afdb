use Rattle.rk_volumes.proofs.Words.{◌++◌, ap, ℕ, List, ◌∙◌, arith, sym, drop, to_be_bytes, w32}
use Rattle.rk_volumes.proofs.Fronts.{word_read}
use Rattle.rk_volumes.proofs.numbers.word.Goals as goal

pub returns : goal.returns
returns c =
    let bytes = c.args.bytes.now in
    word_read bytes (λ i. omega (arith, c.type_inv.bytes i)) (omega (arith, c.if-bytes-lt4.false))
    ∙ ap (λ (n : ℕ). to_be_bytes w32 n ++ drop 4 bytes) (sym c.get_u32-number.ensures.value)
    ∙ ap (λ (x : List ℕ). to_be_bytes w32 c.get_u32-number.result ++ x) (sym c.get_u32-number.ensures.rest)
