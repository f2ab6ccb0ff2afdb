use Rattle.rk_volumes.proofs.Words.{◌++◌, ap, ℕ, List, ◌∙◌, arith, sym, drop, to_be_bytes, w64}
use Rattle.rk_volumes.proofs.Fronts.{long_read}
use Rattle.rk_volumes.proofs.numbers.long.Goals as goal

pub returns : goal.returns
returns c =
    let bytes = c.args.bytes.now in
    long_read bytes (λ i. omega (arith, c.type_inv.bytes i)) (omega (arith, c.if-bytes-lt8.false))
    ∙ ap (λ (n : ℕ). to_be_bytes w64 n ++ drop 8 bytes) (sym c.get_u64-number.ensures.value)
    ∙ ap (λ (x : List ℕ). to_be_bytes w64 c.get_u64-number.result ++ x) (sym c.get_u64-number.ensures.rest)
