-- Eight bytes are those of the number that they are.
use Rattle.rk_keys.proofs.Words.{◌≡◌, ◌<◌, ℕ, List, length, get_or, ap, ◌∙◌, rules}
use Rattle.std.proofs.Common.{arith}
use Rattle.std.proofs.lemmas.Nat.{le_bytes_8}
use Rattle.std.specs.Hash.FoldHasher as folding
use Rattle.std.specs.Int.{w64, from_le_bytes}
unfoldable use Rattle.std.specs.Hash.{le_bytes}
use Rattle.rk_keys.proofs.naming.feed_word.Goals as goal

eight_again : (bytes word : List ℕ) (n : ℕ) → length bytes ≡ 8 → word ≡ bytes → ((i : ℕ) → get_or bytes i 0 < 256) → n ≡ from_le_bytes w64 word → le_bytes 8 n ≡ bytes
unfolding le_bytes
eight_again bytes word n len same fits is = le_bytes_8 bytes n len fits (is ∙ ap (from_le_bytes w64) same)

pub returns-in-Ok : goal.returns-in-Ok
returns-in-Ok c =
    let len : length c.args.bytes.now ≡ 8 = search rules in
    let same : c.in-Ok.word ≡ c.args.bytes.now = search rules in
    let again = eight_again c.args.bytes.now c.in-Ok.word c.from_le_bytes.result len same (λ i. omega (arith, c.type_inv.bytes i)) c.from_le_bytes.ensures in
    c.write_u64.ensures ∙ ap (folding.write c.args.hasher.now) again
