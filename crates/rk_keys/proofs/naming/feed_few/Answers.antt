-- Four bytes are those of the number that they are.
use Rattle.rk_keys.proofs.Words.{◌≡◌, ◌<◌, ℕ, List, length, get_or, ap, ◌∙◌, rules}
use Rattle.std.proofs.Common.{arith}
use Rattle.std.proofs.lemmas.Nat.{le_bytes_4}
use Rattle.std.specs.Hash.FoldHasher as folding
use Rattle.std.specs.Int.{w32, from_le_bytes}
unfoldable use Rattle.std.specs.Hash.{le_bytes}
use Rattle.rk_keys.proofs.naming.feed_few.Goals as goal

four_again : (bytes word : List ℕ) (n : ℕ) → length bytes ≡ 4 → word ≡ bytes → ((i : ℕ) → get_or bytes i 0 < 256) → n ≡ from_le_bytes w32 word → le_bytes 4 n ≡ bytes
unfolding le_bytes
four_again bytes word n len same fits is = le_bytes_4 bytes n len fits (is ∙ ap (from_le_bytes w32) same)

pub returns-in-Ok : goal.returns-in-Ok
returns-in-Ok c =
    let len : length c.args.bytes.now ≡ 4 = search rules in
    let same : c.in-Ok.word ≡ c.args.bytes.now = search rules in
    let again = four_again c.args.bytes.now c.in-Ok.word c.from_le_bytes.result len same (λ i. omega (arith, c.type_inv.bytes i)) c.from_le_bytes.ensures in
    c.write_u32.ensures ∙ ap (folding.write c.args.hasher.now) again
