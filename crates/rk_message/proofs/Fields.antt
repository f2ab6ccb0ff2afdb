-- A field that is read is the field that was written, and what was written is read again.
use Rattle.rk_message.proofs.Words.{◌≡◌, ap, refl, ℕ, sym, List, arith, false, ◌∷◌, Option, Some, None, Ok, Err, subst, length, [], cond, suc, ◌<◌, ltb, ◌++◌}
use Rattle.rk_message.proofs.Words.{zero, ◌^◌, ◌≤◌, take, drop, ltb-false, le-ltb, take_at, drop_at, take-append-drop, length-append, length-take, w32, w16}
use Rattle.rk_message.proofs.Words.{to_be_bytes, cast_signed, cast_unsigned, Errno, number_at, unless, value_at, block_at, checked_at, Value, U8, U32, Kind}
use Rattle.rk_message.proofs.Words.{I32, Blob, Maybe, IsValue, Byte, Word, Signed, Block, Optional, IsBlock, block, spelled, Short, Bad}
use Rattle.std.proofs.lemmas.Int.{of_z-to_z, to_z-of_z}
use Rattle.std.proofs.Math.Facts.{Fits-of_z, Fits-of_lt, sfits_to_z}
use Rattle.rk_names.specs.declared.errors.Errno.TheVariants.{Einval}
use Rattle.rk_message.proofs.Numbers.{IsBytes, IsBytes-drop, IsBytes-rest, bind_ok, guard_ok, passed_ok, ok_is, Takes, Takes-then, wide16, wide32, number_takes, number_again}

block_takes : (bytes text rest : List ℕ) → IsBytes bytes → block_at bytes ≡ Ok (text, rest) → Takes bytes (block text) rest × (length text < 2 ^ 16)
unfolding block_at
block_takes bytes text rest fits e =
    let b = bind_ok (number_at w16 bytes) (λ n. cond (ltb (length n.1) n.0) (Err Short) (Ok (take n.0 n.1, drop n.0 n.1))) (text, rest) e in
    let n = b.0 in
    let t = number_takes w16 (2 ^ 16) wide16 bytes n.0 n.1 fits b.1 in
    let g = guard_ok (ltb (length n.1) n.0) Short (take n.0 n.1, drop n.0 n.1) (text, rest) b.2 in
    let long : n.0 ≤ length n.1 = ltb-false _ _ g.0 in
    let len : length (take n.0 n.1) ≡ n.0 = omega (arith, length-take n.0 n.1) in
    let second : Takes n.1 (take n.0 n.1) (drop n.0 n.1) = record { parts = sym (take-append-drop n.0 n.1); rest_fits = IsBytes-drop n.0 n.1 t.0.rest_fits } in
    let both = Takes-then bytes (to_be_bytes w16 n.0) n.1 (take n.0 n.1) (drop n.0 n.1) t.0 second in
    let whole : Takes bytes (block (take n.0 n.1)) (drop n.0 n.1) = subst (λ (k : ℕ). Takes bytes (to_be_bytes w16 k ++ take n.0 n.1) (drop n.0 n.1)) (sym len) both in
    subst (λ (p : List ℕ × List ℕ). Takes bytes (block p.0) p.1 × (length p.0 < 2 ^ 16)) g.1 (whole, omega (arith, t.1))

block_again : (text rest : List ℕ) → length text < 2 ^ 16 → block_at (block text ++ rest) ≡ Ok (text, rest)
unfolding block_at
block_again text rest lt =
    let long : ltb (length (text ++ rest)) (length text) ≡ false = le-ltb _ _ (omega (arith, length-append text rest)) in
    rw (number_again w16 (2 ^ 16) wide16 (length text) (text ++ rest) lt, long, take_at text rest (length text) refl, drop_at text rest (length text) refl) refl

unless_ok : {A : Type 0} (o : Option Errno) (x y : A) → unless o x ≡ Ok y → (o ≡ None) × (x ≡ y)
unless_ok None x y e = (refl, cc)
unless_ok (Some d) x y e = absurd cc

checked_takes : (rule : List ℕ → Option Errno) (bytes : List ℕ) (x : List ℕ × List ℕ) → IsBytes bytes → checked_at rule bytes ≡ Ok x → Takes bytes (block x.0) x.1 × IsBlock rule x.0
unfolding checked_at
checked_takes rule bytes x fits e =
    let b = bind_ok (block_at bytes) (λ b. unless (rule b.0) b) x e in
    let u = unless_ok (rule b.0.0) b.0 x b.2 in
    let t = block_takes bytes b.0.0 b.0.1 fits b.1 in
    subst (λ (y : List ℕ × List ℕ). Takes bytes (block y.0) y.1 × IsBlock rule y.0) u.1 (t.0, (t.1, u.0))

checked_again : (rule : List ℕ → Option Errno) (text rest : List ℕ) → IsBlock rule text → checked_at rule (block text ++ rest) ≡ Ok (text, rest)
unfolding checked_at
checked_again rule text rest fits = rw (block_again text rest fits.0, fits.1) refl

abbrev Taken : Kind → List ℕ → Value × List ℕ → Type 0
Taken k bytes x = Takes bytes (spelled x.0) x.1 × IsValue k x.0

-- a value that is read was spelled by the bytes that it takes, and is of its kind
pub value_takes : (k : Kind) (bytes : List ℕ) (x : Value × List ℕ) → IsBytes bytes → value_at k bytes ≡ Ok x → Takes bytes (spelled x.0) x.1 × IsValue k x.0
unfolding value_at spelled
value_takes (Byte passes) [] x fits e = absurd cc
value_takes (Byte passes) (b ∷ rest) x fits e =
    let g = passed_ok (passes b) (Bad Einval) (U8 b, rest) x e in
    subst (Taken (Byte passes) (b ∷ rest)) g.1 (record { parts = refl; rest_fits = IsBytes-rest b rest fits }, (fits 0, g.0))
value_takes (Word passes) bytes x fits e =
    let b = bind_ok (number_at w32 bytes) (λ n. cond (passes n.0) (Ok (U32 n.0, n.1)) (Err (Bad Einval))) x e in
    let g = passed_ok (passes b.0.0) (Bad Einval) (U32 b.0.0, b.0.1) x b.2 in
    let t = number_takes w32 (2 ^ 32) wide32 bytes b.0.0 b.0.1 fits b.1 in
    subst (Taken (Word passes) bytes) g.1 (t.0, (t.1, g.0))
value_takes Signed bytes x fits e =
    let b = bind_ok (number_at w32 bytes) (λ n. Ok (I32 (cast_signed w32 n.0), n.1)) x e in
    let t = number_takes w32 (2 ^ 32) wide32 bytes b.0.0 b.0.1 fits b.1 in
    let back : cast_unsigned w32 (cast_signed w32 b.0.0) ≡ b.0.0 = of_z-to_z w32 b.0.0 t.1 in
    let first : Takes bytes (to_be_bytes w32 (cast_unsigned w32 (cast_signed w32 b.0.0))) b.0.1 = subst (λ (m : ℕ). Takes bytes (to_be_bytes w32 m) b.0.1) (sym back) t.0 in
    let made : Value × List ℕ = (I32 (cast_signed w32 b.0.0), b.0.1) in
    subst (Taken Signed bytes) (ok_is made x b.2) (first, sfits_to_z (Fits-of_lt t.1))
value_takes (Block rule) bytes x fits e =
    let b = bind_ok (checked_at rule bytes) (λ b. Ok (Blob b.0, b.1)) x e in
    let made : Value × List ℕ = (Blob b.0.0, b.0.1) in
    subst (Taken (Block rule) bytes) (ok_is made x b.2) (checked_takes rule bytes b.0 fits b.1)
value_takes (Optional rule) [] x fits e = absurd cc
value_takes (Optional rule) (zero ∷ rest) x fits e =
    let made : Value × List ℕ = (Maybe None, rest) in
    subst (Taken (Optional rule) (0 ∷ rest)) (ok_is made x e) (record { parts = refl; rest_fits = IsBytes-rest 0 rest fits }, tt)
value_takes (Optional rule) (suc zero ∷ rest) x fits e =
    let b = bind_ok (checked_at rule rest) (λ b. Ok (Maybe (Some b.0), b.1)) x e in
    let t = checked_takes rule rest b.0 (IsBytes-rest 1 rest fits) b.1 in
    let made : Value × List ℕ = (Maybe (Some b.0.0), b.0.1) in
    subst (Taken (Optional rule) (1 ∷ rest)) (ok_is made x b.2) (record { parts = ap (λ (w : List ℕ). 1 ∷ w) t.0.parts; rest_fits = t.0.rest_fits }, t.1)
value_takes (Optional rule) (suc (suc b) ∷ rest) x fits e = absurd cc

-- a value that was spelled is read again, up to where it ends
pub value_again : (k : Kind) (v : Value) (rest : List ℕ) → IsValue k v → value_at k (spelled v ++ rest) ≡ Ok (v, rest)
unfolding value_at spelled
value_again (Byte passes) (U8 n) rest fits = rw fits.1 refl
value_again (Word passes) (U32 n) rest fits = rw (number_again w32 (2 ^ 32) wide32 n rest fits.0, fits.1) refl
value_again Signed (I32 z) rest fits =
    let bits = Fits-of_z {w = w32} {z = z} fits in
    let below : cast_unsigned w32 z < 2 ^ 32 = omega (arith, bits) in
    rw (number_again w32 (2 ^ 32) wide32 (cast_unsigned w32 z) rest below, to_z-of_z w32 z fits) refl
value_again (Block rule) (Blob bytes) rest fits = rw (checked_again rule bytes rest fits) refl
value_again (Optional rule) (Maybe None) rest fits = refl
value_again (Optional rule) (Maybe (Some bytes)) rest fits = rw (checked_again rule bytes rest fits) refl
value_again _ _ rest fits = absurd fits
