-- What is kept of an output.
use Rattle.std.proofs.Common.{◌≡◌, ◌+◌, ℕ, Bool, true, false, List, [], ◌∷◌, ◌++◌, length, refl, sym, ap, ◌∙◌, append_assoc, append-nil, arith}
use Rattle.std.specs.Prelude.{Option, Some, None, nat_lt, if◌then◌else◌}
use Rattle.std.specs.List.{concat, fold}
use Rattle.std.proofs.lemmas.Bool.Decides.{nat_tests}
use Rattle.std.proofs.lemmas.List.{length-append}
use Rattle.rk_devices.specs.Outputs.{kept_of, put_out}

-- bytes, or none of them where they are too many
abbrev fit : List ℕ → Option (List ℕ)
fit bytes = if nat_lt 32767 (length bytes) then None else Some bytes

-- more than too many are too many
too_many : (a b : List ℕ) → nat_lt 32767 (length a) ≡ true → fit (a ++ b) ≡ None
too_many a b many =
    let both : length (a ++ b) ≡ length a + length b = length-append a b in
    let longer : nat_lt 32767 (length (a ++ b)) ≡ true = grind (arith, nat_tests) in ap (λ t. if t then None else Some (a ++ b)) longer

-- one piece, and then another
put_twice : (o : Option (List ℕ)) (a b : List ℕ) → put_out (put_out o a) b ≡ put_out o (a ++ b)
put_twice None a b = refl
put_twice (Some bytes) a b = by_test (nat_lt 32767 (length (bytes ++ a))) refl
  where
    by_test : (t : Bool) → nat_lt 32767 (length (bytes ++ a)) ≡ t → put_out (if t then None else Some (bytes ++ a)) b ≡ fit (bytes ++ (a ++ b))
    by_test true many = sym (ap fit (sym (append_assoc bytes a b)) ∙ too_many (bytes ++ a) b many)
    by_test false few = ap fit (append_assoc bytes a b)

-- pieces behind some bytes
kept_behind : (bytes : List ℕ) (pieces : List (List ℕ)) → fold put_out (put_out (Some []) bytes) pieces ≡ put_out (Some []) (bytes ++ concat pieces)
kept_behind bytes [] = ap (put_out (Some [])) (sym (append-nil bytes))
kept_behind bytes (piece ∷ pieces) =
    ap (λ o. fold put_out o pieces) (put_twice (Some []) bytes piece) ∙ kept_behind (bytes ++ piece) pieces
    ∙ ap (put_out (Some [])) (append_assoc bytes piece (concat pieces))

-- all pieces are kept as one
pub kept_whole : (pieces : List (List ℕ)) → kept_of (Some []) pieces ≡ put_out (Some []) (concat pieces)
kept_whole pieces = kept_behind [] pieces
