-- Keys that are described and tried, one after the other.
use Rattle.std.proofs.Common.{◌≡◌, ◌≤◌, ℕ, ◌+◌, ℤ, Bool, true, false, List, [], ◌∷◌, ◌++◌, Option, subst, arith}
use Rattle.rk_ctl.specs.Searching.{HasDescribed, HasSeen, HasSwept, HasTried, counted, further, onward, serial_at, started}

-- nothing is described yet
pub nothing_yet : (newest : ℕ) (w u : Option (List ℕ)) (keys : List ℤ) (text : List ℕ) → keys ≡ [] → text ≡ [] → HasDescribed newest w u 0 w u keys text
nothing_yet newest w u keys text k t = rw (k, t) started

-- one serial more
pub one_further : (newest n serial : ℕ) (w0 u0 w w' u u' : Option (List ℕ)) (keys keys' : List ℤ) (text text' : List ℕ)
    → HasDescribed newest w0 u0 n w u keys text → serial ≡ serial_at newest n → HasSeen w w' u u' serial keys keys' text text'
    → HasDescribed newest w0 u0 (n + 1) w' u' keys' text'
one_further newest n serial w0 u0 w w' u u' keys keys' text text' before is answered =
    further n w w' u u' keys keys' text text' before (subst (λ (s : ℕ). HasSeen w w' u u' s keys keys' text text') is answered)

-- one key more
pub one_tried : (w0 u0 w w' u u' : Option (List ℕ)) (keys keys' : List ℤ) (key : ℤ) (n n' : ℕ) (is_out : Bool) → HasSwept w0 u0 keys w u n
    → HasTried w w' u u' key is_out → keys' ≡ keys ++ key ∷ [] → n' ≡ counted n is_out → HasSwept w0 u0 keys' w' u' n'
one_tried w0 u0 w w' u u' keys keys' key n n' is_out before tried k c = rw (k, c) (onward keys key w w' u u' n is_out before tried)

-- which counts one at most
pub counted_most : (n : ℕ) (is_out : Bool) → counted n is_out ≤ n + 1
counted_most n true = omega arith
counted_most n false = omega arith
