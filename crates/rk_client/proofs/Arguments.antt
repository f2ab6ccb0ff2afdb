-- REQUEST takes three arguments or four.
use Rattle.std.proofs.Common.{◌≢◌, ℕ, List, [], ◌∷◌, map, length, refl, arith}
use Rattle.rk_message.specs.declared.shape.Op.TheVariants as op
use Rattle.rk_client.specs.Arguments.{in_order}

-- without three or four arguments the fields of a REQUEST are not four
pub no_request : {A : Type 0} (view : A → List ℕ) (args : List A) → length args ≢ 3 → length args ≢ 4 → length (in_order op.Request (map view args)) ≢ 4
no_request view [] three four = λ e. omega (arith, e)
no_request view (t ∷ []) three four = λ e. omega (arith, e)
no_request view (t ∷ d ∷ []) three four = λ e. omega (arith, e)
no_request view (t ∷ d ∷ r ∷ []) three four = absurd (three refl)
no_request view (t ∷ d ∷ r ∷ c ∷ []) three four = absurd (four refl)
no_request view (t ∷ d ∷ r ∷ c ∷ x ∷ xs) three four = λ e. omega (arith, e)
