-- A volume that is tied to the one before it.
use Rattle.std.proofs.Common.{◌≡◌, ℕ, Bool, List, [], ◌∷◌, Option, subst}
use Rattle.std.specs.Prelude.{unwrap_or}
use Rattle.rk_volumes.specs.declared.head.Head.{Head}
use Rattle.rk_volumes.specs.declared.seal.Seal.{Seal}
use Rattle.rk_daemon.specs.Binding.{Act, Awaited, Binds, Settled, Written, bound}
use Rattle.rk_daemon.specs.Story.{Does, and_then}
use Rattle.rk_daemon.proofs.Stories.{more}

abbrev Told : Type 0
Told = Option (List Act)

-- the volume before was waited for, this one was written, and then it was done with
pub bound_it : (run : List ℕ) (closing : Bool) (h : Head) (previous last : List ℕ) (sum : Option (List ℕ)) (s t u v : Told)
    → t ≡ and_then s (Awaited h.index previous ∷ [])
    → u ≡ and_then t (Written (record { run = run; closing = closing; previous = previous }) h sum ∷ [])
    → v ≡ and_then u (Settled h.index last ∷ []) → last ≡ unwrap_or sum previous → Does (Binds run closing h) s v
bound_it run closing h previous last sum s t u v e f g is =
    let seal : Seal = record { run = run; closing = closing; previous = previous } in
    let end : List ℕ = unwrap_or sum previous in
    let settled : v ≡ and_then u (Settled h.index end ∷ []) = subst (λ l. v ≡ and_then u (Settled h.index l ∷ [])) is g in (
      Awaited h.index previous ∷ Written seal h sum ∷ Settled h.index end ∷ [],
      more s t v (Awaited h.index previous ∷ []) (Written seal h sum ∷ Settled h.index end ∷ []) e
          (more t u v (Written seal h sum ∷ []) (Settled h.index end ∷ []) f settled),
      bound previous sum,
    )
