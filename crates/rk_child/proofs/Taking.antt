-- What is held of a stream.
use Rattle.std.proofs.Common.{◌≡◌, ℕ, suc, ◌<◌, ◌+◌, List, [], ◌++◌, length, refl, ap, arith}
use Rattle.std.proofs.lemmas.List.{length-append}
use Rattle.rk_frame.specs.Framing.{frame}
use Rattle.rk_frame.specs.Streams.{IsPartial, TakesBody}

-- a body that is taken leaves fewer bytes
pub takes_fewer : (body old new : List ℕ) → TakesBody body old new → length new < length old
takes_fewer body old new takes =
    let e : length old ≡ suc (suc (suc (suc (length (body ++ new))))) = ap length takes.front in
    let f : length (body ++ new) ≡ length body + length new = length-append body new in
    omega (arith, e, f)

-- no bytes have no frame
pub nothing_held : IsPartial []
nothing_held = (λ body more is e. absurd (none body more e), refl)
  where
    none : (body more : List ℕ) → [] ≡ frame body ++ more → ⊥
    none body more e = let f : 0 ≡ suc (suc (suc (suc (length (body ++ more))))) = ap length e in omega (arith, f)
