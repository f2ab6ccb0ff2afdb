use Rattle.std.proofs.Common.{◌≡◌, ℕ, Option, Some, None, arith, map, string_bytes}
use Rattle.std.specs.Prelude.{IfSome}
use Rattle.rk_preview.specs.Asked.{Asked}
use Rattle.reqkeyd.specs.Outcome.{asks_preview}
use Rattle.reqkeyd.proofs.run.run_words.Goals as goal

-- what is said of status 0 holds where the status is 1
of_failure : (asked : Option Asked) (status : ℕ) (P : Asked → Type 0) → status ≡ 1 → IfSome asked (λ a. status ≡ 0 → P a)
of_failure None status P e = tt
of_failure (Some a) status P e = λ z. absurd (omega (arith, e, z))

pub returns-in-Err-clause-shown : goal.returns-in-Err-clause-shown
returns-in-Err-clause-shown g c = of_failure (asks_preview (map string_bytes c.args.words.now)) c.no_memory.result _ c.no_memory.ensures
