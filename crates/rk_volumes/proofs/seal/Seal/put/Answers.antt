use Rattle.rk_volumes.proofs.Words.{◌++◌, ap, ℕ, ◌∙◌, [], ◌∷◌}
use Rattle.rk_volumes.proofs.Sealing.{seal_put}
use Rattle.rk_volumes.proofs.Written.{where_done}
use Rattle.rk_volumes.proofs.seal.Seal.put.Goals as goal

pub returns-clause-bytes : goal.returns-clause-bytes
returns-clause-bytes c =
    let mark = c.in_ok-extend_from_slice-2.ensures.items ∙ ap (λ (n : ℕ). c.extend_from_slice.new.self.items ++ (n ∷ [])) c.mark.ensures in
    where_done c.extend_from_slice-4.result _ _ _ _ c.extend_from_slice-4.ensures.items (λ last. seal_put _ _ _ _ _ c.args.self.now
    c.in_ok-extend_from_slice.ensures.items mark c.in_ok-extend_from_slice-3.ensures.items last)
