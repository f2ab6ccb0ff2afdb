use Rattle.rk_volumes.proofs.Words.{◌++◌, ap, ℕ, List, ◌∙◌, [], ◌∷◌}
use Rattle.rk_volumes.proofs.Files.{head_put}
use Rattle.rk_volumes.proofs.Written.{where_done}
use Rattle.rk_volumes.proofs.head.Head.put.Goals as goal

pub returns-clause-bytes : goal.returns-clause-bytes
returns-clause-bytes c =
    let hall = c.in_ok-extend_from_slice-2.ensures.items ∙ ap (λ (n : ℕ). c.extend_from_slice.new.self.items ++ (n ∷ [])) c.number.ensures in
    let negative = c.in_ok-extend_from_slice-3.ensures.items ∙ ap (λ (x : List ℕ). c.extend_from_slice-2.new.self.items ++ x) c.to_be_bytes.ensures in
    let index = c.in_ok-extend_from_slice-4.ensures.items ∙ ap (λ (x : List ℕ). c.extend_from_slice-3.new.self.items ++ x) c.to_be_bytes-2.ensures in
    let before = c.in_ok-extend_from_slice-5.ensures.items ∙ ap (λ (x : List ℕ). c.extend_from_slice-4.new.self.items ++ x) c.to_be_bytes-3.ensures in
    where_done c.extend_from_slice-6.result _ _ _ _ c.extend_from_slice-6.ensures.items (λ count. head_put _ _ _ _ _ _ _ c.args.self.now c.args.count
    c.in_ok-extend_from_slice.ensures.items hall negative index before
    (count ∙ ap (λ (x : List ℕ). c.extend_from_slice-5.new.self.items ++ x) c.to_be_bytes-4.ensures))
