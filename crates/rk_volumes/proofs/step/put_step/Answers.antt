use Rattle.rk_volumes.proofs.Words.{◌++◌, ap, ℕ, List, ◌∙◌, to_be_bytes, w64, Recorded}
use Rattle.rk_volumes.proofs.Steps.{event_frame, answer_frame, step_put}
use Rattle.rk_volumes.proofs.Written.{follows}
use Rattle.rk_volumes.proofs.step.put_step.Goals as goal

pub returns-clause-bytes : goal.returns-clause-bytes
returns-clause-bytes c =
    let moment = c.to_be_bytes.ensures ∙ ap (λ (s : Recorded). to_be_bytes w64 s.now) c.step.view_is in
    let now = c.in_ok-extend_from_slice.ensures.items ∙ ap (λ (x : List ℕ). c.args.out.now.items ++ x) moment in
    let event = c.in_ok-put_event.ensures.bytes ∙ ap (λ (s : Recorded). c.extend_from_slice.new.self.items ++ event_frame s) c.step.view_is in
    follows c.put_answer.result _ _ c.put_answer.ensures.bytes (λ last. step_put _ _ _ _ c.args.step.now now event
    (last ∙ ap (λ (s : Recorded). c.put_event.new.out.items ++ answer_frame s) c.step.view_is))
