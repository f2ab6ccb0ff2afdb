use Rattle.rk_volumes.proofs.Words.{Holds256, ◌++◌, ap, ◌≡◌, ℕ, List, length, ◌∙◌, sym, [], take, subst, take_all, Appends, flat_map, title, head_bytes}
use Rattle.rk_volumes.proofs.Words.{step_bytes, IsStep, seal_bytes, sealed_title}
use Rattle.rk_volumes.proofs.Files.{take_step, all_snoc, appended, step_more}
use Rattle.rk_volumes.proofs.Filed.{lead, no_steps, none_each, filed_written}
use Rattle.rk_volumes.proofs.seal.Seal.store.Goals as goal

pub loop-step-init : goal.loop-step-init
loop-step-init g c =
    let steps = c.args.steps.now in
    let before = lead c.args.self.now c.args.head.now (length steps) in
    let text = c.in_ok-put-2.ensures.bytes ∙ ap (λ (x : List ℕ). x ++ (title ++ head_bytes c.args.head.now (length steps))) (c.in_ok-put.ensures.bytes
    ∙ ap (λ (x : List ℕ). x ++ (sealed_title ++ seal_bytes c.args.self.now)) c.new-text.ensures.items) in
    let none = sym (no_steps before steps) in
    record {
      seal = c.in_ok-put.ensures.is;
      head = c.in_ok-put-2.ensures.is;
      each = none_each steps;
      bytes = subst (Appends (g.W.Write.contents c.args.writer.now) (g.W.Write.contents c.write_all.new.self)) (c.deref.ensures.value ∙ text ∙ none)
          c.in_ok-write_all.ensures.bytes;
      sum = subst (Holds256 c.update.new.self) (c.as_slice.ensures.value ∙ text ∙ none) (c.update.ensures [] c.new-hasher.ensures);
    }

pub loop-step-preserved : goal.loop-step-preserved
loop-step-preserved g c =
    let steps = c.args.steps.now in
    let i = c.loop-step.step-index in
    let s = c.step-item.result in
    let one = take_step steps i s c.loop-step-test.true c.step-item.is in
    let before = lead c.args.self.now c.args.head.now (length steps) ++ flat_map step_bytes (take i steps) in
    let text = c.in_ok-put_step.ensures.bytes ∙ ap (λ (x : List ℕ). x ++ step_bytes s) c.clear.ensures.items in
    let more = λ (x : List ℕ) (is : x ≡ step_bytes s). step_more (lead c.args.self.now c.args.head.now (length steps)) steps i s x is
    c.loop-step-test.true c.step-item.is in
    let written = c.deref-in-loop-step.ensures.value ∙ text in
    let hashed = c.as_slice-in-loop-step.ensures.value ∙ text in
    record {
      seal = c.loop-step.invariant.seal;
      head = c.loop-step.invariant.head;
      each = rw one (all_snoc IsStep (take i steps) s c.loop-step.invariant.each c.in_ok-put_step.ensures.is);
      bytes = subst (Appends (g.W.Write.contents c.args.writer.now) (g.W.Write.contents c.write_all-in-loop-step.new.self))
          (more c.deref-in-loop-step.result.now written)
          (appended (g.W.Write.contents c.args.writer.now) (g.W.Write.contents c.loop-step.writer) (g.W.Write.contents c.write_all-in-loop-step.new.self)
          before c.deref-in-loop-step.result.now c.loop-step.invariant.bytes c.in_ok-write_all-2.ensures.bytes);
      sum = subst (Holds256 c.update-in-loop-step.new.self) (more c.as_slice-in-loop-step.result.now hashed)
          (c.update-in-loop-step.ensures before c.loop-step.invariant.sum);
    }

pub returns : goal.returns
returns g c =
    let all = take_all c.loop-step.step-index c.args.steps.now c.loop-step-test.false in
    filed_written (g.W.Write.contents c.args.writer.now) (g.W.Write.contents c.loop-step.writer) _ c.args.self.now c.args.head.now c.args.steps.now _ _ all
    c.loop-step.invariant.seal c.loop-step.invariant.head c.loop-step.invariant.each c.loop-step.invariant.bytes
    (c.finalize-sum.ensures _ c.loop-step.invariant.sum) c.in_ok-write_all-3.ensures.bytes
