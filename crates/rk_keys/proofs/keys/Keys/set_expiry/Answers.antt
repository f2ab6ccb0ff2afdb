use Rattle.rk_keys.proofs.Words.{refl, Known, timed}
use Rattle.rk_keys.proofs.Held.{held_changed, timed_keeps}
use Rattle.rk_keys.proofs.Indexed.{index_changed}
use Rattle.rk_keys.proofs.UserCounts.{counts_changed}
use Rattle.rk_keys.proofs.keys.Keys.set_expiry.Goals as goal

pub invariant_of-self : goal.invariant_of-self
invariant_of-self c =
    let known : Known = record { keys = c.self.inside.facts.facts; numbers = c.self.inside.numbers.facts; serials = c.self.inside.serials } in
    rw c.change.ensures.facts record {
      held = held_changed known c.get.result (timed c.args.now c.args.seconds) (timed_keeps c.args.now c.args.seconds) c.self.invariant.held;
      index = index_changed c.self.inside.seed known.keys known.numbers c.self.inside.by_name.facts c.self.invariant.index c.get.result
          (timed c.args.now c.args.seconds) (timed_keeps c.args.now c.args.seconds);
      counts = counts_changed known.keys c.self.inside.counts.facts c.get.result (timed c.args.now c.args.seconds) (λ _. refl) c.self.invariant.counts;
    }
