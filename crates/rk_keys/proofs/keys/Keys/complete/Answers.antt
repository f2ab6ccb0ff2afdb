use Rattle.rk_keys.proofs.Words.{Known, concluded}
use Rattle.rk_keys.proofs.Held.{held_changed, concluded_keeps}
use Rattle.rk_keys.proofs.Indexed.{index_changed}
use Rattle.rk_keys.proofs.UserCounts.{counts_changed, concluded_keeps_owner}
use Rattle.rk_keys.proofs.keys.Keys.complete.Goals as goal

pub invariant_of-self : goal.invariant_of-self
invariant_of-self c =
    let known : Known = record { keys = c.self.inside.facts.facts; numbers = c.self.inside.numbers.facts; serials = c.self.inside.serials } in
    rw c.change.ensures.facts record {
      held = held_changed known c.get.result (concluded c.args.condition c.args.expiry) (concluded_keeps c.args.condition c.args.expiry) c.self.invariant.held;
      index = index_changed c.self.inside.seed known.keys known.numbers c.self.inside.by_name.facts c.self.invariant.index c.get.result
          (concluded c.args.condition c.args.expiry) (concluded_keeps c.args.condition c.args.expiry);
      counts = counts_changed known.keys c.self.inside.counts.facts c.get.result (concluded c.args.condition c.args.expiry)
          (concluded_keeps_owner c.args.condition c.args.expiry) c.self.invariant.counts;
    }
