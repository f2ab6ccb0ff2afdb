use Rattle.rk_keys.proofs.Words.{◌≡◌, ◌∙◌, ap, sym, Some, None, Known, Key}
use Rattle.std.specs.FinMap as map
use Rattle.rk_keys.proofs.Held.{held_without}
use Rattle.rk_keys.proofs.Indexed.{index_without, index_without_none}
use Rattle.rk_keys.proofs.UserCounts.{counts_without, counts_without_none}
use Rattle.rk_keys.proofs.keys.Keys.forget.Goals as goal
use Rattle.rk_keys.proofs.keys.Keys.forget.Goals.{in-Some, in_default}

pub invariant_of-self : goal.invariant_of-self
invariant_of-self c =
    let known : Known = record { keys = c.self.inside.facts.facts; numbers = c.self.inside.numbers.facts; serials = c.self.inside.serials } in
    rw (c.remove.ensures.facts, c.remove-2.ensures.facts, c.get-3.ensures.number, c.get-4.ensures.number) (elim c.match-get.branch [
      | in-Some w ↦
          let fact : Key = w.in-Some.fact.now in
          let there : map.get known.keys c.args.key ≡ Some fact = sym (w.in-Some.ensures ∙ ap (map.get known.keys) c.get.ensures.number) in
          rw w.self-inside-is record {
            held = held_without known c.args.key c.self.invariant.held;
            index = index_without c.self.inside.seed known.keys known.numbers c.self.inside.by_name.facts c.self.invariant.index c.args.key fact
                w.count_out.new.by_name.facts there (rw (← w.as_bytes-typ.ensures.bytes, ← w.as_bytes-description.ensures.bytes) w.count_out.ensures);
            counts = counts_without known.keys c.self.inside.counts.facts w.one_less.new.self.facts c.args.key fact c.self.invariant.counts there
                w.one_less.ensures.each;
          }
      | in_default w ↦
          let none : map.get known.keys c.args.key ≡ None = sym (w.in_default.ensures ∙ ap (map.get known.keys) c.get.ensures.number) in
          rw w.self-inside-is record {
            held = held_without known c.args.key c.self.invariant.held;
            index = index_without_none c.self.inside.seed known.keys known.numbers c.self.inside.by_name.facts c.self.invariant.index c.args.key none;
            counts = counts_without_none known.keys c.self.inside.counts.facts c.args.key c.self.invariant.counts none;
          }
    ])
