use Rattle.rk_rings.proofs.Words.{◌∙◌, ap, sym, subst, arith, ℕ, ◌≤◌, ◌+◌, length, ◌*◌, rules, len, places, AreCounted, AreSerials, Numbered, new_ring}
use Rattle.rk_rings.proofs.Words.{HaveEachNameOnce, AreUserRings}
use Rattle.std.proofs.lemmas.List.{length-map}
use Rattle.rk_rings.proofs.Made.{put_new, put_made, rows_made}
use Rattle.rk_rings.proofs.Counted.{counted_made}
use Rattle.rk_rings.proofs.rings.Rings.make.Goals as goal

pub insert_rows-requires-clause-new : goal.insert_rows-requires-clause-new
insert_rows-requires-clause-new c = put_new c.args.wanted.now c.in-Ok.rows.items c.args.self.now c.reserve.new.self.facts c.in-Ok.ensures
    (c.reserve.ensures.facts ∙ c.self.view_is) c.requires

pub returns-clause-ok : goal.returns-clause-ok
returns-clause-ok c = put_made c.args.wanted.now c.in-Ok.rows.items c.args.self.now c.reserve.new.self.facts _ c.in-Ok.ensures (c.reserve.ensures.facts ∙
    c.self.view_is) c.insert_rows.ensures.facts

pub invariant_of-self-2 : goal.invariant_of-self-2
invariant_of-self-2 c =
    let enough : 256 * (len c.args.self.now + length c.args.wanted.now) ≤ places c.reserve-2.new.self =
    omega (
      arith,
      c.in-Ok-reserve.ensures.ok,
      c.len-2.ensures,
      ap len (c.reserve.ensures.facts ∙ c.self.view_is),
      c.len-3.ensures,
      c.in-Ok.rows.ok.0,
      ap length c.in-Ok.ensures,
      length-map {B = ℕ × Numbered} c.args.wanted.now (λ w. (w.serial, new_ring w)),
    ) in
    record {
      rows = rows_made c.args.wanted.now c.args.self.now c.insert_rows.new.table.facts (returns-clause-ok c) c.requires (search rules)
          (c.insert_rows.ensures.serials (subst AreSerials (sym c.reserve.ensures.facts) c.self.invariant.rows.1))
          (subst HaveEachNameOnce c.self.view_is c.self.invariant.rows.2);
      users = c.insert_rows.ensures.users (subst (λ m. AreUserRings m c.reserve-else-is_err.new.self.facts) (sym c.reserve.ensures.facts)
          (subst (AreUserRings c.self.inside.rows.facts) (sym c.reserve-else-is_err.ensures.facts) c.self.invariant.users));
      counted = counted_made c.args.wanted.now c.args.self.now c.insert_rows.new.table.facts c.self.inside.counts c.reserve-2.new.self (returns-clause-ok c)
          c.requires (subst (λ n. AreCounted n c.self.inside.counts) c.self.view_is c.self.invariant.counted) c.reserve-2.ensures.facts enough;
    }
