use Rattle.rk_rings.proofs.Words.{◌∙◌, ap, ◌≡◌, arith, length, fold, len, empty, len-entries, named, turned_more}
use Rattle.rk_rings.proofs.Placed.{len_named, put_back_all}
use Rattle.rk_rings.proofs.by_name.ByName.make_way.Goals as goal

pub put_back-requires-clause-room : goal.put_back-requires-clause-room
put_back-requires-clause-room c =
    omega (arith, c.self.invariant, c.clear.ensures.capacity, c.requires.few, len-entries c.args.links.now.facts, ap length c.entries.ensures)

pub returns-clause-facts : goal.returns-clause-facts
returns-clause-facts c =
    c.put_back.ensures.facts ∙ ap (fold turned_more empty) c.entries.ensures
    ∙ put_back_all c.args.links.now.facts c.args.self.now.facts c.requires.serials c.requires.same

pub invariant_of-self : goal.invariant_of-self
invariant_of-self c =
    let facts : len (named c.put_back.new.keys.entries) ≡ len c.args.self.now.facts = ap len (returns-clause-facts c) in
    omega (
      arith,
      c.self.invariant,
      c.clear.ensures.capacity,
      c.put_back.ensures.room,
      len-entries c.args.links.now.facts,
      ap length c.entries.ensures,
      c.requires.same.as_many,
      facts,
      len_named c.put_back.new.keys.entries,
    )

pub returns-clause-room : goal.returns-clause-room
returns-clause-room c =
    omega (
      arith,
      c.self.invariant,
      c.clear.ensures.capacity,
      c.put_back.ensures.room,
      c.requires.few,
      len-entries c.args.links.now.facts,
      ap length c.entries.ensures,
    )
