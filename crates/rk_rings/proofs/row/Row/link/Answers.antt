use Rattle.rk_rings.proofs.Words.{◌∙◌, ap, sym, ◌≡◌, subst, arith, ◌≤◌, not, get, len, insert, contains_key, nat_eq, kept_where, AreByName, AreSerials}
use Rattle.rk_rings.proofs.Links.{serials-insert, serials_within, kept_within, room_left, still_new, is_serial}
use Rattle.rk_rings.proofs.row.Row.link.Goals as goal

pub insert-requires-clause-new : goal.insert-requires-clause-new
insert-requires-clause-new c =
    ap (λ m. get m c.get-2.result) c.give_way.ensures.links
    ∙ still_new _ c.self.inside.links.facts c.get-2.result (ap (contains_key c.self.inside.links.facts) (c.get-2.ensures.number ∙ sym c.get.ensures.number) ∙
    sym c.contains.ensures ∙ c.if-contains.false)

pub insert-requires-clause-room : goal.insert-requires-clause-room
insert-requires-clause-room c =
    let most : len c.self.inside.links.facts ≤ 256 = omega (arith, c.self.invariant.links.0) in
    room_left c.args.self.now c.args.name (len c.give_way.new.links.facts) c.give_way.new.links.room (sym c.is_full.ensures ∙ c.if-is_full.false)
    (rw (← c.self.view_is) most)
    (ap len c.give_way.ensures.links ∙ ap (λ r. len (kept_where (λ j m. not (nat_eq m c.args.name)) r.links)) c.self.view_is) (c.give_way.ensures.places ∙
    c.self.invariant.links.0)

pub invariant_of-self : goal.invariant_of-self
invariant_of-self c =
    let put : c.insert.new.self.facts ≡ insert c.give_way.new.links.facts c.args.key c.args.name =
    c.insert.ensures.facts ∙ ap (λ k. insert c.give_way.new.links.facts k c.args.name) c.get-2.ensures.number in
    record {
      links = (
        c.insert.ensures.places ∙ c.give_way.ensures.places ∙ c.self.invariant.links.0,
        subst AreSerials (sym c.insert.ensures.facts)
            (serials-insert _ _ _ (subst AreSerials (sym c.give_way.ensures.links) (serials_within _ _ (kept_within _ _) c.self.invariant.links.1))
            (rw c.get-2.ensures.number (is_serial _ c.get-2.ensures.range.0 c.get-2.ensures.range.1))),
      );
      by_name = subst (λ m. AreByName m c.give_way.new.by_name.facts) (sym put) c.give_way.ensures.index;
    }
