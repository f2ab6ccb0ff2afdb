use Rattle.rk_auth.proofs.Words.{◌∙◌, ap, sym, ◌≡◌, subst, refl, get, Some, None, changed_at, standing_at, home_at, AreChained, with_link, with_before}
use Rattle.rk_auth.proofs.Words.{changed_if, link_in}
use Rattle.rk_auth.proofs.Chained.{out_3, is_taken, out_standing, chained_taken, no_link}
use Rattle.rk_auth.proofs.chain.unlink.Goals as goal

at : (c : goal.After-change) → link_in (get c.args.slots.now.facts c.args.place) ≡ Some c.in-Some.link
at c = sym c.link_of.ensures ∙ c.in-Some.is

written : (c : goal.After-change) → c.change.new.self.facts
    ≡ out_3 c.args.slots.now.facts c.args.place c.in-Some.link c.requires.chained (at c) c.in-Some.link.before c.in-Some.link.next
written c =
    c.change.ensures.facts ∙ ap (changed_at c.args.place (with_link None))
    (c.set_before.ensures.facts ∙ ap (changed_if c.in-Some.link.next (with_before c.in-Some.link.before)) c.set_next.ensures.facts)

pub returns-clause-chained : goal.returns-clause-chained
returns-clause-chained c =
    let m = c.args.slots.now.facts in
    subst AreChained (sym (written c))
    (chained_taken m _ c.args.place c.requires.chained
    (is_taken m c.args.place c.in-Some.link c.requires.chained (at c) c.in-Some.link.before c.in-Some.link.next refl refl))

pub returns-clause-standing : goal.returns-clause-standing
returns-clause-standing c q =
    ap (λ n. standing_at n q) (written c)
    ∙ out_standing c.args.slots.now.facts c.args.place c.in-Some.link c.requires.chained (at c) c.in-Some.link.before c.in-Some.link.next q

pub returns-clause-homes : goal.returns-clause-homes
returns-clause-homes c q =
    ap (λ n. home_at n q) (written c)
    ∙ (is_taken c.args.slots.now.facts c.args.place c.in-Some.link c.requires.chained (at c) c.in-Some.link.before c.in-Some.link.next refl refl).homes q

pub returns-in_default-clause-homes : goal.returns-in_default-clause-homes
returns-in_default-clause-homes c = no_link c.args.slots.now.facts c.args.place (sym c.link_of.ensures ∙ c.in_default.is)
