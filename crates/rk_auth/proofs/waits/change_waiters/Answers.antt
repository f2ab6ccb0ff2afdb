use Rattle.rk_auth.proofs.Words.{◌∙◌, ap, sym, subst, cond, option_map, standing_at, home_at, AreChained, same_home}
use Rattle.rk_auth.proofs.Stands.{each_chained, each_homes, chain_stands}
use Rattle.rk_auth.proofs.waits.change_waiters.Goals as goal

pub returns-in-Some-clause-chained : goal.returns-in-Some-clause-chained
returns-in-Some-clause-chained g c =
    let chain = c.requires.chained c.in-Some.home in
    subst AreChained (sym (c.change_chain.ensures.facts chain.0 chain.1))
    (each_chained (g.C.ChangeOnce.changed c.args.change) chain.0 c.args.slots.now.facts c.requires.chained)

pub returns-in-Some-clause-standing : goal.returns-in-Some-clause-standing
returns-in-Some-clause-standing g c q =
    let f = g.C.ChangeOnce.changed c.args.change in
    let chain = c.requires.chained c.in-Some.home in
    let old = standing_at c.args.slots.now.facts q in
    ap (λ n. standing_at n q) (c.change_chain.ensures.facts chain.0 chain.1)
    ∙ chain_stands f c.requires.settled c.in-Some.home chain.0 c.args.slots.now.facts chain.1 q
    ∙ ap (λ h. cond (same_home h (home_at c.args.slots.now.facts q)) (option_map f old) old) (sym c.in-Some.is)

pub returns-in-Some-clause-homes : goal.returns-in-Some-clause-homes
returns-in-Some-clause-homes g c q =
    let chain = c.requires.chained c.in-Some.home in
    ap (λ n. home_at n q) (c.change_chain.ensures.facts chain.0 chain.1) ∙ each_homes (g.C.ChangeOnce.changed c.args.change) chain.0 c.args.slots.now.facts q
