use Rattle.rk_auth.proofs.Words.{◌∙◌, ap, sym, subst, standing_at, home_at, AreChained}
use Rattle.rk_auth.proofs.Stands.{put_chained, put_homes, put_stands}
use Rattle.rk_auth.proofs.waits.put_in.Goals as goal

pub returns-clause-chained : goal.returns-clause-chained
returns-clause-chained c =
    subst AreChained (sym c.put.ensures.facts)
    (put_chained c.args.slots.now.facts c.put.result c.args.standing c.put.ensures.new c.requires.chained)

pub returns-clause-standing : goal.returns-clause-standing
returns-clause-standing c q = ap (λ n. standing_at n q) c.put.ensures.facts ∙ put_stands c.args.slots.now.facts c.put.result c.args.standing c.put.ensures.new q

pub returns-clause-homes : goal.returns-clause-homes
returns-clause-homes c q = ap (λ n. home_at n q) c.put.ensures.facts ∙ put_homes c.args.slots.now.facts c.put.result c.args.standing c.put.ensures.new q
