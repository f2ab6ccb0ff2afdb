use Rattle.rk_auth.proofs.Words.{◌∙◌, sym}
use Rattle.rk_auth.proofs.Stands.{restood, home_there, restood_idle, tied_idle, tied_waiting}
use Rattle.rk_auth.proofs.waits.change_at.Goals as goal

pub push-requires-clause-chained : goal.push-requires-clause-chained
push-requires-clause-chained g c =
    (restood (g.C.ChangeOnce.changed c.args.change) c.args.slots.now.facts c.unlink.new.slots.facts c.change.new.self.facts c.args.place
    c.unlink.ensures.chained c.unlink.ensures.standing c.unlink.ensures.homes c.change.ensures.facts).chained

pub push-requires-clause-home : goal.push-requires-clause-home
push-requires-clause-home g c =
    let f = g.C.ChangeOnce.changed c.args.change in
    home_there f c.args.slots.now.facts c.change.new.self.facts c.args.constructions.now.facts c.args.nobody c.args.place c.requires.tied c.requires.who
    (restood f c.args.slots.now.facts c.unlink.new.slots.facts c.change.new.self.facts c.args.place
    c.unlink.ensures.chained c.unlink.ensures.standing c.unlink.ensures.homes c.change.ensures.facts)
    c.in-Some.key c.home_of.result c.home_of.ensures

pub push-requires-clause-idle : goal.push-requires-clause-idle
push-requires-clause-idle g c =
    let f = g.C.ChangeOnce.changed c.args.change in
    restood_idle f c.args.slots.now.facts c.change.new.self.facts c.args.constructions.now.facts c.args.nobody c.args.place c.requires.tied c.requires.who
    (restood f c.args.slots.now.facts c.unlink.new.slots.facts c.change.new.self.facts c.args.place
    c.unlink.ensures.chained c.unlink.ensures.standing c.unlink.ensures.homes c.change.ensures.facts)

pub returns-in-Some-clause-tied : goal.returns-in-Some-clause-tied
returns-in-Some-clause-tied g c =
    let f = g.C.ChangeOnce.changed c.args.change in
    tied_waiting f c.args.slots.now.facts c.change.new.self.facts c.args.constructions.now.facts c.args.nobody c.args.place c.requires.tied c.requires.who
    (restood f c.args.slots.now.facts c.unlink.new.slots.facts c.change.new.self.facts c.args.place
    c.unlink.ensures.chained c.unlink.ensures.standing c.unlink.ensures.homes c.change.ensures.facts)
    c.push.new.slots.facts c.in-Some.key c.home_of.result (sym c.waited_at.ensures ∙ c.in-Some.is) c.home_of.ensures
    c.push.ensures.chained c.push.ensures.standing c.push.ensures.homes

pub returns-in-Some-clause-standing : goal.returns-in-Some-clause-standing
returns-in-Some-clause-standing g c q =
    c.push.ensures.standing q
    ∙ (restood (g.C.ChangeOnce.changed c.args.change) c.args.slots.now.facts c.unlink.new.slots.facts c.change.new.self.facts c.args.place
    c.unlink.ensures.chained c.unlink.ensures.standing c.unlink.ensures.homes c.change.ensures.facts).stands q

pub returns-in_default-clause-tied : goal.returns-in_default-clause-tied
returns-in_default-clause-tied g c =
    let f = g.C.ChangeOnce.changed c.args.change in
    tied_idle f c.args.slots.now.facts c.change.new.self.facts c.args.constructions.now.facts c.args.nobody c.args.place c.requires.tied c.requires.who
    (restood f c.args.slots.now.facts c.unlink.new.slots.facts c.change.new.self.facts c.args.place
    c.unlink.ensures.chained c.unlink.ensures.standing c.unlink.ensures.homes c.change.ensures.facts)
    (sym c.waited_at.ensures ∙ c.in_default.is)

pub returns-in_default-clause-standing : goal.returns-in_default-clause-standing
returns-in_default-clause-standing g c =
    (restood (g.C.ChangeOnce.changed c.args.change) c.args.slots.now.facts c.unlink.new.slots.facts c.change.new.self.facts c.args.place
    c.unlink.ensures.chained c.unlink.ensures.standing c.unlink.ensures.homes c.change.ensures.facts).stands
