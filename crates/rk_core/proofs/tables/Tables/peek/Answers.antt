use Rattle.rk_core.proofs.Words.{sym, ap, ◌∙◌, Some, option_copied, unspent, World}
use Rattle.rk_core.proofs.Searching.WhatIsPeeked.{peeks, no_more_seen}
use Rattle.rk_core.proofs.tables.Tables.peek.Goals as goal

pub returns-in-Positive : goal.returns-in-Positive
returns-in-Positive c =
    peeks c.args.self.now c.args.key c.args.name.now.typ c.args.name.now.description c.args.now c.in-Some.authority.now (Some c.in-Positive.hit) _
    (sym (ap (λ (w : World). unspent w.sessions c.args.key) c.self.view_is) ∙ sym c.unspent.ensures ∙ ap option_copied c.in-Some.is) c.in-Positive.ensures.0
    c.positive.ensures

pub returns-in-Building : goal.returns-in-Building
returns-in-Building c =
    no_more_seen c.args.self.now c.args.key c.args.name.now.typ c.args.name.now.description c.args.now c.in-Some.authority.now c.search.result
    (sym (ap (λ (w : World). unspent w.sessions c.args.key) c.self.view_is) ∙ sym c.unspent.ensures ∙ ap option_copied c.in-Some.is) c.search.ensures
    c.in-Building.is
