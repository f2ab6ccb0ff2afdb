use Rattle.rk_core.proofs.Words.{ℕ, sym, ap, ◌∙◌, subst, w32, Option, Some, None, to_z-of_z, World, Asker, Query, ring_for, new_key_ring}
use Rattle.rk_core.proofs.Words.{ring_or_none_refusal, query, Meets, Misses, answer_of}
use Rattle.rk_core.proofs.Requests.RequestByParts.{requested, meets_positive, meets_building}
use Rattle.rk_core.proofs.Searching.WhatIsHit.{passes_known}
use Rattle.rk_core.proofs.tables.Tables.request.Goals as goal

pub find-requires-clause-known : goal.find-requires-clause-known
find-requires-clause-known c = passes_known c.args.self.now.keys _ c.in-Positive.key c.in-Positive.ensures.1

pub join-requires-clause-known : goal.join-requires-clause-known
join-requires-clause-known c = passes_known c.args.self.now.keys _ c.in-Building.key c.in-Building.ensures.1

pub returns-in-Positive-clause-step : goal.returns-in-Positive-clause-step
returns-in-Positive-clause-step c =
    let w : World = c.args.self.now in
    let asker : Asker = c.args.by.now.asker.now in
    let number = to_z-of_z w32 c.args.destination c.ranges.destination in
    requested w c.args.now c.args.by.now.id.now asker c.args.wanted.now.name.typ c.args.wanted.now.name.description c.args.wanted.now.callout c.args.destination
    (answer_of c.find.result) c.find.new.self (Some c.in-Positive.key)
    (sym (ap (ring_or_none_refusal w asker) number) ∙ c.in_ok-named.ensures.1) c.in-Positive.ensures.0
    (subst (λ (o : Option ℕ). Meets w c.args.by.now.id.now c.in-Positive.key o (answer_of c.find.result) c.find.new.self)
    (sym c.in_ok-named.ensures.0 ∙ ap (ring_for w asker) number)
    (meets_positive w c.args.by.now.id.now c.in-Positive.key c.in_ok-named.named (answer_of c.find.result) c.find.new.self c.in-Positive.ensures.1
    c.find.ensures.met))

pub returns-in-Building-clause-step : goal.returns-in-Building-clause-step
returns-in-Building-clause-step c =
    let w : World = c.args.self.now in
    let asker : Asker = c.args.by.now.asker.now in
    let number = to_z-of_z w32 c.args.destination c.ranges.destination in
    requested w c.args.now c.args.by.now.id.now asker c.args.wanted.now.name.typ c.args.wanted.now.name.description c.args.wanted.now.callout c.args.destination
    (answer_of c.join.result) c.join.new.self (Some c.in-Building.key)
    (sym (ap (ring_or_none_refusal w asker) number) ∙ c.in_ok-named.ensures.1) c.in-Building.ensures.0
    (subst (λ (o : Option ℕ). Meets w c.args.by.now.id.now c.in-Building.key o (answer_of c.join.result) c.join.new.self)
    (sym c.in_ok-named.ensures.0 ∙ ap (ring_for w asker) number)
    (meets_building w c.args.by.now.id.now c.in-Building.key c.in_ok-named.named (answer_of c.join.result) c.join.new.self c.in-Building.ensures.1
    c.join.ensures.met))

pub returns-in-Missed-clause-step : goal.returns-in-Missed-clause-step
returns-in-Missed-clause-step c =
    let w : World = c.args.self.now in
    let asker : Asker = c.args.by.now.asker.now in
    let q : Query = query asker c.args.wanted.now.name.typ c.args.wanted.now.name.description c.args.now in
    let number = to_z-of_z w32 c.args.destination c.ranges.destination in
    requested w c.args.now c.args.by.now.id.now asker c.args.wanted.now.name.typ c.args.wanted.now.name.description c.args.wanted.now.callout c.args.destination
    (answer_of c.miss.result) c.miss.new.self None
    (sym (ap (ring_or_none_refusal w asker) number) ∙ c.in_ok-named.ensures.1) c.in-Missed.ensures.0
    (subst (λ r. Misses w c.args.by.now.id.now asker q c.args.wanted.now.callout r (answer_of c.miss.result) c.miss.new.self)
    (ap (new_key_ring w asker) (sym c.in_ok-named.ensures.0 ∙ ap (ring_for w asker) number))
    (c.miss.ensures.step c.args.now c.in-Missed.ensures))
