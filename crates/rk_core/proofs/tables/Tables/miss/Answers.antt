use Rattle.rk_core.proofs.Words.{ap, ◌∙◌, refl, inl, inr, subst, err_from_is_err_and, key_errno, new_key_ring, Misses, Refused, Says, HasSerials, World, Query}
use Rattle.rk_names.specs.declared.errors.Errno.TheVariants as errno
use Rattle.rk_core.proofs.Requests.RequestByParts.{told_error, start_refused, start_allowed}
use Rattle.rk_core.proofs.tables.Tables.miss.Goals as goal

pub returns-in_default-clause-step : goal.returns-in_default-clause-step
returns-in_default-clause-step c = λ now found.
    let q : Query = record { context = c.args.by.now.asker.now.context; typ = c.args.wanted.now.name.typ; description = c.args.wanted.now.name.description; now = now } in
    told_error c.args.self.now c.args.by.now.id.now c.args.by.now.asker.now q (new_key_ring c.args.self.now c.args.by.now.asker.now c.args.named.now)
    c.args.missed.now found c.args.wanted.now.callout c.errno.result c.in_default.is (c.errno.ensures ∙ ap key_errno c.error.ensures)

pub returns-in_err-may_start-clause-step : goal.returns-in_err-may_start-clause-step
returns-in_err-may_start-clause-step c = λ now found.
    let q : Query = record { context = c.args.by.now.asker.now.context; typ = c.args.wanted.now.name.typ; description = c.args.wanted.now.name.description; now = now } in
    let says = subst (λ (w : World). Says c.left-left.result (HasSerials w.serials 1)) c.self.view_is c.left-left.ensures in
    let error = err_from_is_err_and c.from_residual.result c.from_residual.ensures.1 in
    rw (error.1, error.2) (subst
    (λ ring. Misses c.args.self.now c.args.by.now.id.now c.args.by.now.asker.now q c.args.wanted.now.callout ring (Refused c.in_err-may_start.field-0.0) c.args.self.now)
    c.destination-ring.ensures
    (start_refused c.args.self.now c.args.by.now.id.now c.args.by.now.asker.now q c.destination-ring.result c.args.missed.now found c.args.wanted.now.callout
    c.in-Some.callout c.left-left.result _ c.in-Some.is says (c.in_err-may_start.ensures.is now)))

pub returns-in-Ok-clause-step : goal.returns-in-Ok-clause-step
returns-in-Ok-clause-step c = λ now found.
    let q : Query = record { context = c.args.by.now.asker.now.context; typ = c.args.wanted.now.name.typ; description = c.args.wanted.now.name.description; now = now } in
    let says = subst (λ (w : World). Says c.left-left.result (HasSerials w.serials 1)) c.self.view_is c.left-left.ensures in
    subst
    (λ ring. Misses c.args.self.now c.args.by.now.id.now c.args.by.now.asker.now q c.args.wanted.now.callout ring c.in-Ok.answer c.begin.new.self)
    c.destination-ring.ensures
    (start_allowed c.args.self.now c.args.by.now.id.now c.args.by.now.asker.now q c.destination-ring.result c.args.missed.now found c.args.wanted.now.callout
    c.in-Some.callout c.left-left.result c.in-Ok.answer c.begin.new.self c.in-Some.is says (c.in_ok-may_start.ensures.is now)
    (inr (c.in-Ok.ensures.ok now)))

pub returns-in-Err-clause-step : goal.returns-in-Err-clause-step
returns-in-Err-clause-step c = λ now found.
    let q : Query = record { context = c.args.by.now.asker.now.context; typ = c.args.wanted.now.name.typ; description = c.args.wanted.now.name.description; now = now } in
    let says = subst (λ (w : World). Says c.left-left.result (HasSerials w.serials 1)) c.self.view_is c.left-left.ensures in
    subst
    (λ ring. Misses c.args.self.now c.args.by.now.id.now c.args.by.now.asker.now q c.args.wanted.now.callout ring (Refused errno.Enomem) c.begin.new.self)
    c.destination-ring.ensures
    (start_allowed c.args.self.now c.args.by.now.id.now c.args.by.now.asker.now q c.destination-ring.result c.args.missed.now found c.args.wanted.now.callout
    c.in-Some.callout c.left-left.result _ c.begin.new.self c.in-Some.is says (c.in_ok-may_start.ensures.is now)
    (inl (refl, c.in-Err.ensures.err)))
