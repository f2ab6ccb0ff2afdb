use Rattle.rk_core.proofs.Words.{◌++◌, sym, subst, option_to_list, IsSole, IsSought}
use Rattle.rk_core.specs.declared.search.Sought.TheVariants as sought
use Rattle.rk_core.proofs.Searching.WhatIsHit.{with_nothing, with_positive, with_building, with_negative, with_revoked, with_expired}
use Rattle.rk_core.proofs.search.Missed.with.Goals as goal

pub returns-in_default : goal.returns-in_default
returns-in_default c = λ w q rings ring h sole. with_nothing w q rings ring c.args.self h (subst (IsSole w q ring) c.in_default.is sole)

pub returns-in-Positive : goal.returns-in-Positive
returns-in-Positive c = λ w q rings ring h sole.
    with_positive w q rings ring c.in-Some.found c.args.self h (subst (IsSole w q ring) c.in-Some.is sole) c.in-Positive.is

pub returns-in-Building : goal.returns-in-Building
returns-in-Building c = λ w q rings ring h sole.
    with_building w q rings ring c.in-Some.found c.args.self h (subst (IsSole w q ring) c.in-Some.is sole) c.in-Building.is

pub returns-in-Negative : goal.returns-in-Negative
returns-in-Negative c = λ w q rings ring h sole.
    subst (λ block. IsSought w q (rings ++ option_to_list ring) (sought.Missed (record { block = block; stale = c.args.self.stale })))
    (sym c.first_error.ensures)
    (with_negative w q rings ring c.in-Some.found c.args.self c.in-Negative.error h (subst (IsSole w q ring) c.in-Some.is sole) c.in-Negative.is)

pub returns-in-Revoked : goal.returns-in-Revoked
returns-in-Revoked c = λ w q rings ring h sole.
    subst (λ stale. IsSought w q (rings ++ option_to_list ring) (sought.Missed (record { block = c.args.self.block; stale = stale })))
    (sym c.first_error-in-Revoked.ensures)
    (with_revoked w q rings ring c.in-Some.found c.args.self h (subst (IsSole w q ring) c.in-Some.is sole) c.in-Revoked.is)

pub returns-in-Expired : goal.returns-in-Expired
returns-in-Expired c = λ w q rings ring h sole.
    subst (λ stale. IsSought w q (rings ++ option_to_list ring) (sought.Missed (record { block = c.args.self.block; stale = stale })))
    (sym c.first_error-in-Expired.ensures)
    (with_expired w q rings ring c.in-Some.found c.args.self h (subst (IsSole w q ring) c.in-Some.is sole) c.in-Expired.is)
