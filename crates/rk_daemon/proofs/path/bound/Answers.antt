use Rattle.std.proofs.Common.{sym, ◌∙◌}
use Rattle.rk_daemon.proofs.Takings.{bound_it, failed_otherwise, met_it}
use Rattle.rk_daemon.proofs.path.bound.Goals as goal

pub returns-in-Ok : goal.returns-in-Ok
returns-in-Ok g c = bound_it _ _ _ c.in-Ok.ensures

pub returns-in-AddrInUse : goal.returns-in-AddrInUse
returns-in-AddrInUse g c = met_it _ _ _ _ _ _ c.in-Err.ensures (sym c.kind.ensures ∙ c.in-AddrInUse.is) c.bound_instead.ensures

pub returns-in_default : goal.returns-in_default
returns-in_default g c = failed_otherwise _ _ _ _ c.in-Err.ensures (λ is. c.in_default.not-AddrInUse (c.kind.ensures ∙ is))
