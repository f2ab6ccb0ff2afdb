-- One of each for a kind of line.
use Rattle.rk_daemon.specs.declared.by_kind.ByKind.{ByKind}
use Rattle.rk_daemon.specs.declared.kind.Kind.{Kind}
use Rattle.rk_daemon.specs.declared.kind.Kind.TheVariants.{Session, Handler, Slow, Busy, Accept, Other}

-- that of this kind
abbrev pub of_kind : {T : Type 0} → Kind → ByKind T → T
of_kind Session b = b.session
of_kind Handler b = b.handler
of_kind Slow b = b.slow
of_kind Busy b = b.busy
of_kind Accept b = b.accept
of_kind Other b = b.other
