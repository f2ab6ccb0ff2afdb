use Rattle.std.proofs.Common.{sym, ◌∙◌}
use Rattle.rk_daemon.proofs.Octal.{not_octal, permitted, too_large, not_parsed}
use Rattle.rk_daemon.proofs.settings.permissions.Goals as goal

pub returns-then-not-are_octal : goal.returns-then-not-are_octal
returns-then-not-are_octal c = not_octal c.args.text.now (sym c.are_octal.ensures ∙ c.if-not-are_octal.true)

pub returns-in_default : goal.returns-in_default
returns-in_default c = not_parsed c.args.text.now (sym c.are_octal.ensures ∙ c.if-not-are_octal.false) c.in_default.ensures.value

pub returns-then-bits-le511 : goal.returns-then-bits-le511
returns-then-bits-le511 c =
    permitted c.args.text.now c.in-Ok.bits (sym c.are_octal.ensures ∙ c.if-not-are_octal.false) c.in-Ok.ensures.value c.if-bits-le511.true

pub returns-else-bits-le511 : goal.returns-else-bits-le511
returns-else-bits-le511 c =
    too_large c.args.text.now c.in-Ok.bits (sym c.are_octal.ensures ∙ c.if-not-are_octal.false) c.in-Ok.ensures.value c.if-bits-le511.false
