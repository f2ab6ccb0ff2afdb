-- Why a file stands for no argument.
use Rattle.std.specs.Prelude.{Option, Some, None}
use Rattle.rk_ctl.specs.declared.misuse.Misplaced.{Misplaced}
use Rattle.rk_ctl.specs.declared.misuse.Misplaced.TheVariants.{Payload, Callout, Both}

-- both are named; or the one that is named has no place, be it a payload's file or a callout's
abbrev pub misplaced : {P C : Type 0} → Option P → Option C → Misplaced
misplaced (Some p) (Some c) = Both
misplaced (Some p) None = Payload
misplaced None c = Callout
