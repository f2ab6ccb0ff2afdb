use Rattle.std.proofs.Common.{◌≡◌, length}
use Rattle.std.specs.List.{list_any}
use Rattle.rk_conf.specs.Text.{fields_of}
use Rattle.rk_conf.specs.Lines.{is_bad_macro}
use Rattle.rk_conf.proofs.program.has_bad_macro.Given as goal

abbrev pub invariant-loop-field : goal.invariant-loop-field
invariant-loop-field l = list_any is_bad_macro (fields_of l.rest) ≡ list_any is_bad_macro (fields_of l.fn.args)

abbrev pub decreases-loop-field : goal.decreases-loop-field
decreases-loop-field l = length l.rest
