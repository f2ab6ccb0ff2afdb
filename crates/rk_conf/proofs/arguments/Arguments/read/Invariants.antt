use Rattle.std.proofs.Common.{◌≡◌, ◌++◌, true, length}
use Rattle.std.specs.List.{filter_map}
use Rattle.rk_text.specs.Text.{is_text}
use Rattle.rk_conf.specs.Text.{fields_of}
use Rattle.rk_conf.specs.Macros.{argument_of}
use Rattle.rk_conf.proofs.arguments.Arguments.read.Given as goal

abbrev pub invariant-loop-field : goal.invariant-loop-field
invariant-loop-field l = record {
  read : l.items.items ++ filter_map argument_of (fields_of l.rest) ≡ filter_map argument_of (fields_of l.fn.text);
  text : is_text l.rest ≡ true;
}

abbrev pub decreases-loop-field : goal.decreases-loop-field
decreases-loop-field l = length l.rest
