-- The fields of a line that is read and not copied yet.
use Rattle.std.specs.Prelude.{ℕ}
use Rattle.std.specs.List.{filter_map}
use Rattle.rk_conf.specs.declared.line.Line.{Line}
use Rattle.rk_conf.specs.declared.fields.Fields.{Fields}
use Rattle.rk_conf.specs.Text.{fields_of}
use Rattle.rk_conf.specs.Macros.{argument_of}

-- the line that they become once they are copied
abbrev pub line_from : ℕ → Fields → Line
line_from n p = record {
  number = n;
  op = p.op.now;
  typ = p.typ.now;
  desc = p.desc.now;
  callout = p.callout.now;
  prog = p.prog.now;
  args = filter_map argument_of (fields_of p.args.now);
  piped = p.piped;
}
