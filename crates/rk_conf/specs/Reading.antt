-- What a configuration text says.
use Rattle.std.specs.Prelude.{ℕ, List, Option, option_map}
use Rattle.std.specs.List.{filter_map}
use Rattle.rk_conf.specs.declared.fault.ConfFault.{ConfFault}
use Rattle.rk_conf.specs.declared.line.Line.{Line}
use Rattle.rk_conf.specs.Text.{fields_of, numbered_lines}
use Rattle.rk_conf.specs.Lines.{refusal_of, line_of}

-- the number of a line and the first rule that it breaks
abbrev pub fault_at : ℕ × List ℕ → Option ConfFault
fault_at l = option_map (λ rule. record { line = l.0; kind = rule }) (refusal_of l.1)

-- the line of a number and a text
abbrev pub line_at : ℕ × List ℕ → Option Line
line_at l = line_of l.0 (fields_of l.1)

-- the faults of a text, in the order of its lines: one for each line that breaks a rule
unfoldable pub faults_in : List ℕ → List ConfFault
faults_in text = filter_map fault_at (numbered_lines text)

-- the lines of a text that has no faults
unfoldable pub lines_in : List ℕ → List Line
lines_in text = filter_map line_at (numbered_lines text)
