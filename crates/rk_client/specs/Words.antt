-- Ops on a command line.
use Rattle.std.specs.Prelude.{ℕ, List, Option, find}
use Rattle.std.specs.Str.{bytes_eq, str_to_ascii_lowercase}
use Rattle.rk_message.specs.declared.shape.Op.{Op}
use Rattle.rk_message.specs.Table.{ask_line, ops}

-- the name of an ask in lower case
abbrev pub op_word : Op → List ℕ
op_word o = str_to_ascii_lowercase (ask_line o).1

-- the op whose word it is
abbrev pub op_said : List ℕ → Option Op
op_said word = find (λ o. bytes_eq word (op_word o)) ops
