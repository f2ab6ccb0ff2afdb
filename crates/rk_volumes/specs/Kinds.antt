-- The numbers of sessions, and of what becomes of handlers.
use Rattle.std.specs.Prelude.{ℕ, List, [], Option, Some, None}
use Rattle.rk_names.specs.declared.numbers.SessionId.{SessionId}
use Rattle.rk_names.specs.declared.numbers.SessionId.TheVariants.{Client, Handler}
use Rattle.rk_macro.specs.declared.subject.Op.{Op}
use Rattle.rk_macro.specs.declared.subject.Op.TheVariants as op
use Rattle.rk_machine.specs.declared.event.Ran.{Ran}
use Rattle.rk_machine.specs.declared.event.Ran.TheVariants.{Plain, Piped, Failed}
use Rattle.rk_machine.specs.declared.event.How.{How}
use Rattle.rk_machine.specs.declared.event.How.TheVariants.{Exit, Signal, Fault}

-- whether a session is a client or a handler
abbrev pub session_kind : SessionId → ℕ
session_kind (Client n) = 0
session_kind (Handler k) = 1

-- the number of a client, or the key of a handler
abbrev pub session_number : SessionId → ℕ
session_number (Client n) = n
session_number (Handler k) = k

-- what became of a start
abbrev pub ran_kind : Ran → ℕ
ran_kind Plain = 0
ran_kind Piped = 1
ran_kind Failed = 2

-- how a handler ended
abbrev pub how_kind : How → ℕ
how_kind (Exit c) = 0
how_kind Signal = 1
how_kind Fault = 2

-- the status with which it exited, and 0 if it did not
abbrev pub status_of : How → ℕ
status_of (Exit c) = c
status_of Signal = 0
status_of Fault = 0

-- the output of a handler; a payload has at least one byte
abbrev pub put_out : Option (List ℕ) → List ℕ
put_out None = []
put_out (Some payload) = payload

-- what a command is made for
abbrev pub op_kind : Op → ℕ
op_kind op.Create = 0
op_kind op.Negate = 1
