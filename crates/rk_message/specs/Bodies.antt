-- What the body of a frame says, where it is to be an ask.
use Rattle.std.specs.Prelude.{◌≡◌, ℕ, List}
use Rattle.rk_names.specs.declared.errors.Errno.{Errno}
use Rattle.rk_message.specs.Ask.{Ask}
use Rattle.rk_message.specs.declared.fault.Fault.{Fault}
use Rattle.rk_message.specs.Wire.{spelling}
use Rattle.rk_message.specs.Table.{asks}
use Rattle.rk_message.specs.Asks.{IsAsk, ask_message}
use Rattle.rk_message.specs.Faults.{fault_answer}
use Rattle.rk_message.specs.Leftmost.{IsFaultOf}

-- the body spells the ask
abbrev pub Spells : Ask → List ℕ → Type 0
Spells a body = IsAsk a × (body ≡ spelling (ask_message a))

-- the body spells none, and this is what is answered
abbrev pub IsRefusedAs : Errno → List ℕ → Type 0
IsRefusedAs e body = (fault : Fault) × IsFaultOf asks body fault × (e ≡ fault_answer fault)
