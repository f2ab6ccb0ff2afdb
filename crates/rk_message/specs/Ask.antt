-- An ask, whether it owns its names and its payload or borrows them: each is the list of its bytes.
use Rattle.std.specs.Prelude.{ℕ, List}
use Rattle.rk_message.specs.declared.ask.AskOf.{AskOf}

-- a request whose names, callout and payload are bytes
abbrev pub Ask : Type 0
Ask = AskOf (List ℕ) (List ℕ) (List ℕ) (List ℕ)
