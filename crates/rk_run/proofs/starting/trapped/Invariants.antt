use Rattle.std.proofs.Common.{◌≡◌, ℕ, List, ◌∷◌, false, None, take, map}
use Rattle.std.specs.Prelude.{codes, string_bytes}
use Rattle.std.specs.Process.{command_program, command_args, command_var, command_dir, clears_env}
use Rattle.rk_run.proofs.starting.trapped.Given as goal

abbrev pub invariant-loop-word : goal.invariant-loop-word
invariant-loop-word l =
    (command_args l.command ≡ codes "--socket" ∷ l.fn.socket ∷ codes "--" ∷ l.fn.wanted.program.now ∷ map string_bytes (take l.word-index l.fn.wanted.words.now))
    × (command_program l.command ≡ l.fn.trap) × (clears_env l.command ≡ false) × ((name : List ℕ) → command_var l.command name ≡ None)
    × (command_dir l.command ≡ None)
