use Rattle.std.proofs.Common.{◌≡◌, ℕ, List, false, None, take, map}
use Rattle.std.specs.Prelude.{string_bytes}
use Rattle.std.specs.Process.{command_program, command_args, command_var, command_dir, clears_env}
use Rattle.rk_run.proofs.starting.called.Given as goal

abbrev pub invariant-loop-word : goal.invariant-loop-word
invariant-loop-word l =
    (command_args l.command ≡ map string_bytes (take l.word-index l.fn.words)) × (command_program l.command ≡ l.fn.program)
    × (clears_env l.command ≡ false) × ((name : List ℕ) → command_var l.command name ≡ None) × (command_dir l.command ≡ None)
