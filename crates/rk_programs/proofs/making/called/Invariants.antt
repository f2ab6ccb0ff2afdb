use Rattle.std.proofs.Common.{◌≡◌, ℕ, List, false, None, take}
use Rattle.std.specs.Process.{command_program, command_args, command_var, command_dir, clears_env}
use Rattle.rk_programs.proofs.making.called.Given as goal

abbrev pub invariant-loop-word : goal.invariant-loop-word
invariant-loop-word l =
    (command_args l.made ≡ take l.word-index l.word-items) × (command_program l.made ≡ l.fn.command.path) × (clears_env l.made ≡ false)
    × ((name : List ℕ) → command_var l.made name ≡ None) × (command_dir l.made ≡ None)
