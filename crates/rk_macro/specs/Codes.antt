-- The codes of faults.
use Rattle.std.specs.Prelude.{ℕ, List, codes}
use Rattle.rk_macro.specs.declared.fault.ExpandFault.{ExpandFault}
use Rattle.rk_macro.specs.declared.fault.ExpandFault.TheVariants as fault

-- the code of a fault, as it is shown
abbrev pub code_of : ExpandFault → List ℕ
code_of fault.NoKey = codes "X1"
code_of fault.NotText = codes "X2"
code_of fault.TooLong = codes "X3"
code_of fault.NoMemory = codes "X4"
