-- The codes of refusals.
use Rattle.std.specs.Prelude.{ℕ, List, codes}
use Rattle.rk_conf.specs.declared.fault.ConfKind.{ConfKind}
use Rattle.rk_conf.specs.declared.fault.ConfKind.TheVariants as kind

-- the code of a refusal, as it is shown
abbrev pub code_of : ConfKind → List ℕ
code_of kind.TooFewFields = codes "C1"
code_of kind.ProgNotAbsolute = codes "C2"
code_of kind.BadMacro = codes "C3"
code_of kind.TooLong = codes "C4"
code_of kind.NoMemory = codes "C5"
code_of kind.BadByte = codes "C6"
