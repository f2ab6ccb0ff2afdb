-- Faults in words.
use Rattle.std.specs.Prelude.{ℕ, List, codes}
use Rattle.rk_conf.specs.declared.fault.ConfKind.{ConfKind}
use Rattle.rk_conf.specs.declared.fault.ConfKind.TheVariants as kind
use Rattle.rk_macro.specs.declared.fault.ExpandFault.{ExpandFault}
use Rattle.rk_macro.specs.declared.fault.ExpandFault.TheVariants as fault

-- how a line breaks a rule
abbrev pub rule_text : ConfKind → List ℕ
rule_text kind.TooFewFields = codes "fewer than five fields"
rule_text kind.ProgNotAbsolute = codes "the program does not begin with /"
rule_text kind.BadMacro = codes "an argument begins with % and is no macro"
rule_text kind.TooLong = codes "more than 8192 bytes"
rule_text kind.NoMemory = codes "no memory"
rule_text kind.BadByte = codes "not UTF-8, or a zero byte"

-- why an argument gives no word
abbrev pub failure_text : ExpandFault → List ℕ
failure_text fault.NoKey = codes "an argument %{..} is the payload of a key, which only a daemon can look up"
failure_text fault.NotText = codes "a payload is no text"
failure_text fault.TooLong = codes "the words are more than 65536 bytes"
failure_text fault.NoMemory = codes "no memory"
