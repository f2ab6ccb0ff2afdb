-- What is wrong with a value that only a closer look finds wrong.
use Rattle.std.specs.Prelude.{ℕ, Bool, not, List, ◌++◌, codes, Option, Some, None, if◌then◌else◌}
use Rattle.std.specs.List.{list_all}
use Rattle.rk_names.specs.declared.errors.NameFault.{NameFault}
use Rattle.rk_names.specs.declared.errors.NameFault.TheVariants.{Empty, TooLong, Dot, Byte, NoMemory}
use Rattle.rk_names.specs.Rules.{type_fault, description_fault, callout_fault}
use Rattle.rk_options.specs.Options.{Given, value_in}
use Rattle.rk_variables.specs.Library.{is_library}
use Rattle.rk_daemon.specs.Settings.{is_octal_digit}
use Rattle.reqkeyd.specs.declared.complaint.Complaint as declared

-- a value, which option or argument it is for, and what is wrong with it
pub record Complained : Type 0 where
  pub value : List ℕ
  pub name : List ℕ
  pub reason : List ℕ

-- the same, of a complaint
abbrev pub complaint_by : declared.Complaint → Complained
complaint_by c = record { value = c.value.now; name = c.name.now; reason = c.reason.now }

-- as it is written
abbrev pub complaint_text : Complained → List ℕ
complaint_text c = codes "invalid value '" ++ c.value ++ codes "' for '" ++ c.name ++ codes "': " ++ c.reason

-- the text has octal digits alone
abbrev pub is_octal : List ℕ → Bool
is_octal text = list_all is_octal_digit text

-- the rule that a name breaks, in words
abbrev pub rule_text : NameFault → List ℕ → List ℕ
rule_text Empty too_long = codes "it is empty"
rule_text TooLong too_long = too_long
rule_text Dot too_long = codes "it begins with a dot"
rule_text Byte too_long = codes "it is not UTF-8, or has a zero byte"
rule_text NoMemory too_long = codes "no memory"

-- what a name is refused for
abbrev pub broken : List ℕ → List ℕ → List ℕ → Option NameFault → Option Complained
broken value name too_long None = None
broken value name too_long (Some fault) = Some (record { value = value; name = name; reason = rule_text fault too_long })

-- the first, if there is one, else the second
abbrev pub or_else : Option Complained → Option Complained → Option Complained
or_else None other = other
or_else (Some c) other = Some c

-- of the names of a request
abbrev pub names_complaint : List ℕ → List ℕ → List ℕ → Option Complained
names_complaint typ desc callout = or_else (broken typ (codes "<type>") (codes "it has more than 31 bytes") (type_fault typ))
    (or_else (broken desc (codes "<description>") (codes "it has more than 4095 bytes") (description_fault desc))
    (broken callout (codes "<callout>") (codes "it has more than 4095 bytes") (callout_fault callout)))

-- a value that is not as it has to be
abbrev pub unless : (List ℕ → Bool) → List ℕ → List ℕ → Option (Option (List ℕ)) → Option Complained
unless is_right name reason (Some (Some value)) = if is_right value then None else Some (record { value = value; name = name; reason = reason })
unless is_right name reason _ = None

-- of the options of `serve`
abbrev pub serve_complaint : Option (List Given) → Option Complained
serve_complaint options =
    or_else (unless is_octal (codes "--mode <OCTAL>") (codes "it has to be octal digits, 0 to 777") (value_in (codes "--mode") options))
    (unless is_library (codes "--keyutils <FILE>") (codes "it has to begin with /, and to have no space and no colon") (value_in (codes "--keyutils") options))
