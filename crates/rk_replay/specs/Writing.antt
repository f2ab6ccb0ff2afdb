-- The lines that a run of a script writes.
use Rattle.std.specs.Prelude.{ℕ, ◌/◌, ◌%◌, List, [], ◌∷◌, ◌++◌, codes, decimal, slice_index, Bool, true, false, ◌&&◌, not, ◌==◌, nat_le, if◌then◌else◌}
use Rattle.std.specs.List.{flat_map}
use Rattle.hex.specs.Hex.{encode_lower, upper_digits}
use Rattle.rk_conf.specs.declared.fault.ConfFault.{ConfFault}
use Rattle.rk_conf.specs.Codes.{code_of}
use Rattle.rk_macro.specs.declared.command.Command.{Command}
use Rattle.rk_served.specs.declared.output.Output.{Output}
use Rattle.rk_served.specs.declared.output.Output.TheVariants as output
use Rattle.rk_replay.specs.declared.transcript.LineFault.{LineFault}
use Rattle.rk_replay.specs.declared.transcript.LineFault.TheVariants.{NotALine, Unknown}

-- ---- commands

-- a byte that is seen: 0x21 to 0x7e, but `%`
abbrev pub is_plain : ℕ → Bool
is_plain b = nat_le 33 b && nat_le b 126 && not (b == 37)

-- a byte of a word: itself, or `%` and its two hexadecimal digits
abbrev pub byte_text : ℕ → List ℕ
byte_text b = if is_plain b then b ∷ [] else 37 ∷ slice_index upper_digits (b / 16) ∷ slice_index upper_digits (b % 16) ∷ []

-- a word after a space and `=`
abbrev pub word_text : List ℕ → List ℕ
word_text word = codes " =" ++ flat_map byte_text word

-- the kind of a command, as a word: whether it is piped
abbrev pub kind_text : Bool → List ℕ
kind_text true = codes "piped"
kind_text false = codes "plain"

-- a command: its kind, its path and its words
abbrev pub command_text : Command → List ℕ
command_text c = kind_text c.piped ++ word_text c.path ++ flat_map word_text c.words

-- ---- lines

-- a line, with its newline
abbrev pub line_text : List ℕ → List ℕ
line_text text = text ++ codes "\n"

-- a frame to someone, by a word and a number
abbrev pub frame_text : List ℕ → ℕ → List ℕ → List ℕ
frame_text word number bytes = word ++ codes " " ++ decimal number ++ codes " " ++ encode_lower bytes

-- the command that is to be started for a key
abbrev pub start_text : ℕ → Command → List ℕ
start_text key command = codes "start " ++ decimal key ++ codes " " ++ command_text command

-- someone is shut, by a word and a number
abbrev pub shut_text : List ℕ → ℕ → List ℕ
shut_text word number = word ++ codes " " ++ decimal number

-- what is written for an output, without the newline
abbrev pub output_text : Output → List ℕ
output_text (output.ToClient s bytes) = frame_text (codes "to") s bytes
output_text (output.ToHandler k bytes) = frame_text (codes "tohandler") k bytes
output_text (output.Start k command) = start_text k command
output_text (output.Shut s) = shut_text (codes "shut") s
output_text (output.ShutHandler k) = shut_text (codes "shuthandler") k

-- the line of an output
abbrev pub output_line : Output → List ℕ
output_line o = line_text (output_text o)

-- the code of a fault of a line: S1 if it is no line of a script, S2 if its happening was out of place
abbrev pub fault_code : LineFault → List ℕ
fault_code NotALine = codes "S1"
fault_code Unknown = codes "S2"

-- a line of the script, by its number, changed nothing
abbrev pub fault_line : ℕ → LineFault → List ℕ
fault_line number fault = line_text (codes "fault " ++ decimal number ++ codes " " ++ fault_code fault)

-- the configuration is refused
abbrev pub conf_line : ConfFault → List ℕ
conf_line fault = line_text (codes "conf " ++ decimal fault.line ++ codes " " ++ code_of fault.kind)
