-- How a reply is printed.
use Rattle.std.specs.Prelude.{ℕ, List, [], ◌∷◌, ◌++◌, codes, decimal, Bool, if◌then◌else◌}
use Rattle.rk_names.specs.Numbers.{errno_number}
use Rattle.rk_message.specs.declared.reply.Reply.{Reply}
use Rattle.rk_message.specs.declared.reply.Reply.TheVariants as reply

-- the end of a line
abbrev pub newline : List ℕ
newline = 10 ∷ []

-- a number, four of them with spaces between, the bytes, or the number of the error; in a line of its own, but for raw bytes
abbrev pub printed : Bool → Reply → List ℕ
printed raw (reply.Number n) = decimal n ++ newline
printed raw (reply.Bytes bytes) = if raw then bytes else (bytes ++ newline)
printed raw (reply.Rings thread process session user) =
    decimal thread ++ codes " " ++ decimal process ++ codes " " ++ decimal session ++ codes " " ++ decimal user ++ newline
printed raw (reply.Refused e) = codes "errno" ++ codes " " ++ decimal (errno_number e) ++ newline
