-- What a borrowed argument stands for.
use Rattle.std.specs.Prelude.{◌≡◌, true}
use Rattle.rk_text.specs.Text.{is_text}
use Rattle.rk_conf.specs.declared.argument.Argument.{Argument}
use Rattle.rk_conf.specs.declared.argument.Argument.TheVariants as argument
use Rattle.rk_conf.specs.declared.borrowed_argument.BorrowedArgument.{BorrowedArgument}
use Rattle.rk_conf.specs.declared.borrowed_argument.BorrowedArgument.TheVariants as borrowed

-- the argument that it becomes once it is copied
abbrev pub argument_from : BorrowedArgument → Argument
argument_from (borrowed.Macro a) = a
argument_from (borrowed.Payload typ desc) = argument.Payload (record { typ = typ.now; desc = desc.now })
argument_from (borrowed.Literal text) = argument.Literal text.now

-- if it is a literal, it is text
abbrev pub HasText : BorrowedArgument → Type 0
HasText (borrowed.Macro a) = Unit {0}
HasText (borrowed.Payload typ desc) = Unit {0}
HasText (borrowed.Literal text) = is_text text.now ≡ true
