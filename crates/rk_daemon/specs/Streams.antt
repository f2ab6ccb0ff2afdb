-- How the places of the standard streams are taken.
use Rattle.std.specs.Prelude.{ℤ, pos, Bool, true, false, List, [], ◌∷◌, ◌++◌}
use Rattle.rk_daemon.specs.declared.standard.Stream.{Stream}
use Rattle.rk_daemon.specs.declared.standard.Stream.TheVariants.{Input, Output, Errors}

-- its descriptor
abbrev pub descriptor_of : Stream → ℤ
descriptor_of Input = pos 0
descriptor_of Output = pos 1
descriptor_of Errors = pos 2

-- what is done: it is seen whether a stream is closed; a file is opened in the lowest place that is free, or can't be
pub data Act : Type 0 where
  Looked : Stream → Bool → Act
  Opened : Bool → Act

-- the place of a stream is taken: it is open, or a file is opened there; whether it is
pub data Fills (stream : Stream) : Bool → List Act → Type 0 where
  left : Fills stream true (Looked stream false ∷ [])
  filled : (is_done : Bool) → Fills stream is_done (Looked stream true ∷ Opened is_done ∷ [])

-- the places of standard input, output and error, in this order, or up to the first that can't be taken
pub data FillsAll : Bool → List Act → Type 0 where
  without_input : (acts : List Act) → Fills Input false acts → FillsAll false acts
  without_output : (acts more : List Act) → Fills Input true acts → Fills Output false more → FillsAll false (acts ++ more)
  with_both : (acts more others : List Act) (is_done : Bool) → Fills Input true acts → Fills Output true more → Fills Errors is_done others
      → FillsAll is_done (acts ++ more ++ others)
