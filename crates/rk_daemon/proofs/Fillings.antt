-- The places of standard streams, taken one after the other.
use Rattle.std.proofs.Common.{◌≡◌, Bool, true, false, List, [], ◌∷◌, ◌++◌, Option}
use Rattle.rk_daemon.specs.declared.standard.Stream.{Stream}
use Rattle.rk_daemon.specs.declared.standard.Stream.TheVariants.{Input, Output, Errors}
use Rattle.rk_daemon.specs.Story.{Does, and_then}
use Rattle.rk_daemon.specs.Streams.{Act, Fills, FillsAll, Looked, Opened, filled, left, with_both, without_input, without_output}
use Rattle.rk_daemon.proofs.Stories.{more}

abbrev Told : Type 0
Told = Option (List Act)

pub left_open : (stream : Stream) (is_closed : Bool) (s t : Told) → t ≡ and_then s (Looked stream is_closed ∷ []) → is_closed ≡ false
    → Does (Fills stream true) s t
left_open stream true s t e is = absurd (cc)
left_open stream false s t e is = (Looked stream false ∷ [], e, left)

pub filled_it : (stream : Stream) (is_closed is_done : Bool) (s t u : Told) → t ≡ and_then s (Looked stream is_closed ∷ []) → is_closed ≡ true
    → u ≡ and_then t (Opened is_done ∷ []) → Does (Fills stream is_done) s u
filled_it stream false is_done s t u e is f = absurd (cc)
filled_it stream true is_done s t u e is f =
    (Looked stream true ∷ Opened is_done ∷ [], more s t u (Looked stream true ∷ []) (Opened is_done ∷ []) e f, filled is_done)

pub no_input : (s t : Told) → Does (Fills Input false) s t → Does (FillsAll false) s t
no_input s t (acts, e, f) = (acts, e, without_input acts f)

pub no_output : (s t u : Told) → Does (Fills Input true) s t → Does (Fills Output false) t u → Does (FillsAll false) s u
no_output s t u (one, e, f) (two, g, h) = (one ++ two, more s t u one two e g, without_output one two f h)

pub both_filled : (is_done : Bool) (s t u v : Told) → Does (Fills Input true) s t → Does (Fills Output true) t u → Does (Fills Errors is_done) u v
    → Does (FillsAll is_done) s v
both_filled is_done s t u v (one, e, f) (two, g, h) (three, i, j) =
    (one ++ two ++ three, more s u v (one ++ two) three (more s t u one two e g) i, with_both one two three is_done f h j)
