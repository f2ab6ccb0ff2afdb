-- The stream of a session.
use Rattle.std.specs.Prelude.{◌≡◌, ℕ, true, false, List, [], ◌++◌, if◌then◌else◌}
use Rattle.rk_frame.specs.Streams.{TakesBody}
use Rattle.rk_served.specs.Unused.{Unused}

-- a stream that is not shut, and has no unused bytes
abbrev pub no_bytes : Unused
no_bytes = record { bytes = []; is_shut = false }

-- the stream with these unused bytes instead of its own; it is shut if it was
abbrev pub with_bytes : List ℕ → Unused → Unused
with_bytes bytes u = record { bytes = bytes; is_shut = u.is_shut }

-- bytes that come on a stream; those of a shut one are passed over
abbrev pub lengthened : List ℕ → Unused → Unused
lengthened more u = if u.is_shut then u else with_bytes (u.bytes ++ more) u

-- it moves no more
abbrev pub closed : Unused → Unused
closed u = record { bytes = u.bytes; is_shut = true }

-- the next body of the stream, which goes on after it
pub record Takes (body : List ℕ) (old new : Unused) : Type 0 where
  pub bytes : TakesBody body old.bytes new.bytes
  pub open_still : new.is_shut ≡ old.is_shut
