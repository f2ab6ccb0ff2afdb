-- What each call does to the bytes that were fed and not handed out, and what a list of calls comes to.
use Rattle.std.specs.Prelude.{◌≡◌, ℕ, List, [], ◌∷◌, ◌++◌, Some, None}
use Rattle.rk_frame.specs.declared.fault.FrameFault.{FrameFault}
use Rattle.rk_frame.specs.Framing.{IsBody, frame, HasNoFrame, fault_of}

-- a piece was fed, or `next` handed out a body, asked for more, or answered a fault
pub data Call : Type 0 where
  Fed : List ℕ → Call
  Gave : List ℕ → Call
  Waited : Call
  Failed : FrameFault → Call

-- a piece goes after the old bytes. A body was in the frame at their front, and the new ones are after it. The others find no whole frame there,
-- and change nothing
abbrev pub Makes : Call → List ℕ → List ℕ → Type 0
Makes (Fed piece) old new = new ≡ old ++ piece
Makes (Gave body) old new = IsBody body × (old ≡ frame body ++ new)
Makes Waited old new = (new ≡ old) × HasNoFrame old × (fault_of old ≡ None)
Makes (Failed f) old new = (new ≡ old) × HasNoFrame old × (fault_of old ≡ Some f)

-- these calls, one after the other, the first one first
abbrev pub Make : List Call → List ℕ → List ℕ → Type 0
Make [] old new = new ≡ old
Make (c ∷ cs) old new = (between : List ℕ) × Makes c old between × Make cs between new

-- the pieces, joined
abbrev pub stream_of : List Call → List ℕ
stream_of [] = []
stream_of (Fed piece ∷ cs) = piece ++ stream_of cs
stream_of (Gave _ ∷ cs) = stream_of cs
stream_of (Waited ∷ cs) = stream_of cs
stream_of (Failed _ ∷ cs) = stream_of cs

-- the bodies that were handed out, in order
abbrev pub bodies_of : List Call → List (List ℕ)
bodies_of [] = []
bodies_of (Fed _ ∷ cs) = bodies_of cs
bodies_of (Gave body ∷ cs) = body ∷ bodies_of cs
bodies_of (Waited ∷ cs) = bodies_of cs
bodies_of (Failed _ ∷ cs) = bodies_of cs
