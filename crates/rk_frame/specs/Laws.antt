-- What holds after any list of calls, however the stream was cut into pieces.
use Rattle.std.specs.Prelude.{◌≡◌, ◌<◌, ℕ, List, [], ◌∷◌, ◌++◌, slice_index, Option, Some, None}
use Rattle.std.specs.List.{AllByRecursion}
use Rattle.rk_frame.specs.declared.fault.FrameFault.{FrameFault}
use Rattle.rk_frame.specs.Framing.{HasNoFrame, Splits, fault_of}
use Rattle.rk_frame.specs.Calls.{Call, Fed, Gave, Waited, Failed, Makes, Make, stream_of, bodies_of}

-- a stream has at most one list of bodies, and one rest
abbrev pub HasOneReading : Type 0
HasOneReading = (stream : List ℕ) (bodies others : List (List ℕ)) (rest rest' : List ℕ) →
    Splits stream bodies rest → Splits stream others rest' → (bodies ≡ others) × (rest ≡ rest')

-- each stream of bytes has one
abbrev pub HasAReading : Type 0
HasAReading = (stream : List ℕ) → ((i : ℕ) → slice_index stream i < 256) → (bodies : List (List ℕ)) × (rest : List ℕ) × Splits stream bodies rest

-- the bodies handed out are the first ones of the joined pieces, and the others are those of what is held
abbrev pub HandsOutInOrder : Type 0
HandsOutInOrder = (calls : List Call) (held : List ℕ) → Make calls [] held → (bodies : List (List ℕ)) (rest : List ℕ) →
    Splits (stream_of calls) bodies rest → (later : List (List ℕ)) × (bodies ≡ bodies_of calls ++ later) × Splits held later rest

-- if what is held begins with no frame, as after More and after a fault, all bodies have been handed out
abbrev pub HasHandedOutAll : Type 0
HasHandedOutAll = (calls : List Call) (held : List ℕ) → Make calls [] held → HasNoFrame held → Splits (stream_of calls) (bodies_of calls) held

-- a call of `next`
abbrev pub IsAnswer : Call → Type 0
IsAnswer (Fed _) = ⊥
IsAnswer (Gave _) = Unit {0}
IsAnswer Waited = Unit {0}
IsAnswer (Failed _) = Unit {0}

-- what `next` owes where no body is left: the fault of the rest, or else More
abbrev pub answer_at_end : Option FrameFault → Call
answer_at_end (Some f) = Failed f
answer_at_end None = Waited

-- what `next` owes where these bodies are left, and then this rest
abbrev pub answer_owed : List (List ℕ) → List ℕ → Call
answer_owed (body ∷ _) rest = Gave body
answer_owed [] rest = answer_at_end (fault_of rest)

-- `next` answers the first body of what is held, and More and a fault exactly if there is none
abbrev pub AnswersTheNext : Type 0
AnswersTheNext = (held new : List ℕ) (bodies : List (List ℕ)) (rest : List ℕ) (call : Call) →
    Splits held bodies rest → IsAnswer call → Makes call held new → call ≡ answer_owed bodies rest

-- a piece that is fed, or an answer of this fault
abbrev pub IsFedOrFails : FrameFault → Call → Type 0
IsFedOrFails f (Fed _) = Unit {0}
IsFedOrFails f (Gave _) = ⊥
IsFedOrFails f Waited = ⊥
IsFedOrFails f (Failed g) = g ≡ f

-- once `next` has answered a fault, it answers that one alone, whatever is fed
abbrev pub KeepsItsFault : Type 0
KeepsItsFault = (f : FrameFault) (calls : List Call) (old held new : List ℕ) →
    Makes (Failed f) old held → Make calls held new → AllByRecursion (IsFedOrFails f) calls
