-- What a reader's answer says of the body: for Ask::read and Reply::read.
use Rattle.rk_message.proofs.Words.{◌≡◌, ap, refl, ℕ, List, ◌∙◌, Ok, Err, subst, Result, IfOk, MatchResult, IsFaultOf, Gives, message_at, Message, spelling}
use Rattle.rk_message.proofs.Words.{Fields, IsMessage, Fault, ReadError, NoMemory, Fault-error}
use Rattle.rk_message.proofs.Numbers.{IsBytes}
use Rattle.rk_message.proofs.Messages.{message_takes, message_again}
use Rattle.rk_message.proofs.Faults.{fault_of_body}

-- what was read is a message of the table, spelled by the body
pub is_found : {X : Type 0} (view : X → Message) (lines : Fields) (body : List ℕ) (r : Result X ReadError) → IsBytes body → Gives view r (message_at lines body)
    → IfOk r (λ a. IsMessage lines (view a) × (body ≡ spelling (view a)))
is_found view lines body (Ok a) fits given = let t = message_takes lines body (view a) fits given in (t.1, t.0)
is_found view lines body (Err e) fits given = tt

-- the refusal is for the leftmost fault
pub is_leftmost : {X : Type 0} (view : X → Message) (lines : Fields) (body : List ℕ) (r : Result X ReadError) → IsBytes body → Gives view r (message_at lines body)
    → (f : Fault) → r ≡ Err (Fault-error f) → IsFaultOf lines body f
is_leftmost view lines body (Ok a) fits given f e = absurd cc
is_leftmost view lines body (Err NoMemory) fits given f e = absurd cc
is_leftmost view lines body (Err (Fault-error g)) fits given f e =
    let same : g ≡ f = cc in subst (λ x. IsFaultOf lines body x) same (fault_of_body lines body g fits given)

-- what the body spells is what was read, unless memory ran out
pub is_only : {X : Type 0} (view : X → Message) (lines : Fields) (body : List ℕ) (r : Result X ReadError) (m : Message) → IsMessage lines m → body ≡ spelling m
    → Gives view r (message_at lines body) → MatchResult r (λ a. view a ≡ m) (λ e. e ≡ NoMemory)
is_only view lines body (Ok a) m is e given = let reads = ap (message_at lines) e ∙ message_again lines m is in cc
is_only view lines body (Err NoMemory) m is e given = refl
is_only view lines body (Err (Fault-error f)) m is e given = let reads = ap (message_at lines) e ∙ message_again lines m is in absurd cc
