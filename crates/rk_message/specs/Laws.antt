-- What holds of every body.
use Rattle.std.specs.Prelude.{◌≡◌, ◌<◌, ℕ, List, slice_index, Ok, ◌⊎◌}
use Rattle.rk_message.specs.Ask.{Ask}
use Rattle.rk_message.specs.declared.reply.Reply.{Reply}
use Rattle.rk_message.specs.declared.fault.Fault.{Fault}
use Rattle.rk_message.specs.Wire.{Fields, spelling}
use Rattle.rk_message.specs.Table.{asks, replies}
use Rattle.rk_message.specs.Reading.{message_at}
use Rattle.rk_message.specs.Leftmost.{IsFaultOf}
use Rattle.rk_message.specs.Asks.{IsAsk, ask_message}
use Rattle.rk_message.specs.Replies.{IsReply, reply_message}

-- asks with the same spelling are the same ask
abbrev pub AsksAreTold : Type 0
AsksAreTold = (a b : Ask) → IsAsk a → IsAsk b → spelling (ask_message a) ≡ spelling (ask_message b) → a ≡ b

-- the spelling of an ask reads back as it
abbrev pub AsksReadBack : Type 0
AsksReadBack = (a : Ask) → IsAsk a → message_at asks (spelling (ask_message a)) ≡ Ok (ask_message a)

-- replies with the same spelling are the same reply
abbrev pub RepliesAreTold : Type 0
RepliesAreTold = (a b : Reply) → IsReply a → IsReply b → spelling (reply_message a) ≡ spelling (reply_message b) → a ≡ b

-- the spelling of a reply reads back as it
abbrev pub RepliesReadBack : Type 0
RepliesReadBack = (r : Reply) → IsReply r → message_at replies (spelling (reply_message r)) ≡ Ok (reply_message r)

-- the body spells an ask
abbrev pub SpellsAsk : List ℕ → Type 0
SpellsAsk body = (a : Ask) × IsAsk a × (body ≡ spelling (ask_message a))

-- the body spells a reply
abbrev pub SpellsReply : List ℕ → Type 0
SpellsReply body = (r : Reply) × IsReply r × (body ≡ spelling (reply_message r))

-- the body has no fault
abbrev pub HasNoFault : Fields → List ℕ → Type 0
HasNoFault lines body = (f : Fault) → ¬ IsFaultOf lines body f

-- the body has a fault, and no other
abbrev pub HasOneFault : Fields → List ℕ → Type 0
HasOneFault lines body = (f : Fault) × IsFaultOf lines body f × ((g : Fault) → IsFaultOf lines body g → g ≡ f)

-- each body of bytes has a reading and no fault, or no reading and one fault
abbrev pub ReadsOrFails : (List ℕ → Type 0) → Fields → Type 0
ReadsOrFails HasReading lines = (body : List ℕ) → ((i : ℕ) → slice_index body i < 256)
    → (HasReading body × HasNoFault lines body) ⊎ (¬ HasReading body × HasOneFault lines body)
