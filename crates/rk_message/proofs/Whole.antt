-- Each body has a reading, or one fault.
use Rattle.rk_message.proofs.Words.{◌≡◌, ap, refl, ℕ, sym, List, ◌∙◌, Ok, Err, Result, inl, inr, ◌⊎◌, ask_message, IsFaultOf, message_at, reply_message, asks}
use Rattle.rk_message.proofs.Words.{replies, Message, spelling, Fields, IsMessage, Fault}
use Rattle.rk_message.specs.Laws.{SpellsAsk, SpellsReply, HasNoFault, HasOneFault, ReadsOrFails}
use Rattle.rk_message.proofs.Numbers.{IsBytes}
use Rattle.rk_message.proofs.Messages.{message_takes, message_again}
use Rattle.rk_message.proofs.Faults.{fault_of_body, fault_is_met}
use Rattle.rk_message.proofs.Shapes.{asks_are_all, replies_are_all}

abbrev HasMessage : Fields → List ℕ → Type 0
HasMessage lines body = (m : Message) × IsMessage lines m × (body ≡ spelling m)

has_no_fault : (lines : Fields) (body : List ℕ) (m : Message) → message_at lines body ≡ Ok m → HasNoFault lines body
has_no_fault lines body m reads f fault = let fails = fault_is_met lines body f fault in cc

has_no_message : (lines : Fields) (body : List ℕ) (f : Fault) → message_at lines body ≡ Err f → ¬ HasMessage lines body
has_no_message lines body f fails reading =
    let reads = ap (message_at lines) reading.2 ∙ message_again lines reading.0 reading.1 in cc

has_no_other : (lines : Fields) (body : List ℕ) (f : Fault) → message_at lines body ≡ Err f → (g : Fault) → IsFaultOf lines body g → g ≡ f
has_no_other lines body f fails g is = let other = fault_is_met lines body g is in cc

by_answer : (lines : Fields) (body : List ℕ) (r : Result Message Fault) → IsBytes body → message_at lines body ≡ r
    → (HasMessage lines body × HasNoFault lines body) ⊎ (¬ HasMessage lines body × HasOneFault lines body)
by_answer lines body (Ok m) fits reads = let t = message_takes lines body m fits reads in inl ((m, t.1, t.0), has_no_fault lines body m reads)
by_answer lines body (Err f) fits fails = inr (has_no_message lines body f fails, (f, fault_of_body lines body f fits fails, has_no_other lines body f fails))

reads_or_fails : (lines : Fields) (HasReading : List ℕ → Type 0) → ((body : List ℕ) → HasMessage lines body → HasReading body) → ((body : List ℕ) → HasReading body → HasMessage lines body)
    → ReadsOrFails HasReading lines
reads_or_fails lines HasReading to from body fits =
    elim (by_answer lines body (message_at lines body) fits refl) [
      | inl reads ↦ inl (to body reads.0, reads.1)
      | inr fails ↦ inr (λ reading. fails.0 (from body reading), fails.1)
    ]

-- each body spells an ask, or has one fault
pub asks_are_whole : ReadsOrFails SpellsAsk asks
asks_are_whole = reads_or_fails asks SpellsAsk
    (λ body reading. let told = asks_are_all reading.0 reading.1 in (told.0, told.1, reading.2 ∙ sym (ap spelling told.2)))
    (λ body spells. (ask_message spells.0, spells.1.0, spells.2))

-- each body spells a reply, or has one fault
pub replies_are_whole : ReadsOrFails SpellsReply replies
replies_are_whole = reads_or_fails replies SpellsReply
    (λ body reading. let told = replies_are_all reading.0 reading.1 in (told.0, told.1, reading.2 ∙ sym (ap spelling told.2)))
    (λ body spells. (reply_message spells.0, spells.1, spells.2))
