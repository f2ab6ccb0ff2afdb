-- What a stream has next, and what it comes to.
use Rattle.std.specs.Prelude.{◌≡◌, ℕ, List}
use Rattle.rk_names.specs.declared.numbers.SessionId.{SessionId}
use Rattle.rk_served.specs.declared.stream.Message.{Message}
use Rattle.rk_served.specs.declared.stream.Message.TheVariants as message
use Rattle.rk_served.specs.Unused.{Unused}
use Rattle.rk_frame.specs.Streams.{IsPartial, HasFault}
use Rattle.rk_message.specs.Ask.{Ask}
use Rattle.rk_message.specs.Bodies.{Spells, IsRefusedAs}
use Rattle.rk_machine.specs.declared.event.EventOf.TheVariants.{Asked}
use Rattle.rk_machine.specs.World.{World}
use Rattle.rk_machine.specs.Steps.{Step}
use Rattle.rk_served.specs.Streams.{Takes}

-- the message is what the old stream has next, and the new one goes on after it; an ask is one step of this session, and nothing else is a step
abbrev pub IsNext : Message → SessionId → ℕ → World → Unused → World → Unused → Type 0
IsNext (message.Answered answer) who now world old world' new =
    (body : List ℕ) × (ask : Ask) × Takes body old new × Spells ask body × Step world now (Asked who ask) answer world'
IsNext (message.Refused e) who now world old world' new = (body : List ℕ) × (world' ≡ world) × Takes body old new × IsRefusedAs e body
IsNext message.More who now world old world' new = (world' ≡ world) × (new ≡ old) × IsPartial old.bytes
IsNext message.Fault who now world old world' new = (world' ≡ world) × (new ≡ old) × HasFault old.bytes
