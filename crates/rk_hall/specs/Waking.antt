-- Which calls give those who wait in a hall their outcome.
use Rattle.std.specs.Prelude.{Bool, true, false}
use Rattle.rk_message.specs.Ask.{Ask}
use Rattle.rk_message.specs.declared.ask.AskOf.TheVariants as ask
use Rattle.rk_machine.specs.declared.event.Answer.{Answer}
use Rattle.rk_machine.specs.declared.event.Answer.TheVariants.{Done}
use Rattle.rk_record.specs.Copies.{Told}
use Rattle.rk_record.specs.declared.told.ToldOf.TheVariants as told
use Rattle.rk_record.specs.Turns.{Noted}

-- an ask that completes a key: keyctl_instantiate(3), keyctl_negate(3), keyctl_reject(3)
abbrev pub completes : Ask → Bool
completes (ask.Instantiate key payload ring) = true
completes (ask.Negate key timeout ring) = true
completes (ask.Reject key timeout e ring) = true
completes _ = false

-- what was told and answered is such an ask, and that it was done
abbrev pub is_completion : Told → Answer → Bool
is_completion (told.Asked s a) (Done reply) = completes a
is_completion _ _ = false

-- the receipt says so
abbrev pub has_completed : Noted → Bool
has_completed n = is_completion n.told n.answer
