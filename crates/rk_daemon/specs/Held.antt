-- How much halls' records hold.
use Rattle.std.specs.Prelude.{ℕ, ◌+◌, ◌-◌, ◌^◌, length, min, nat_le, Some, None, if◌then◌else◌}
use Rattle.rk_names.specs.Longs.{in_description, in_callout}
use Rattle.rk_message.specs.Ask.{Ask}
use Rattle.rk_message.specs.declared.ask.AskOf.TheVariants as ask
use Rattle.rk_message.specs.declared.reply.Reply.TheVariants as reply
use Rattle.rk_machine.specs.declared.event.Answer.{Answer}
use Rattle.rk_machine.specs.declared.event.Answer.TheVariants as answer
use Rattle.rk_record.specs.Copies.{Told}
use Rattle.rk_record.specs.declared.told.ToldOf.TheVariants as told

-- how many bytes of a name do not lie in its step, if at most `few` stand in its value: none of at most so many, and all of more
abbrev pub outside : ℕ → ℕ → ℕ
outside few len = if nat_le len few then 0 else len

-- the bytes that an ask has outside of its step: of a long description or callout, and of its payload
abbrev pub bytes_of : Ask → ℕ
bytes_of (ask.Request typ description (Some callout) destination) = outside in_description (length description) + outside in_callout (length callout)
bytes_of (ask.Request typ description None destination) = outside in_description (length description)
bytes_of (ask.Instantiate key payload ring) = length payload
bytes_of (ask.Add typ description payload ring) = outside in_description (length description) + length payload
bytes_of _ = 0

-- those of what was handed in
abbrev pub told_bytes : Told → ℕ
told_bytes (told.Asked session ask) = bytes_of ask
told_bytes _ = 0

-- those of what was answered
abbrev pub answer_bytes : Answer → ℕ
answer_bytes (answer.Done (reply.Bytes bytes)) = length bytes
answer_bytes _ = 0

-- both, as a number of 64 bits
abbrev pub taken_by : Told → Answer → ℕ
taken_by told answer = min (told_bytes told + answer_bytes answer) (2 ^ 64 - 1)
