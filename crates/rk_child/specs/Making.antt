-- Whether a handler has made its key.
use Rattle.std.specs.Prelude.{◌==◌, ◌&&◌, ℕ, Bool, false, List, Option, Some}
use Rattle.rk_machine.specs.Laws.{completes, is_done}
use Rattle.rk_machine.specs.declared.event.How.TheVariants.{Exit}
use Rattle.rk_devices.specs.declared.driven.Driven.{Driven}
use Rattle.rk_devices.specs.declared.driven.Driven.TheVariants.{Ended}
use Rattle.rk_record.specs.Copies.{Told}
use Rattle.rk_record.specs.declared.told.ToldOf.TheVariants as told
use Rattle.rk_talk.specs.declared.saying.Saying.{Saying}
use Rattle.rk_talk.specs.declared.saying.Saying.TheVariants.{Noted, Short, Behind}

-- the event is an INSTANTIATE, a NEGATE or a REJECT of this key
abbrev pub completes_in : ℕ → Told → Bool
completes_in key (told.Asked session a) = completes a key
completes_in key _ = false

-- what is said is that such an ask has completed this key: it was answered 0
abbrev pub says_made : ℕ → Saying → Bool
says_made key (Noted n) = is_done n.answer && completes_in key n.told
says_made key (Short e) = false
says_made key Behind = false

-- a handler that has ended so gives its hall a payload: it has exited with 0, and there is one
abbrev pub gives_payload : Driven → Option (List ℕ) → Bool
gives_payload (Ended (Exit status)) (Some payload) = status == 0
gives_payload _ _ = false
