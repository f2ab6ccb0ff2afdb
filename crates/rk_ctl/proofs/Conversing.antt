-- What the daemon was asked, and the status after its answer.
use Rattle.std.proofs.Common.{◌≡◌, ◌≤◌, ℕ, zero, suc, Bool, true, false, List, Option, Some, Result, refl, sym, subst, arith}
use Rattle.rk_message.specs.Ask.{Ask}
use Rattle.rk_message.specs.declared.reply.Reply.{Reply}
use Rattle.rk_client.specs.declared.fault.PeerFault.{PeerFault}
use Rattle.rk_ctl.specs.Calls.{Asks, greeting_before}
use Rattle.rk_ctl.specs.Daemon.{Talk, Asked, and_then}
use Rattle.rk_ctl.specs.Outcome.{HasAskedAs}
use Rattle.rk_ctl.specs.Said.{CallSaid}
use Rattle.rk_ctl.specs.Around.{call_in}
use Rattle.rk_ctl.specs.declared.around.Around.{Around}

-- a conversation of the call at its socket, after its greeting
pub asked_as : (call : CallSaid) (around : Around) (words : List (List ℕ)) (path : List ℕ) (ask : Ask) (answer : Result Reply PeerFault) (greeting : Option Ask)
    (said said' : Option (List Talk)) → Some call ≡ call_in around words → call.options.socket ≡ Some path → Asks call ask → greeting ≡ greeting_before call
    → said' ≡ and_then said (Asked (record { address = record { path = path; seconds = call.options.timeout }; greeting = greeting; ask = ask; answer = answer })) → HasAskedAs call ask answer around words said said'
asked_as call around words path ask answer greeting said said' is_call is_socket asks is_greeting held =
    let Held : Option Ask → Type 0 = λ g. said' ≡ and_then said (Asked (record { address = record { path = path; seconds = call.options.timeout }; greeting = g; ask = ask; answer = answer })) in
    record { is_call = sym is_call; path = path; is_socket = is_socket; asks = asks; once = subst Held is_greeting held }

-- a refusal is no success
pub failed : (status : ℕ) (refusal : Bool) → status ≤ 1 → (status ≡ 0 → refusal ≡ false) → refusal ≡ true → status ≡ 1
failed zero refusal most answered refused =
    let answer : refusal ≡ false = answered refl in
    cc
failed (suc n) refusal most answered refused = omega arith
