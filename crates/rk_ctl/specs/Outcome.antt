-- What the program did on its streams, and what it said to the daemon.
use Rattle.std.specs.Prelude.{◌≡◌, ℕ, List, [], Option, Some, None, Result, Ok, IsSome, MatchResult, true, false, if◌then◌else◌}
use Rattle.std.specs.Io.KnownBytes.{Appends}
use Rattle.rk_message.specs.Ask.{Ask}
use Rattle.rk_message.specs.declared.reply.Reply.{Reply}
use Rattle.rk_client.specs.declared.fault.PeerFault.{PeerFault}
use Rattle.rk_client.specs.Peer.{HasAsked, is_refusal}
use Rattle.rk_client.specs.Printed.{printed}
use Rattle.rk_run.specs.Words.{wanted_said}
use Rattle.rk_ctl.specs.Calls.{Asks, asks_help, greeting_before}
use Rattle.rk_ctl.specs.Daemon.{Talk, Asked, Searched, and_then}
use Rattle.rk_ctl.specs.Said.{CallSaid, OptionsSaid}
use Rattle.rk_ctl.specs.Searching.{FoundSaid, Told, Turned}
use Rattle.rk_ctl.specs.Surveys.{SurveySaid, survey_said, greeting_for}
use Rattle.rk_names.specs.declared.errors.Errno.{Errno}
use Rattle.rk_ctl.specs.Around.{call_in, is_lost}
use Rattle.rk_ctl.specs.declared.around.Around.{Around}

-- what is printed of a reply: nothing if it is to be quiet, and else its text
abbrev pub told_reply : OptionsSaid → Reply → List ℕ
told_reply options reply = if options.quiet then [] else printed options.raw reply

-- it wrote a text, whatever it says: what was written, before and after
abbrev pub HasTold : Option (List ℕ) → Option (List ℕ) → Type 0
HasTold contents contents' = (text : List ℕ) × Appends contents contents' text

-- the ask of the words went to the socket that they name, or else to that of the environment, once, after the HELLO of their options and with their time, and
-- this is the answer: what was said to the daemon, before and after
pub record HasAskedAs (call : CallSaid) (ask : Ask) (answer : Result Reply PeerFault) (around : Around) (words : List (List ℕ)) (said said' : Option (List Talk)) : Type 0 where
  pub is_call : call_in around words ≡ Some call
  pub path : List ℕ
  pub is_socket : call.options.socket ≡ Some path
  pub asks : Asks call ask
  pub once : said' ≡ and_then said (Asked (record { address = record { path = path; seconds = call.options.timeout }; greeting = greeting_before call; ask = ask; answer = answer }))

-- what a run with status 0 did, by its words: what was said to the daemon, what was left to read, what was written and what was told, before and after
pub data HasDone (around : Around) (words : List (List ℕ)) (said said' : Option (List Talk)) (unread unread' written written' told told' : Option (List ℕ)) : Type 0 where
  explained : asks_help words ≡ true → said' ≡ said → HasTold written written' → HasDone around words said said' unread unread' written written' told told'
  asked_as_handler : (call : CallSaid) (ask : Ask) (reply : Reply) → call_in around words ≡ Some call → call.options.socket ≡ None → is_lost around call ≡ false
      → Asks call ask
      → said' ≡ said → HasAsked written written' unread unread' ask reply → is_refusal reply ≡ false → Appends told told' (told_reply call.options reply)
      → HasDone around words said said' unread unread' written written' told told'
  asked_as_client : (call : CallSaid) (ask : Ask) (reply : Reply) → HasAskedAs call ask (Ok reply) around words said said' → is_refusal reply ≡ false
      → Appends written written' (told_reply call.options reply) → HasDone around words said said' unread unread' written written' told told'
  searched : (survey : SurveySaid) (text : List ℕ) → survey_said around words ≡ Some survey
      → said' ≡ and_then said (Searched survey.address (greeting_for survey) survey.search (Ok (Told text))) → Appends written written' text
      → HasDone around words said said' unread unread' written written' told told'
  ran : IsSome (wanted_said words) → said' ≡ said → unread' ≡ unread → written' ≡ written → HasDone around words said said' unread unread' written written' told told'

-- what a run with this status said to the daemon, by its words: nothing, or what they ask, once; and without an answer, or with a refusal, the status is 1
pub data HasSpoken (around : Around) (words : List (List ℕ)) (said said' : Option (List Talk)) (status : ℕ) : Type 0 where
  silent : said' ≡ said → HasSpoken around words said said' status
  spoke : (call : CallSaid) (ask : Ask) (answer : Result Reply PeerFault) → HasAskedAs call ask answer around words said said'
      → MatchResult answer (λ reply. is_refusal reply ≡ true → status ≡ 1) (λ fault. status ≡ 1) → HasSpoken around words said said' status
  looked : (survey : SurveySaid) (answer : Result FoundSaid PeerFault) → survey_said around words ≡ Some survey
      → said' ≡ and_then said (Searched survey.address (greeting_for survey) survey.search answer)
      → MatchResult answer (λ f. (e : Errno) → f ≡ Turned e → status ≡ 1) (λ fault. status ≡ 1) → HasSpoken around words said said' status
