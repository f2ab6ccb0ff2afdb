-- What is said to the daemon at a socket.
use Rattle.std.specs.Prelude.{ℕ, List, [], ◌∷◌, ◌++◌, Option, Some, None, option_map, Result}
use Rattle.rk_message.specs.Ask.{Ask}
use Rattle.rk_message.specs.declared.reply.Reply.{Reply}
use Rattle.rk_client.specs.declared.fault.PeerFault.{PeerFault}
use Rattle.rk_client.specs.Peer.{HasAsked, HasGreeted}
use Rattle.rk_ctl.specs.declared.search.Search.{Search}
use Rattle.rk_ctl.specs.Addresses.{AddressSaid}
use Rattle.rk_ctl.specs.Searching.{FoundSaid}

-- one connection: where the daemon is, the HELLO that is said first, if one is, what is asked after it, and the result
pub record Conversation : Type 0 where
  pub address : AddressSaid
  pub greeting : Option Ask
  pub ask : Ask
  pub answer : Result Reply PeerFault

-- what is said to it: an ask; or a search for keys, by where the daemon is, the HELLO, what they are looked for, for, and the result
pub data Talk : Type 0 where
  Asked : Conversation → Talk
  Searched : AddressSaid → Ask → Search → Result FoundSaid PeerFault → Talk

-- this was said, too
abbrev pub and_then : Option (List Talk) → Talk → Option (List Talk)
and_then story talk = option_map (λ s. s ++ talk ∷ []) story

-- the ask was written and its reply read, after the greeting if there is one: what was written and what was left to read, before and after
abbrev pub HasConversed : Option (List ℕ) → Option (List ℕ) → Option (List ℕ) → Option (List ℕ) → Option Ask → Ask → Reply → Type 0
HasConversed written written' unread unread' None ask reply = HasAsked written written' unread unread' ask reply
HasConversed written written' unread unread' (Some greeting) ask reply = HasGreeted written written' unread unread' greeting ask reply
