use Rattle.std.proofs.Common.{◌≡◌, List, ℕ, Option, Result, Ok, Err, IfOk, false, sym, ◌∙◌}
use Rattle.rk_message.specs.Ask.{Ask}
use Rattle.rk_message.specs.declared.reply.Reply.{Reply}
use Rattle.rk_client.specs.declared.fault.PeerFault.{PeerFault}
use Rattle.rk_client.specs.Peer.{HasAsked, HasGreeted, refused, greeted, is_refusal}
use Rattle.rk_client.proofs.peer.exchange_greeted.Goals as goal

second : (written between written' unread unread_between unread' : Option (List ℕ)) (greeting ask : Ask) (welcome : Reply) (r : Result Reply PeerFault)
    → HasAsked written between unread unread_between greeting welcome → is_refusal welcome ≡ false → IfOk r (HasAsked between written' unread_between unread' ask)
    → IfOk r (HasGreeted written written' unread unread' greeting ask)
second written between written' unread unread_between unread' greeting ask welcome (Ok answer) first well then = greeted between unread_between welcome first well then
second written between written' unread unread_between unread' greeting ask welcome (Err e) first well then = tt

pub returns-then-is_refusal : goal.returns-then-is_refusal
returns-then-is_refusal g c = refused c.in_ok-welcome.ensures.asked (sym c.is_refusal.ensures ∙ c.if-is_refusal.true)

pub returns : goal.returns
returns g c =
    second _ _ _ _ _ _ _ _ c.in_ok-welcome.welcome c.exchange-2.result c.in_ok-welcome.ensures.asked (sym c.is_refusal.ensures ∙ c.if-is_refusal.false)
    c.exchange-2.ensures.asked
