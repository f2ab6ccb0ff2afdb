-- What the calls of a server do, out of what they found.
use Rattle.rk_served.proofs.Words.{refl, ◌∙◌, ap, sym, List, ◌≡◌, [], subst, ℕ, inr, true, ◌∷◌, inl, ◌++◌, false, ◌⊎◌, not-true, false_from_ne_true, append-nil}
use Rattle.rk_served.proofs.Words.{set-get_or, get_or_from_slice_get, Some, Option, slice_get, slice_set, IfSome, Errno, SessionId, Handler, Client, Line, Ask}
use Rattle.rk_served.proofs.Words.{Subject, ready_waits, Step, has_wait, is_ready, World, Answer, Start, Refused, Launched, Gone, Collect, Asked, MovesOne}
use Rattle.rk_served.proofs.Words.{StartsNow, AnswersOne, RestsAt, is_stream, is_open, IsNextAt, HasFaultAt, shut_channel, IsCommand, Left, peer, without}
use Rattle.rk_served.proofs.Words.{one_step, no_step, step, reply_to, replies_to, collects, refuses, asks, shuts_client, shuts_handler, Answered, puts_reply}
use Rattle.rk_served.proofs.Words.{starts_one, fails_to_start, CannotMove, is_start, Output, Channel, Talks, Peer}
use Rattle.rk_message.specs.declared.reply.Reply.TheVariants as reply
use Rattle.rk_machine.specs.declared.event.Ran.TheVariants as ran
use Rattle.rk_served.specs.declared.output.Output.TheVariants as output
use Rattle.rk_served.specs.declared.stream.Message.TheVariants as message

-- ---- one ask

-- an answer that starts no key is no start
pub no_start : (a : Answer) → ((k : ℕ) (subject : Subject) → a ≡ Start k subject → ⊥) → is_start a ≡ false
no_start (Start k subject) h = absurd (h k subject refl)
no_start _ h = refl

module _ (conf : List Line) (now : ℕ) (old new : Left) (put put' : List Output) (who : SessionId) (ask : Ask) where
  -- an ask that starts nothing is answered by its step and its reply
  pub tells_one : (answer : Answer) → is_start answer ≡ false → Step old.world now (Asked who ask) answer new.world → new.peers ≡ old.peers → put' ≡ put
      ++ replies_to who answer → AnswersOne conf now old who ask put new put'
  tells_one answer none step peers puts = record {
    part = one_step now (Asked who ask) answer (replies_to who answer);
    answered = puts_reply (record { answer = answer; step = step; no_start = none; part_is = refl; peers = peers });
    outputs = puts;
  }

  -- an ask that starts a construction is answered by its step and the start of the handler
  pub start_one : (k : ℕ) (subject : Subject) (mid : World) → Step old.world now (Asked who ask) (Start k subject) mid
      → StartsNow conf now k subject (record { world = mid; peers = old.peers }) put new put' → AnswersOne conf now old who ask put new put'
  start_one k subject mid first (inl h) = record {
    part = one_step now (Asked who ask) (Start k subject) (output.Start k h.command ∷ []);
    answered = starts_one (record {
      key = k;
      subject = subject;
      command = h.command;
      step = subst (λ (w : World). Step old.world now (Asked who ask) (Start k subject) w) (sym h.world) first;
      is_command = subst (λ (w : World). IsCommand conf w now k subject h.command) (sym h.world) h.is_command;
      part_is = refl;
      before = h.adds.before;
      after = h.adds.after;
      others = h.adds.others;
      peers = h.adds.peers;
    });
    outputs = h.outputs;
  }
  start_one k subject mid first (inr h) = record {
    part = record {
      steps = step now (Asked who ask) (Start k subject) ∷ step now (Launched k ran.Failed) h.answer ∷ [];
      outputs = [];
    };
    answered = fails_to_start (record {
      key = k;
      subject = subject;
      mid = mid;
      answer = h.answer;
      first = first;
      no_command = h.no_command;
      second = h.step;
      part_is = refl;
      peers = h.peers;
    });
    outputs = h.outputs ∙ sym (append-nil put);
  }

-- ---- peers

set_self : (xs : List Peer) (i : ℕ) (x : Peer) → slice_get xs i ≡ Some x → slice_set xs i x ≡ xs
set_self xs i x at = ap (slice_set xs i) (sym (get_or_from_slice_get xs i x x at)) ∙ set-get_or xs i x

pub rests : (left : Left) (i : ℕ) (x : Peer) → slice_get left.peers i ≡ Some x → CannotMove left.world x.who x.channel → RestsAt left i
rests left i x at h = subst (λ (o : Option Peer). IfSome o (λ z. CannotMove left.world z.who z.channel)) (sym at) h

not_ready : (w : World) (s : SessionId) → has_wait w s ≡ false → is_ready w s ≡ false
not_ready w s none = false_from_ne_true _ (λ e. let h = ready_waits w s e in cc)

-- ---- one move

module _ (conf : List Line) (now : ℕ) (old new : Left) (put put' : List Output) (i : ℕ) (who : SessionId) (made_for : Option Subject) where
  -- a session that is ready collects its outcome, and is sent it
  pub collects_one : (p : Channel) → slice_get old.peers i ≡ Some (peer who p made_for) → is_stream p ≡ true → is_ready old.world who ≡ true → (answer : Answer)
      → Step old.world now (Collect who) answer new.world → new.peers ≡ old.peers → put' ≡ put ++ replies_to who answer → MovesOne conf now i old put new put'
  collects_one (Talks stream) at is ready answer step peers puts = record {
    part = one_step now (Collect who) answer (replies_to who answer);
    move = collects (record {
      who = who;
      stream = stream;
      made_for = made_for;
      at = at;
      ready = ready;
      answer = answer;
      step = step;
      part_is = refl;
      peers = peers;
    });
    outputs = puts;
  }
  collects_one _ at is ready answer step peers puts = absurd (cc)

  -- an invalid body is answered by its error, and leaves the world
  pub refuses_one : (p p' : Channel) (e : Errno) → slice_get old.peers i ≡ Some (peer who p made_for) → (has_wait old.world who ≡ false) × (is_open p ≡ true)
      → IsNextAt (message.Refused e) who now old.world p new.world p' → new.peers ≡ slice_set old.peers i (peer who p' made_for) → put' ≡ put
      ++ replies_to who (Refused e) → MovesOne conf now i old put new put'
  refuses_one (Talks stream) p' e at free next peers puts = record {
    part = no_step (reply_to who (reply.Refused e) ∷ []);
    move = refuses (record {
      who = who;
      stream = stream;
      rest = next.0;
      made_for = made_for;
      free = record { at = at; no_wait = free.0; not_shut = not-true stream.is_shut free.1 };
      body = next.2.0;
      takes = next.2.2;
      error = e;
      refused = next.2.3;
      world = next.2.1;
      peers = peers ∙ ap (λ (p : Channel). slice_set old.peers i (peer who p made_for)) next.1;
      part_is = refl;
    });
    outputs = puts;
  }
  refuses_one _ p' e at free next peers puts = absurd (let h = free.1 in cc)

  -- a session whose next message is an ask makes a move by what the ask is answered
  pub asks_one : (p p' : Channel) (answer : Answer) (mid : World) → slice_get old.peers i ≡ Some (peer who p made_for)
      → (has_wait old.world who ≡ false) × (is_open p ≡ true) → IsNextAt (message.Answered answer) who now old.world p mid p'
      → ((ask : Ask) → Step old.world now (Asked who ask) answer mid
      → AnswersOne conf now (record { world = old.world; peers = slice_set old.peers i (peer who p' made_for) }) who ask put new put')
      → MovesOne conf now i old put new put'
  asks_one (Talks stream) p' answer mid at free next told =
      let done = told next.2.1 next.2.4 in
      record {
        part = done.part;
        move = asks (record {
          who = who;
          stream = stream;
          rest = next.0;
          made_for = made_for;
          free = record { at = at; no_wait = free.0; not_shut = not-true stream.is_shut free.1 };
          body = next.2.0;
          takes = next.2.2;
          ask = next.2.1;
          spells = next.2.3;
          answered = subst (λ (p : Channel). Answered conf now
              (record { world = old.world; peers = slice_set old.peers i (peer who p made_for) }) who next.2.1 done.part new) next.1 done.answered;
        });
        outputs = done.outputs;
      }
  asks_one _ p' answer mid at free next told = absurd (let h = free.1 in cc)

module _ (conf : List Line) (now : ℕ) (old new : Left) (put put' : List Output) (i : ℕ) (made_for : Option Subject) where
  -- a client with a bad length is shut, and is gone
  pub shuts_client_one : (client : ℕ) (p : Channel) → slice_get old.peers i ≡ Some (peer (Client client) p made_for) → HasFaultAt p
      → (has_wait old.world (Client client) ≡ false) × (is_open p ≡ true) → (answer : Answer) → Step old.world now (Gone (Client client)) answer new.world
      → new.peers ≡ without (Client client) old.peers → put' ≡ put ++ output.Shut client ∷ [] → MovesOne conf now i old put new put'
  shuts_client_one client (Talks stream) at fault free answer step peers puts = record {
    part = one_step now (Gone (Client client)) answer (output.Shut client ∷ []);
    move = shuts_client (record {
      client = client;
      stream = stream;
      made_for = made_for;
      free = record { at = at; no_wait = free.0; not_shut = not-true stream.is_shut free.1 };
      fault = fault;
      answer = answer;
      step = step;
      peers = peers;
      part_is = refl;
    });
    outputs = puts;
  }
  shuts_client_one client _ at fault free answer step peers puts = absurd fault

  -- a handler with a bad length is shut, and leaves the world
  pub shuts_handler_one : (key : ℕ) (p : Channel) → slice_get old.peers i ≡ Some (peer (Handler key) p made_for) → HasFaultAt p
      → (has_wait old.world (Handler key) ≡ false) × (is_open p ≡ true) → new.world ≡ old.world
      → new.peers ≡ slice_set old.peers i (peer (Handler key) (shut_channel p) made_for) → put' ≡ put ++ output.ShutHandler key ∷ []
      → MovesOne conf now i old put new put'
  shuts_handler_one key (Talks stream) at fault free world peers puts = record {
    part = no_step (output.ShutHandler key ∷ []);
    move = shuts_handler (record {
      key = key;
      stream = stream;
      made_for = made_for;
      free = record { at = at; no_wait = free.0; not_shut = not-true stream.is_shut free.1 };
      fault = fault;
      world = world;
      peers = peers;
      part_is = refl;
    });
    outputs = puts;
  }
  shuts_handler_one key _ at fault free world peers puts = absurd fault

-- ---- what stands where no message is taken

module _ (who : SessionId) (now : ℕ) (world world' : World) where
  next_same : (p p' : Channel) → IsNextAt message.More who now world p world' p' ⊎ IsNextAt message.Fault who now world p world' p' → p' ≡ p
  next_same (Talks stream) p' (inl h) = h.1 ∙ ap Talks h.2.1
  next_same (Talks stream) p' (inr h) = h.1 ∙ ap Talks h.2.1
  next_same _ p' (inl h) = h.1
  next_same _ p' (inr h) = h.1

  pub next_world : (p p' : Channel) → IsNextAt message.More who now world p world' p' ⊎ IsNextAt message.Fault who now world p world' p' → world' ≡ world
  next_world (Talks stream) p' (inl h) = h.2.0
  next_world (Talks stream) p' (inr h) = h.2.0
  next_world _ p' (inl h) = h.2
  next_world _ p' (inr h) = h.2

  pub has_fault : (p p' : Channel) → IsNextAt message.Fault who now world p world' p' → HasFaultAt p
  has_fault (Talks stream) p' h = h.2.2
  has_fault _ p' h = absurd (let e = h.0 in cc)

-- looking for a message where none is whole leaves everything
pub next_left : (left : Left) (now i : ℕ) (who : SessionId) (made_for : Option Subject) (p p' : Channel) (world : World)
    → slice_get left.peers i ≡ Some (peer who p made_for)
    → IsNextAt message.More who now left.world p world p' ⊎ IsNextAt message.Fault who now left.world p world p'
    → record { world = world; peers = slice_set left.peers i (peer who p' made_for) } ≡ left
next_left left now i who made_for p p' world at next =
    ap (λ (w : World). record { world = w; peers = slice_set left.peers i (peer who p' made_for) }) (next_world who now left.world world p p' next)
    ∙ ap (λ (xs : List Peer). record { world = left.world; peers = xs })
    (ap (λ (q : Channel). slice_set left.peers i (peer who q made_for)) (next_same who now left.world world p p' next)
    ∙ set_self left.peers i (peer who p made_for) at)

-- a session that waits for nothing and has no whole message can't move
pub rests_more : (left : Left) (now i : ℕ) (who : SessionId) (made_for : Option Subject) (p p' : Channel) (world : World)
    → slice_get left.peers i ≡ Some (peer who p made_for) → has_wait left.world who ≡ false → IsNextAt message.More who now left.world p world p'
    → RestsAt left i
rests_more left now i who made_for p p' world at none next = rests left i (peer who p made_for) at (by_channel p next)
  where
    by_channel : (q : Channel) → IsNextAt message.More who now left.world q world p' → CannotMove left.world who q
    by_channel (Talks stream) h = (not_ready left.world who none, inr (inr h.2.2))
    by_channel _ h = tt
