-- Each move makes what is left to do less, so that moves come to an end.
use Rattle.rk_served.proofs.Words.{refl, ◌∙◌, ap, sym, List, ◌≡◌, [], subst, ℕ, true, ◌∷◌, ◌++◌, Bool, false, cond, not, length, arith, zero, suc, ◌<◌, ◌&&◌}
use Rattle.rk_served.proofs.Words.{◌≤◌, ◌+◌, take, drop, ◌*◌, and_parts, and_from, sum_by-cons, sum_by-append, sum_by-set, sum_by-take-drop, sum_by-drop_more}
use Rattle.rk_served.proofs.Words.{sum_by-le-sum_by, same_Some, slice_get_within, get_or_from_slice_get, sum_by, Some, Option, slice_get, slice_set, SessionId}
use Rattle.rk_served.proofs.Words.{Handler, Client, Line, Ask, Subject, ready_waits, gains, collect_ends, idle_fresh, same-self, same_session, has_wait, World}
use Rattle.rk_served.proofs.Words.{Collect, is_stream, Left, peer, without, Part, collects, refuses, asks, shuts_client, shuts_handler, Answered, puts_reply}
use Rattle.rk_served.proofs.Words.{starts_one, fails_to_start, Move, closed, Takes, Unused, HasItsPeers, Channel, Starts, Talks, Pipes, Peer}
use Rattle.std.proofs.Math.Nat.{mul-le-mul_left}
use Rattle.std.proofs.lemmas.Nat.{mul-add-lt}
use Rattle.rk_frame.proofs.Lengths.{shows}
use Rattle.rk_served.proofs.PeersFit.{fits}

-- ---- what is left to do

abbrev pub bit : Bool → ℕ
bit b = cond b 1 0

-- each unused byte of a stream, and its end
abbrev pub unread : Channel → ℕ
unread (Talks u) = length u.bytes + bit (not u.is_shut)
unread (Starts piped) = 0
unread (Pipes bytes) = 0

abbrev pub total : (Channel → ℕ) → List Peer → ℕ
total f xs = sum_by (λ x. f x.channel) xs

abbrev pub stream : Channel → ℕ
stream p = bit (is_stream p)

-- whether a peer has a stream, and waits
abbrev pub waits : World → Peer → ℕ
waits w x = bit (is_stream x.channel && has_wait w x.who)

-- how much is left to do: bytes to be read and streams to be shut, and then waits to end, of which a stream has at most one
abbrev pub weight : Left → ℕ
weight left = total unread left.peers * (1 + total stream left.peers) + sum_by (waits left.world) left.peers

-- ---- sums

module _ (f : Peer → ℕ) where
  sum_set : (xs : List Peer) (i : ℕ) (x y : Peer) → slice_get xs i ≡ Some x → sum_by f (slice_set xs i y) + f x ≡ sum_by f xs + f y
  sum_set xs i x y at =
      ap (λ v. sum_by f (slice_set xs i y) + f v) (sym (get_or_from_slice_get xs i x x at)) ∙ sum_by-set f xs i y x (slice_get_within xs i x at)

  -- one peer more
  sum_added : (before after : List Peer) (x : Peer) → f x ≡ 0 → sum_by f (before ++ x ∷ after) ≡ sum_by f (before ++ after)
  sum_added before after x none = omega (arith, sum_by-append f before (x ∷ after), sum_by-append f before after, sum_by-cons f x after)

  -- one peer less
  sum_kept : (b : Bool) (x : Peer) (xs : List Peer) → sum_by f (cond b (x ∷ xs) xs) ≤ f x + sum_by f xs
  sum_kept true x xs = omega (arith, sum_by-cons f x xs)
  sum_kept false x xs = omega arith

  sum_without : (s : SessionId) (xs : List Peer) → sum_by f (without s xs) ≤ sum_by f xs
  sum_without s [] = omega arith
  sum_without s (x ∷ xs) = omega (arith, sum_without s xs, sum_kept (not (same_session x.who s)) x (without s xs), sum_by-cons f x xs)

  sum_lost : (xs : List Peer) (i : ℕ) (x : Peer) → slice_get xs i ≡ Some x → sum_by f (without x.who xs) + f x ≤ sum_by f xs
  sum_lost [] i x at = absurd (cc)
  sum_lost (z ∷ zs) zero x at =
      subst (λ (v : Peer). sum_by f (without v.who (z ∷ zs)) + f v ≤ sum_by f (z ∷ zs)) (same_Some z x at)
      (let gone = ap (λ b. sum_by f (cond (not b) (z ∷ without z.who zs) (without z.who zs))) (same-self z.who) in
      omega (arith, gone, sum_without z.who zs, sum_by-cons f z zs))
  sum_lost (z ∷ zs) (suc i) x at = omega (arith, sum_lost zs i x at, sum_kept (not (same_session z.who x.who)) z (without x.who zs), sum_by-cons f z zs)

-- one peer weighs less, and no other more
sum_less : (f g : Peer → ℕ) (xs : List Peer) (i : ℕ) (x : Peer) → slice_get xs i ≡ Some x → ((z : Peer) → f z ≤ g z) → f x < g x → sum_by f xs < sum_by g xs
sum_less f g xs i x at le less =
    let within = slice_get_within xs i x at in
    let is = get_or_from_slice_get xs i x x at in
    omega (
      arith,
      ap f is,
      ap g is,
      sum_by-take-drop f xs i,
      sum_by-take-drop g xs i,
      sum_by-drop_more f xs i x within,
      sum_by-drop_more g xs i x within,
      sum_by-le-sum_by f g (take i xs) le,
      sum_by-le-sum_by f g (drop (i + 1) xs) le,
    )

-- ---- moves

bit_le : (b c : Bool) → (b ≡ true → c ≡ true) → bit b ≤ bit c
bit_le true c h = subst (λ v. 1 ≤ bit v) (sym (h refl)) (omega arith)
bit_le false true h = omega arith
bit_le false false h = omega arith

waits_le : (old new : World) (x : Peer) → (has_wait new x.who ≡ true → has_wait old x.who ≡ true) → waits new x ≤ waits old x
waits_le old new x h = bit_le _ _ (λ e. let parts = and_parts _ _ e in and_from _ _ parts.0 (h parts.1))

-- where less is to be read, it does not matter who waits
less_read : (old new : Left) → total unread new.peers < total unread old.peers → total stream new.peers ≤ total stream old.peers → weight new < weight old
less_read old new less most =
    let within = sum_by-le-sum_by (waits new.world) (λ x. stream x.channel) new.peers (λ x. bit_le _ _ (λ e. (and_parts _ _ e).0)) in
    let one = mul-add-lt (total unread new.peers) (1 + total stream old.peers) (sum_by (waits new.world) new.peers) (total unread old.peers) less (omega arith) in
    let more : 1 + total stream new.peers ≤ 1 + total stream old.peers = omega arith in
    let two = mul-le-mul_left (total unread new.peers) more in
    omega arith

module _ (old : List Peer) (i : ℕ) (who : SessionId) (u v : Unused) (made_for : Option Subject) (at : slice_get old i ≡ Some (peer who (Talks u) made_for)) where
  -- a stream goes on
  read_on : unread (Talks v) < unread (Talks u) → total unread (slice_set old i (peer who (Talks v) made_for)) < total unread old
  read_on less = omega (arith, sum_set (λ x. unread x.channel) old i (peer who (Talks u) made_for) (peer who (Talks v) made_for) at)

  still_streams : total stream (slice_set old i (peer who (Talks v) made_for)) ≡ total stream old
  still_streams = omega (arith, sum_set (λ x. stream x.channel) old i (peer who (Talks u) made_for) (peer who (Talks v) made_for) at)

-- a body takes bytes away
takes_less : (body : List ℕ) (old new : Unused) → Takes body old new → unread (Talks new) < unread (Talks old)
takes_less body old new t =
    let s = shows old.bytes body new.bytes t.bytes.is_body t.bytes.front in
    let room = s.room in
    let some = t.bytes.is_body.0 in
    let open_still = ap (λ b. bit (not b)) t.open_still in
    omega arith

-- what an ask starts has no stream yet
asked_total : (conf : List Line) (now : ℕ) (old : Left) (who : SessionId) (ask : Ask) (part : Part) (new : Left) → Answered conf now old who ask part new
    → (f : Channel → ℕ) → ((piped : Bool) → f (Starts piped) ≡ 0) → total f new.peers ≡ total f old.peers
asked_total conf now old who ask part new (puts_reply h) f none = ap (total f) h.peers
asked_total conf now old who ask part new (starts_one h) f none =
    ap (total f) h.peers ∙ sum_added (λ x. f x.channel) h.before h.after _ (none h.command.piped) ∙ ap (total f) (sym h.others)
asked_total conf now old who ask part new (fails_to_start h) f none = ap (total f) h.peers

-- every move makes what is left to do less
pub lighter : (conf : List Line) (now : ℕ) (old : Left) (index : ℕ) (part : Part) (new : Left) → Move conf now old index part new → HasItsPeers old
    → weight new < weight old
lighter conf now old index part new (collects m) s =
    subst (λ (xs : List Peer). weight (record { world = new.world; peers = xs }) < weight old) (sym m.peers)
    (let less = sum_less (waits new.world) (waits old.world) old.peers index (peer m.who (Talks m.stream) m.made_for) m.at
    (λ z. waits_le old.world new.world z (gains old.world now (Collect m.who) m.answer new.world m.step (idle_fresh old.world (fits old s).idle) z.who refl))
    (let after = ap bit (collect_ends old.world now m.who m.answer new.world m.ready m.step) in
    let before = ap bit (ready_waits old.world m.who m.ready) in
    omega arith) in
    omega arith)
lighter conf now old index part new (refuses m) s =
    let less = read_on old.peers index m.who m.stream m.rest m.made_for m.free.at (takes_less m.body m.stream m.rest m.takes) in
    let same = still_streams old.peers index m.who m.stream m.rest m.made_for m.free.at in
    less_read old new (omega (arith, ap (total unread) m.peers)) (omega (arith, ap (total stream) m.peers))
lighter conf now old index part new (asks m) s =
    let less = read_on old.peers index m.who m.stream m.rest m.made_for m.free.at (takes_less m.body m.stream m.rest m.takes) in
    let same = still_streams old.peers index m.who m.stream m.rest m.made_for m.free.at in
    less_read old new (omega (arith, asked_total conf now _ m.who m.ask part new m.answered unread (λ piped. refl)))
    (omega (arith, asked_total conf now _ m.who m.ask part new m.answered stream (λ piped. refl)))
lighter conf now old index part new (shuts_client m) s =
    let x = peer (Client m.client) (Talks m.stream) m.made_for in
    let open_still = ap (λ b. bit (not b)) m.free.not_shut in
    less_read old new (omega (arith, ap (total unread) m.peers, sum_lost (λ x. unread x.channel) old.peers index x m.free.at))
    (omega (arith, ap (total stream) m.peers, sum_lost (λ x. stream x.channel) old.peers index x m.free.at))
lighter conf now old index part new (shuts_handler m) s =
    let open_still = ap (λ b. bit (not b)) m.free.not_shut in
    let less = read_on old.peers index (Handler m.key) m.stream (closed m.stream) m.made_for m.free.at (omega arith) in
    let same = still_streams old.peers index (Handler m.key) m.stream (closed m.stream) m.made_for m.free.at in
    less_read old new (omega (arith, ap (total unread) m.peers)) (omega (arith, ap (total stream) m.peers))
