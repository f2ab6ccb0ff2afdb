-- Whatever is served, the peers are those of who is there.
use Rattle.rk_served.proofs.Words.{refl, ◌∙◌, ap, sym, List, ◌≡◌, subst, ℕ, true, Bool, false, cond, not, ◌&&◌, ◌||◌, eq-eqb, eqb-true, Some, Option, None}
use Rattle.rk_served.proofs.Words.{slice_get, slice_set, is_some, nat_eq, option_map, SessionId, Handler, Client, stage_of, Construction, Stage, Starting}
use Rattle.rk_served.proofs.Words.{Plain, Piped, Negating, Line, Ask, Subject, is_client, client_after, clients, effect, kind_in, Kind, kind_of, to_start}
use Rattle.rk_served.proofs.Words.{talks, pipes, to_follow, kind, is_due, kind_after, kinds, launched_kind, IsIdle, idle_step, start_draws, launch_kind}
use Rattle.rk_served.proofs.Words.{same-self, done, Settles, refused_if, Unless, Event, same_session, may_launch, Step, is_owed, World, Answer, Start, Negate}
use Rattle.rk_served.proofs.Words.{Launched, Gone, Opened, Ended, Asked, How, Left, peer, without, Part, Answered, puts_reply, starts_one, fails_to_start}
use Rattle.rk_served.proofs.Words.{is_start_of, Adds, has_client, HasItsPeers, peer_of, are_apart, has_channel, fits_stage, has_peer, Channel, Starts, Talks}
use Rattle.rk_served.proofs.Words.{Pipes, Peer, shadow}
use Rattle.std.specs.FinMap as map
use Rattle.rk_names.specs.declared.errors.Errno.TheVariants as errno
use Rattle.rk_machine.specs.declared.event.Ran.{Ran}
use Rattle.rk_machine.specs.declared.event.Ran.TheVariants as ran
use Rattle.rk_served.proofs.PeerLists.{seen_alike, peer_added, apart_added, peer_without, apart_without, peer_set, apart_set}

-- ---- the stage of a construction and the channel of its peer

-- the handler of a construction that is so far has such a channel
abbrev pub serves : Channel → Kind → Bool
serves (Talks stream) talks = true
serves (Starts piped) to_start = true
serves (Starts piped) to_follow = not piped
serves (Pipes bytes) pipes = true
serves _ _ = false

-- how far the construction is fits its peer
abbrev pub agree : Option Kind → Option Peer → Bool
agree None None = true
agree (Some x) (Some p) = serves p.channel x && is_some p.subject
agree _ _ = false

channel_serves : (st : Stage) (p : Channel) → has_channel st p ≡ serves p (kind st)
channel_serves Starting (Starts piped) = refl
channel_serves (Plain s) (Talks stream) = refl
channel_serves Piped (Pipes bytes) = refl
channel_serves Negating (Starts piped) = refl
channel_serves _ _ = refl

stage_agrees : (o : Option Construction) (x : Option Peer) → fits_stage (option_map (λ c. c.stage) o) x ≡ agree (kind_in o) x
stage_agrees None None = refl
stage_agrees None (Some x) = refl
stage_agrees (Some c) None = refl
stage_agrees (Some c) (Some x) = ap (λ b. b && is_some x.subject) (channel_serves c.stage x.channel)

no_kind : (o : Option Peer) → agree None o ≡ true → is_some o ≡ false
no_kind None h = refl
no_kind (Some x) h = absurd (cc)

-- ---- the peers fit the world

-- the peers are the clients and the constructions of the world, each once and with its channel
pub record Fits (left : Left) : Type 0 where
  pub clients : (n : ℕ) → has_peer left.peers (Client n) ≡ is_client left.world.sessions n
  pub kinds : (k : ℕ) → agree (kind_of left.world.sessions k) (peer_of left.peers (Handler k)) ≡ true
  pub apart : are_apart left.peers ≡ true
  pub idle : IsIdle left.world

stage_none : (o : Option Construction) → option_map (λ c. c.stage) o ≡ None → kind_in o ≡ None
stage_none None e = refl
stage_none (Some c) e = absurd (cc)

none_stage : (o : Option Construction) → kind_in o ≡ None → option_map (λ c. c.stage) o ≡ None
none_stage None e = refl
none_stage (Some c) e = absurd (cc)

-- peers of those who are there fit the world
pub fits : (left : Left) → HasItsPeers left → Fits left
fits left s = record {
  clients = s.clients;
  kinds = λ k. sym (stage_agrees (map.get left.world.sessions.constructions k) _) ∙ s.constructions k;
  apart = s.apart;
  idle = λ k h. stage_none (map.get left.world.sessions.constructions k) (s.idle k h);
}

-- peers that fit the world are of those who are there
pub has_its_peers : (left : Left) → Fits left → HasItsPeers left
has_its_peers left f = record {
  clients = f.clients;
  constructions = λ k. stage_agrees (map.get left.world.sessions.constructions k) _ ∙ f.kinds k;
  apart = f.apart;
  idle = λ k h. none_stage (map.get left.world.sessions.constructions k) (f.idle k h);
}

-- ---- what a change leaves of the peers

-- this session has that peer, or none, and every other has what it had
abbrev pub Becomes : SessionId → Option Peer → List Peer → List Peer → Type 0
Becomes s o old new = (t : SessionId) → peer_of new t ≡ cond (same_session s t) o (peer_of old t)

added : (x : Peer) (old new : List Peer) → Adds x old new → has_peer old x.who ≡ false → Becomes x.who (Some x) old new
added x old new adds none t =
    ap (λ xs. peer_of xs t) adds.peers ∙ peer_added adds.before adds.after x (ap (λ xs. has_peer xs x.who) (sym adds.others) ∙ none) t
    ∙ ap (λ xs. cond (same_session x.who t) (Some x) (peer_of xs t)) (sym adds.others)

added_apart : (x : Peer) (old new : List Peer) → Adds x old new → has_peer old x.who ≡ false → are_apart old ≡ true → are_apart new ≡ true
added_apart x old new adds none apart =
    ap are_apart adds.peers
    ∙ apart_added adds.before adds.after x (ap (λ xs. has_peer xs x.who) (sym adds.others) ∙ none) (ap are_apart (sym adds.others) ∙ apart)

lost : (s : SessionId) (old new : List Peer) → new ≡ without s old → Becomes s None old new
lost s old new peers t = ap (λ xs. peer_of xs t) peers ∙ peer_without s old t

none_after : (s : SessionId) (xs : List Peer) → has_peer (without s xs) s ≡ false
none_after s xs = ap is_some (peer_without s xs s ∙ ap (λ b. cond b None (peer_of xs s)) (same-self s))

-- in place of a peer that is lost another is added
exchanged : (x : Peer) (old new : List Peer) → Adds x (without x.who old) new → Becomes x.who (Some x) old new
exchanged x old new adds t =
    added x (without x.who old) new adds (none_after x.who old) t ∙ ap (cond (same_session x.who t) (Some x)) (peer_without x.who old t)
    ∙ shadow (same_session x.who t) (Some x) None (peer_of old t)

changed : (old new : List Peer) (i : ℕ) (s : SessionId) (p q : Channel) (m : Option Subject) → are_apart old ≡ true → slice_get old i ≡ Some (peer s p m)
    → new ≡ slice_set old i (peer s q m) → Becomes s (Some (peer s q m)) old new × (are_apart new ≡ true)
changed old new i s p q m apart at peers = (
  λ t. ap (λ xs. peer_of xs t) peers ∙ peer_set old i (peer s p m) (peer s q m) apart at refl t,
  ap are_apart peers ∙ apart_set old i (peer s p m) (peer s q m) at refl ∙ apart,
)

-- ---- what a change leaves of the fit

-- both change alike
agree_set : (b : Bool) (x y : Option Kind) (x' y' : Option Peer) → agree x x' ≡ true → agree y y' ≡ true → agree (cond b x y) (cond b x' y') ≡ true
agree_set true x y x' y' h g = h
agree_set false x y x' y' h g = g

module _ (old new : Left) (f : Fits old) (apart : are_apart new.peers ≡ true) (idle : IsIdle new.world) where
  -- the peers stay, and so do the clients and how far each construction is
  peers_fit : new.peers ≡ old.peers → ((n : ℕ) → is_client new.world.sessions n ≡ is_client old.world.sessions n)
      → ((k : ℕ) → kind_of new.world.sessions k ≡ kind_of old.world.sessions k) → Fits new
  peers_fit same cs ks = record {
    clients = λ n. ap (λ xs. has_peer xs (Client n)) same ∙ f.clients n ∙ sym (cs n);
    kinds = λ k. (λ i. agree (ks k i) (peer_of (same i) (Handler k))) ∙ f.kinds k;
    apart = apart;
    idle = idle;
  }

  -- a client has another peer, or none
  client_fits : (n : ℕ) (o : Option Peer) → Becomes (Client n) o old.peers new.peers
      → ((m : ℕ) → is_client new.world.sessions m ≡ cond (nat_eq n m) (is_some o) (is_client old.world.sessions m))
      → ((k : ℕ) → kind_of new.world.sessions k ≡ kind_of old.world.sessions k) → Fits new
  client_fits n o becomes cs ks = record {
    clients = λ m. ap is_some (becomes (Client m)) ∙ chosen (nat_eq n m) o (peer_of old.peers (Client m)) ∙ ap (cond (nat_eq n m) (is_some o)) (f.clients m)
        ∙ sym (cs m);
    kinds = λ k. (λ i. agree (ks k i) (becomes (Handler k) i)) ∙ f.kinds k;
    apart = apart;
    idle = idle;
  }
    where
      chosen : (b : Bool) (x y : Option Peer) → is_some (cond b x y) ≡ cond b (is_some x) (is_some y)
      chosen true x y = refl
      chosen false x y = refl

  -- a construction is further, or at its end, and its peer with it
  handler_fits : (k : ℕ) (x : Option Kind) (o : Option Peer) → Becomes (Handler k) o old.peers new.peers → agree x o ≡ true
      → ((n : ℕ) → is_client new.world.sessions n ≡ is_client old.world.sessions n)
      → ((q : ℕ) → kind_of new.world.sessions q ≡ cond (nat_eq k q) x (kind_of old.world.sessions q)) → Fits new
  handler_fits k x o becomes agreed cs ks = record {
    clients = λ n. ap is_some (becomes (Client n)) ∙ f.clients n ∙ sym (cs n);
    kinds = λ q. (λ i. agree (ks q i) (becomes (Handler q) i)) ∙ agree_set (nat_eq k q) x _ o _ agreed (f.kinds q);
    apart = apart;
    idle = idle;
  }

-- what a step leaves: the clients that are there, how far each construction is, and nothing of what was never drawn
pub record IsAfter (old : World) (e : Event) (a : Answer) (new : World) : Type 0 where
  pub clients : (n : ℕ) → is_client new.sessions n ≡ client_after n e a (is_client old.sessions n)
  pub kinds : (k : ℕ) → kind_of new.sessions k ≡ kind_after k e a (kind_of old.sessions k)
  pub idle : IsIdle old → IsIdle new

is_after : (old : World) (now : ℕ) (e : Event) (a : Answer) (new : World) → Step old now e a new → IsAfter old e a new
is_after old now e a new h = record {
  clients = clients old now e a new (effect old now e a new h);
  kinds = kinds old now e a new (effect old now e a new h);
  idle = idle_step old now e a new h;
}

-- the same peers fit after a step that leaves who is there and how far each construction is
pub same_peers : (old new : Left) (now : ℕ) (e : Event) (a : Answer) → Step old.world now e a new.world → ((n : ℕ) (b : Bool) → client_after n e a b ≡ b)
    → ((k : ℕ) (o : Option Kind) → kind_after k e a o ≡ o) → new.peers ≡ old.peers → Fits old → Fits new
same_peers old new now e a h cs ks same f =
    let after = is_after old.world now e a new.world h in
    peers_fit old new f (ap are_apart same ∙ f.apart) (after.idle f.idle) same (λ n. after.clients n ∙ cs n _) (λ k. after.kinds k ∙ ks k _)

-- another stream, or more bytes
pub replaced : (old new : Left) (i : ℕ) (s : SessionId) (p q : Channel) (m : Option Subject) → slice_get old.peers i ≡ Some (peer s p m)
    → new.peers ≡ slice_set old.peers i (peer s q m) → ((x : Kind) → serves q x ≡ serves p x) → new.world ≡ old.world → Fits old → Fits new
replaced old new i s p q m at peers alike w f = record {
  clients = λ n. ap (λ xs. has_peer xs (Client n)) peers ∙ seen_alike is_some old.peers i (peer s p m) (peer s q m) at refl refl (Client n) ∙ f.clients n
      ∙ ap (λ (v : World). is_client v.sessions n) (sym w);
  kinds = λ k. (λ j. agree (kind_of (w j).sessions k) (peer_of (peers j) (Handler k)))
      ∙ seen_alike (agree (kind_of old.world.sessions k)) old.peers i (peer s p m) (peer s q m) at refl (as_before (kind_of old.world.sessions k)) (Handler k)
      ∙ f.kinds k;
  apart = ap are_apart peers ∙ apart_set old.peers i (peer s p m) (peer s q m) at refl ∙ f.apart;
  idle = subst IsIdle (sym w) f.idle;
}
  where
    as_before : (o : Option Kind) → agree o (Some (peer s q m)) ≡ agree o (Some (peer s p m))
    as_before None = refl
    as_before (Some x) = ap (λ b. b && is_some m) (alike x)

-- ---- clients come and go

-- the peers fit after a client comes and gets one
pub opened_fits : (old new : Left) (now n : ℕ) (p : Channel) → has_client old.world n ≡ false → Step old.world now (Opened (Client n)) done new.world
    → Adds (peer (Client n) p None) old.peers new.peers → Fits old → Fits new
opened_fits old new now n p absent h adds f =
    let after = is_after old.world now (Opened (Client n)) done new.world h in
    let none : has_peer old.peers (Client n) ≡ false = f.clients n ∙ absent in
    client_fits old new f (added_apart _ old.peers new.peers adds none f.apart) (after.idle f.idle) n (Some (peer (Client n) p None))
    (added _ old.peers new.peers adds none) (λ m. after.clients m ∙ comes (nat_eq n m) _) after.kinds
  where
    comes : (b c : Bool) → (b || c) ≡ cond b true c
    comes true c = refl
    comes false c = refl

-- the peers fit after a client goes and its peer is taken out
pub gone_fits : (old new : Left) (now n : ℕ) → Step old.world now (Gone (Client n)) done new.world → new.peers ≡ without (Client n) old.peers → Fits old
    → Fits new
gone_fits old new now n h peers f =
    let after = is_after old.world now (Gone (Client n)) done new.world h in
    client_fits old new f (ap are_apart peers ∙ apart_without (Client n) old.peers f.apart) (after.idle f.idle) n None
    (lost (Client n) old.peers new.peers peers) (λ m. after.clients m ∙ goes (nat_eq n m) _) after.kinds
  where
    goes : (b c : Bool) → (not b && c) ≡ cond b false c
    goes true c = refl
    goes false c = refl

-- ---- constructions begin, go on and end

-- a construction that has ended, or could not start
pub ended_fits : (old new : Left) (now k : ℕ) (e : Event) → ((n : ℕ) (b : Bool) → client_after n e done b ≡ b)
    → ((q : ℕ) (o : Option Kind) → kind_after q e done o ≡ cond (nat_eq k q) None o)
    → Step old.world now e done new.world → new.peers ≡ without (Handler k) old.peers → Fits old → Fits new
ended_fits old new now k e cs ks h peers f =
    let after = is_after old.world now e done new.world h in
    handler_fits old new f (ap are_apart peers ∙ apart_without (Handler k) old.peers f.apart) (after.idle f.idle) k None None
    (lost (Handler k) old.peers new.peers peers) refl (λ n. after.clients n ∙ cs n _) (λ q. after.kinds q ∙ ks q _)

-- a handler that runs from now on
pub runs_fits : (old new : Left) (now k : ℕ) (r : Ran) (i : ℕ) (p q : Channel) (subject : Subject)
    → agree (launched_kind r) (Some (peer (Handler k) q (Some subject))) ≡ true → Step old.world now (Launched k r) done new.world
    → slice_get old.peers i ≡ Some (peer (Handler k) p (Some subject)) → new.peers ≡ slice_set old.peers i (peer (Handler k) q (Some subject)) → Fits old
    → Fits new
runs_fits old new now k r i p q subject agreed h at peers f =
    let after = is_after old.world now (Launched k r) done new.world h in
    let by = changed old.peers new.peers i (Handler k) p q (Some subject) f.apart at peers in
    handler_fits old new f by.1 (after.idle f.idle) k (launched_kind r) _ by.0 agreed after.clients after.kinds

-- a start, whose command is output
starts_fits : (old new : Left) (now k : ℕ) (s : SessionId) (x : Ask) (subject : Subject) (piped : Bool)
    → Step old.world now (Asked s x) (Start k subject) new.world → Adds (peer (Handler k) (Starts piped) (Some subject)) old.peers new.peers → Fits old
    → Fits new
starts_fits old new now k s x subject piped h adds f =
    let after = is_after old.world now (Asked s x) (Start k subject) new.world h in
    let fresh : kind_of old.world.sessions k ≡ None = f.idle k (start_draws old.world now (Asked s x) (Start k subject) new.world
    (effect old.world now (Asked s x) (Start k subject) new.world h) k subject refl).0 in
    let none = no_kind (peer_of old.peers (Handler k)) (ap (λ y. agree y (peer_of old.peers (Handler k))) (sym fresh) ∙ f.kinds k) in
    handler_fits old new f (added_apart _ old.peers new.peers adds none f.apart) (after.idle f.idle) k (Some to_start) _
    (added _ old.peers new.peers adds none) refl after.clients after.kinds

-- a plain command that is output where a piped handler has failed
pub follows_fits : (old new : Left) (now k : ℕ) (how : How) (payload : Option (List ℕ)) (subject : Subject)
    → Step old.world now (Ended k how payload) (Negate k) new.world
    → Adds (peer (Handler k) (Starts false) (Some subject)) (without (Handler k) old.peers) new.peers → Fits old → Fits new
follows_fits old new now k how payload subject h adds f =
    let after = is_after old.world now (Ended k how payload) (Negate k) new.world h in
    handler_fits old new f
    (added_apart _ (without (Handler k) old.peers) new.peers adds (none_after (Handler k) old.peers) (apart_without (Handler k) old.peers f.apart))
    (after.idle f.idle) k (Some to_follow) _ (exchanged (peer (Handler k) (Starts false) (Some subject)) old.peers new.peers adds) refl
    after.clients after.kinds

-- the start of what was to follow fails at once
pub follows_none_fits : (old new : Left) (mid : World) (now k : ℕ) (how : How) (payload : Option (List ℕ))
    → Step old.world now (Ended k how payload) (Negate k) mid → Step mid now (Launched k ran.Failed) done new.world
    → new.peers ≡ without (Handler k) old.peers → Fits old → Fits new
follows_none_fits old new mid now k how payload first second peers f =
    let one = is_after old.world now (Ended k how payload) (Negate k) mid first in
    let two = is_after mid now (Launched k ran.Failed) done new.world second in
    handler_fits old new f (ap are_apart peers ∙ apart_without (Handler k) old.peers f.apart) (two.idle (one.idle f.idle)) k None None
    (lost (Handler k) old.peers new.peers peers) refl (λ n. two.clients n ∙ one.clients n)
    (λ q. two.kinds q ∙ ap (cond (nat_eq k q) None) (one.kinds q) ∙ shadow (nat_eq k q) None (Some to_follow) (kind_of old.world.sessions q))

-- ---- a construction that waits for its start is launched

-- an event that is not refused is answered as done
settled : (b : Bool) (w : World) (a : Answer) (v u : World) → b ≡ true → Unless (refused_if (not b) errno.Einval) w a v (Settles done u a v) → a ≡ done
settled true w a v u e h = h.0
settled false w a v u e h = absurd (cc)

-- a launch that is owed is answered as done
pub launch_done : (w : World) (now k : ℕ) (r : Ran) (a : Answer) (v : World) → is_owed w (Launched k r) ≡ true → Step w now (Launched k r) a v → a ≡ done
unfolding Step
launch_done w now k r a v h step = settled (may_launch r (stage_of w.sessions k)) w a v _ h step

-- the start of a construction that was just begun, or goes on, is owed
failed_owed : (w : World) (k : ℕ) (x : Kind) → kind_of w.sessions k ≡ Some x → is_due (Some x) ≡ true → is_owed w (Launched k ran.Failed) ≡ true
failed_owed w k x is due = launch_kind w k ran.Failed ∙ ap is_due is ∙ due

-- after an end that another handler follows, a failed launch of that one is owed
pub follow_owed : (old : World) (now k : ℕ) (how : How) (payload : Option (List ℕ)) (mid : World) → Step old now (Ended k how payload) (Negate k) mid
    → is_owed mid (Launched k ran.Failed) ≡ true
follow_owed old now k how payload mid h =
    failed_owed mid k to_follow
    ((is_after old now (Ended k how payload) (Negate k) mid h).kinds k ∙ ap (λ b. cond b (Some to_follow) (kind_of old.sessions k)) (eq-eqb k k refl)) refl

-- a start that fails at once
module _ (old mid new : World) (now k : ℕ) (s : SessionId) (x : Ask) (subject : Subject) (a : Answer) (first : Step old now (Asked s x) (Start k subject) mid)
    (second : Step mid now (Launched k ran.Failed) a new) (idle : IsIdle old) where
  -- there was no construction of its key
  pub failed_fresh : kind_of old.sessions k ≡ None
  failed_fresh = idle k (start_draws old now (Asked s x) (Start k subject) mid (effect old now (Asked s x) (Start k subject) mid first) k subject refl).0

  -- and there is none then
  pub failed_kinds : (q : ℕ) → kind_of new.sessions q ≡ kind_of old.sessions q
  failed_kinds q =
      let began : (j : ℕ) → kind_of mid.sessions j ≡ cond (nat_eq k j) (Some to_start) (kind_of old.sessions j) =
      (is_after old now (Asked s x) (Start k subject) mid first).kinds in
      let there = failed_owed mid k to_start (began k ∙ ap (λ b. cond b (Some to_start) (kind_of old.sessions k)) (eq-eqb k k refl)) refl in
      (is_after mid now (Launched k ran.Failed) a new second).kinds q
      ∙ ap (λ y. kind_after q (Launched k ran.Failed) y (kind_of mid.sessions q)) (launch_done mid now k ran.Failed a new there second)
      ∙ ap (cond (nat_eq k q) None) (began q)
      ∙ back (nat_eq k q) (kind_of old.sessions q) (λ h. ap (kind_of old.sessions) (sym (eqb-true k q h)) ∙ failed_fresh)
    where
      back : (b : Bool) (o : Option Kind) → (b ≡ true → o ≡ None) → cond b None (cond b (Some to_start) o) ≡ o
      back true o h = sym (h refl)
      back false o h = refl

failed_fits : (old new : Left) (mid : World) (now k : ℕ) (s : SessionId) (x : Ask) (subject : Subject) (a : Answer)
    → Step old.world now (Asked s x) (Start k subject) mid → Step mid now (Launched k ran.Failed) a new.world
    → new.peers ≡ old.peers → Fits old → Fits new
failed_fits old new mid now k s x subject a first second same f =
    let one = is_after old.world now (Asked s x) (Start k subject) mid first in
    let two = is_after mid now (Launched k ran.Failed) a new.world second in
    peers_fit old new f (ap are_apart same ∙ f.apart) (two.idle (one.idle f.idle)) same (λ n. two.clients n ∙ one.clients n)
    (failed_kinds old.world mid new.world now k s x subject a first second f.idle)

-- ---- moves

quiet_ask : (q : ℕ) (s : SessionId) (x : Ask) (a : Answer) (o : Option Kind) → is_start_of a ≡ false → kind_after q (Asked s x) a o ≡ o
quiet_ask q s x (Start k subject) o h = absurd (cc)
quiet_ask q s x _ o h = refl

-- the peers fit after an ask is answered
pub answered_fits : (conf : List Line) (now : ℕ) (old : Left) (who : SessionId) (ask : Ask) (part : Part) (new : Left) → Answered conf now old who ask part new
    → Fits old → Fits new
answered_fits conf now old who ask part new (puts_reply h) f =
    same_peers old new now (Asked who ask) h.answer h.step (λ n b. refl) (λ k o. quiet_ask k who ask h.answer o h.no_start) h.peers f
answered_fits conf now old who ask part new (starts_one h) f =
    starts_fits old new now h.key who ask h.subject h.command.piped h.step (record { before = h.before; after = h.after; others = h.others; peers = h.peers }) f
answered_fits conf now old who ask part new (fails_to_start h) f = failed_fits old new h.mid now h.key who ask h.subject h.answer h.first h.second h.peers f

-- a client that has a peer is there, and goes
pub gone_done : (w : World) (now n : ℕ) (a : Answer) (v : World) → has_client w n ≡ true → Step w now (Gone (Client n)) a v → a ≡ done
unfolding Step
gone_done w now n a v h step = settled (map.contains_key w.sessions.clients n) w a v _ h step
