-- Each own step and each move leaves the peers to those who are there.
use Rattle.rk_served.proofs.Words.{refl, ◌∙◌, ap, sym, List, ◌≡◌, [], subst, ℕ, inr, true, ◌∷◌, inl, Bool, false, cond, get-empty, nat_cmp, Some, Option, None}
use Rattle.rk_served.proofs.Words.{slice_get, is_some, SessionId, Handler, Client, Line, Subject, kind_in, Kind, done, Beginning, Past, Step, Answer, Refused}
use Rattle.rk_served.proofs.Words.{Launched, Gone, Opened, Ended, Collect, How, Left, peer, without, Part, nothing, collects, refuses, asks, shuts_client}
use Rattle.rk_served.proofs.Words.{shuts_handler, Move, Moves, Adds, EndsBy, is_last, is_followed, is_not_followed, OwnStep, has_client, is_misplaced, negated}
use Rattle.rk_served.proofs.Words.{Lengthens, Runs, Follows, channel_with, Acts, HasItsPeers, Happening, Started, Failed, Output, Channel, Starts, Talks, Pipes}
use Rattle.rk_machine.specs.declared.event.Ran.TheVariants as ran
use Rattle.rk_served.specs.declared.happening.Happening.TheVariants as happening
use Rattle.rk_served.proofs.PeerLists.{at_has}
use Rattle.rk_served.proofs.PeersFit.{agree, serves, Fits, fits, has_its_peers, same_peers, replaced, opened_fits, gone_fits, gone_done, ended_fits, runs_fits}
use Rattle.rk_served.proofs.PeersFit.{follows_fits, follows_none_fits, answered_fits}

-- ---- moves

pub client_has_peer : (left : Left) (i n : ℕ) (p : Channel) (m : Option Subject) → slice_get left.peers i ≡ Some (peer (Client n) p m) → Fits left
    → has_client left.world n ≡ true
client_has_peer left i n p m at f = sym (f.clients n) ∙ at_has left.peers i (peer (Client n) p m) at

move_fits : (conf : List Line) (now : ℕ) (old : Left) (index : ℕ) (part : Part) (new : Left) → Move conf now old index part new → Fits old → Fits new
move_fits conf now old index part new (collects m) f = same_peers old new now (Collect m.who) m.answer m.step (λ n b. refl) (λ k o. refl) m.peers f
move_fits conf now old index part new (refuses m) f = replaced old new index m.who (Talks m.stream) (Talks m.rest) m.made_for m.free.at m.peers (λ x. refl) m.world f
move_fits conf now old index part new (asks m) f =
    answered_fits conf now _ m.who m.ask part new m.answered (replaced old _ index m.who (Talks m.stream) (Talks m.rest) m.made_for m.free.at refl (λ x. refl) refl f)
move_fits conf now old index part new (shuts_client m) f =
    let ra = gone_done old.world now m.client m.answer new.world (client_has_peer old index m.client (Talks m.stream) m.made_for m.free.at f) m.step in
    gone_fits old new now m.client (subst (λ (y : Answer). Step old.world now (Gone (Client m.client)) y new.world) ra m.step) m.peers f
move_fits conf now old index part new (shuts_handler m) f =
    replaced old new index (Handler m.key) (Talks m.stream) _ m.made_for m.free.at m.peers (λ x. refl) m.world f

-- a move leaves the peers to those who are there
pub move_keeps_peers : (conf : List Line) (now : ℕ) (old : Left) (index : ℕ) (part : Part) (new : Left) → Move conf now old index part new → HasItsPeers old
    → HasItsPeers new
move_keeps_peers conf now old index part new m s = has_its_peers new (move_fits conf now old index part new m (fits old s))

pub moves_keep_peers : (conf : List Line) (now : ℕ) (old : Left) (parts : List Part) (new : Left) → Moves conf now old parts new → HasItsPeers old → HasItsPeers new
moves_keep_peers conf now old [] new same s = subst HasItsPeers (sym same) s
moves_keep_peers conf now old (p ∷ ps) new m s = moves_keep_peers conf now m.1 ps new m.3 (move_keeps_peers conf now old m.0 p m.1 m.2 s)

-- ---- own steps

kept_channel : (more : List ℕ) (p : Channel) (x : Kind) → serves (channel_with more p) x ≡ serves p x
kept_channel more (Talks stream) x = refl
kept_channel more (Starts piped) x = refl
kept_channel more (Pipes bytes) x = refl

lengthens_fits : (s : SessionId) (more : List ℕ) (old : Left) (part : Part) (new : Left) → Lengthens s more old part new → Fits old → Fits new
lengthens_fits s more old part new h f =
    replaced old new h.replaces.index s h.channel (channel_with more h.channel) h.made_for h.replaces.at h.replaces.peers (kept_channel more h.channel) h.world f

run_fits : (now k : ℕ) (old : Left) (part : Part) (new : Left) → Runs now k old part new → Fits old → Fits new
run_fits now k old part new h f = by_kind h.piped h.steps.step h.replaces.peers
  where
    by_kind : (b : Bool) → Step old.world now (Launched k (cond b ran.Piped ran.Plain)) done new.world
        → new.peers ≡ Rattle.std.specs.Prelude.slice_set old.peers h.replaces.index
        (peer (Handler k) (cond b (Pipes []) (Talks Rattle.rk_served.specs.Streams.no_bytes)) (Some h.subject)) → Fits new
    by_kind true step peers = runs_fits old new now k ran.Piped h.replaces.index _ (Pipes []) h.subject refl step h.replaces.at peers f
    by_kind false step peers =
        runs_fits old new now k ran.Plain h.replaces.index _ (Talks Rattle.rk_served.specs.Streams.no_bytes) h.subject refl step h.replaces.at peers f

-- a command that follows a piped one is plain
follows_plain : (conf : List Line) (now k : ℕ) (how : How) (payload : Option (List ℕ)) (made_for : Option Subject) (old : Left) (part : Part) (new : Left)
    → Follows conf now k (Ended k how payload) made_for old part new → Fits old → Fits new
follows_plain conf now k how payload made_for old part new h f =
    follows_fits old new now k how payload (negated h.subject) h.step
    (subst (λ (b : Bool). Adds (peer (Handler k) (Starts b) (Some (negated h.subject))) (without (Handler k) old.peers) new.peers) h.is_command.piped h.adds) f

end_fits : (conf : List Line) (now k : ℕ) (how : How) (payload : Option (List ℕ)) (made_for : Option Subject) (old : Left) (part : Part) (new : Left)
    → EndsBy conf now k (Ended k how payload) made_for old part new → Fits old → Fits new
end_fits conf now k how payload made_for old part new (is_last h peers) f =
    ended_fits old new now k (Ended k how payload) (λ n b. refl) (λ q o. refl) h.step peers f
end_fits conf now k how payload made_for old part new (is_followed h) f = follows_plain conf now k how payload made_for old part new h f
end_fits conf now k how payload made_for old part new (is_not_followed h) f = follows_none_fits old new h.mid now k how payload h.first h.second h.peers f

begins_fits : (conf : List Line) (now : ℕ) (h : Happening) (old : Left) (part : Part) (new : Left) → is_misplaced old.world h ≡ false
    → OwnStep conf now h old part new → Fits old → Fits new
begins_fits conf now (happening.Accept n) old part new placed (inl h) f = opened_fits old new now n _ placed h.0.step h.1 f
begins_fits conf now (happening.Accept n) old part new placed (inr h) f =
    same_peers old new now (Opened (Client n)) (Refused h.0) h.1.step (λ m b. refl) (λ k o. refl) h.2 f
begins_fits conf now (happening.Bytes n bytes) old part new placed h f = lengthens_fits (Client n) bytes old part new h f
begins_fits conf now (happening.Gone n) old part new placed h f = gone_fits old new now n h.0.step h.1 f
begins_fits conf now (happening.StartResult k Started) old part new placed h f = run_fits now k old part new h f
begins_fits conf now (happening.StartResult k Failed) old part new placed h f =
    ended_fits old new now k (Launched k ran.Failed) (λ n b. refl) (λ q o. refl) h.0.step h.1 f
begins_fits conf now (happening.HandlerBytes k bytes) old part new placed h f = lengthens_fits (Handler k) bytes old part new h f
begins_fits conf now (happening.HandlerReadFault k) old part new placed h f = end_fits conf now k _ _ _ old part new h.ends f
begins_fits conf now (happening.HandlerEnded k how) old part new placed h f = end_fits conf now k _ _ _ old part new h.ends f
begins_fits conf now (happening.WaitFault k) old part new placed h f = end_fits conf now k _ _ _ old part new h.ends f

-- ---- what is served

-- an own step that is not misplaced leaves the peers to those who are there
pub begins_keeps_peers : (conf : List Line) (now : ℕ) (h : Happening) (old : Left) (part : Part) (new : Left) → is_misplaced old.world h ≡ false
    → OwnStep conf now h old part new → HasItsPeers old → HasItsPeers new
begins_keeps_peers conf now h old part new placed b s = has_its_peers new (begins_fits conf now h old part new placed b (fits old s))

-- a happening, with all its moves, leaves the peers to those who are there
pub acts_keeps_peers : (conf : List Line) (old : Left) (now : ℕ) (h : Happening) (outputs : List Output) (steps : List Past) (new : Left)
    → Acts conf old now h outputs steps new → HasItsPeers old → HasItsPeers new
acts_keeps_peers conf old now h outputs steps new a s =
    moves_keep_peers conf now a.begun a.parts new a.moves (begins_keeps_peers conf now h old a.own a.begun a.in_place a.own_step s)

-- before anything happens, nobody is there and there is no peer
pub nothing_has_peers : (from : Beginning) → HasItsPeers (nothing from)
nothing_has_peers from =
    has_its_peers (nothing from)
    (record {
      clients = λ n. sym (ap is_some (get-empty nat_cmp n));
      kinds = λ k. ap (λ o. agree (kind_in o) None) (get-empty nat_cmp k);
      apart = refl;
      idle = λ k h. ap kind_in (get-empty nat_cmp k);
    })
