-- Answers that start nothing, and how deep a start is.
use Rattle.std.proofs.Common.{◌≡◌, ◌≤◌, ℕ, cond, refl, sym, ap, subst, ◌∙◌, inl, inr, arith}
use Rattle.std.specs.Prelude.{Option, Some, None, option_map, option_and_then}
use Rattle.std.proofs.lemmas.Bool.{leb-false, eq-eqb}
use Rattle.std.proofs.Math.Nat.{le-pred_of_lt}
use Rattle.rk_names.specs.declared.errors.Errno.{Errno}
use Rattle.rk_names.specs.declared.numbers.SessionId.{SessionId}
use Rattle.rk_names.specs.declared.numbers.SessionId.TheVariants.{Client, Handler}
use Rattle.rk_macro.specs.declared.subject.Subject.{Subject}
use Rattle.rk_auth.specs.declared.session.Session.{Session}
use Rattle.rk_auth.specs.declared.construction.Authority.{Authority}
use Rattle.rk_auth.specs.Sessions.{session_of, assumed_authority, unspent}
use Rattle.rk_message.specs.Ask.{Ask}
use Rattle.rk_machine.specs.Event.{Event}
use Rattle.rk_machine.specs.declared.event.EventOf.TheVariants.{Opened, Asked, Launched, Ended, Collect, Gone}
use Rattle.rk_machine.specs.declared.event.Answer.{Answer}
use Rattle.rk_machine.specs.declared.event.Answer.TheVariants.{Done, Start, Negate, Waiting, Refused}
use Rattle.rk_machine.specs.Allowed.{done, Leaves, Unless, OrNoMemory}
use Rattle.rk_machine.specs.declared.asker.Asker.{Asker}
use Rattle.rk_machine.specs.Asker.{asker_of, handler_asker, assumed_asker}
use Rattle.rk_machine.specs.Owing.{begun}
use Rattle.rk_machine.specs.Steps.{Step, open_refusal, opened}
use Rattle.rk_machine.specs.Views.{depth_of}
use Rattle.rk_machine.specs.World.{World}
use Rattle.rk_machine.proofs.Found.Options.{none_some, some_none, some_same}
use Rattle.rk_machine.proofs.Effects.KindsOfStep.{effect}
use Rattle.rk_machine.proofs.Effects.OfContextsAndRings.{NoStart, Move, rests, one_starts, one_comes, one_goes, move}
use Rattle.rk_machine.proofs.Effects.WhoActs.{client_acts}
use Rattle.rk_record.specs.Copies.{started}
use Rattle.rk_hall.specs.Seats.{IsCall, IsDepth}
use Rattle.rk_hall.specs.Locked.{HasDepth}

-- an answer without a subject begins nothing
pub none_begun : (a : Answer) → started a ≡ None → begun a ≡ 0
none_begun (Done reply) e = refl
none_begun (Start k subject) e = absurd cc
none_begun (Negate k) e = refl
none_begun (Waiting k) e = refl
none_begun (Refused errno) e = refl

-- ---- how deep a start is

-- who asks by an authority is one deeper than it
deeper : (s : Session) (j : ℕ) (asker : Asker) (o : Option Authority) → option_map (handler_asker s j) o ≡ Some asker → 1 ≤ asker.depth
deeper s j asker None e = absurd (none_some e)
deeper s j asker (Some a) e = subst (λ d. 1 ≤ d) (ap (λ (x : Asker). x.depth) (some_same e)) (omega arith)

by_assumed : (w : World) (id : SessionId) (s : Session) (asker : Asker) (o : Option ℕ)
    → option_and_then (λ k. option_map (handler_asker s k) (assumed_authority w.sessions id)) o ≡ Some asker → 1 ≤ asker.depth
by_assumed w id s asker None e = absurd (none_some e)
by_assumed w id s asker (Some j) e = deeper s j asker (assumed_authority w.sessions id) e

by_session : (w : World) (id : SessionId) (asker : Asker) (o : Option Session) → option_and_then (assumed_asker w id) o ≡ Some asker → 1 ≤ asker.depth
by_session w id asker None e = absurd (none_some e)
by_session w id asker (Some s) e = by_assumed w id s asker s.assumed e

-- whoever asks is at least 1 deep
least_depth : (w : World) (t : SessionId) (asker : Asker) → asker_of w t ≡ Some asker → 1 ≤ asker.depth
least_depth w (Client n) asker is = subst (λ d. 1 ≤ d) (sym (client_acts w n asker is).1) (omega arith)
least_depth w (Handler k) asker is = by_session w (Handler k) asker (session_of w.sessions (Handler k)) is

no_refusal : (k : ℕ) (s : Subject) (error : Errno) → Start k s ≡ Refused error → ⊥
no_refusal k s error e = cc

no_done : (k : ℕ) (s : Subject) → Start k s ≡ done → ⊥
no_done k s e = cc

-- a client that comes starts nothing
none_at_opening : (old new : World) (now : ℕ) (t : SessionId) (k : ℕ) (s : Subject) → Step old now (Opened t) (Start k s) new → ⊥
unfolding Step
none_at_opening old new now (Client n) k s h = by_refusal (open_refusal old n) h
  where
    by_refusal : (o : Option Errno)
        → Unless o old (Start k s) new (OrNoMemory old (Start k s) new (Leaves done (opened n old) (Start k s) new)) → ⊥
    by_refusal None (inl refused) = no_refusal k s _ refused.0
    by_refusal None (inr leaves) = no_done k s leaves.0
    by_refusal (Some error) refused = no_refusal k s error refused.0
none_at_opening old new now (Handler j) k s h = no_refusal k s _ h.0

same_key : (k q : ℕ) (s u : Subject) → Start k s ≡ Start q u → q ≡ k
same_key k q s u e = cc

-- an ask that is answered by a start is one that starts
starts : (t : SessionId) (x : Ask) (k : ℕ) (s : Subject) → NoStart (Asked t x) (Start k s) → ⊥
starts t x k s none = some_none (sym (ap (λ b. cond b (Some t) None) (eq-eqb k k refl)) ∙ none k)

-- what a start begins is 1 to 8 deep
depth_of_start : (old new : World) (now : ℕ) (e : Event) (k : ℕ) (s : Subject) → IsCall e → Step old now e (Start k s) new
    → (d : ℕ) × (depth_of new k ≡ Some d) × IsDepth d
depth_of_start old new now (Opened t) k s call step = absurd (none_at_opening old new now t k s step)
depth_of_start old new now (Launched _ _) k s call step = elim call [ ]
depth_of_start old new now (Ended _ _ _) k s call step = elim call [ ]
depth_of_start old new now (Collect _) k s call step = elim call [ ]
depth_of_start old new now (Gone _) k s call step = elim call [ ]
depth_of_start old new now (Asked t x) k s call step = by_move (move old now (Asked t x) (Start k s) new (effect old now (Asked t x) (Start k s) new step))
  where
    by_move : Move old (Asked t x) (Start k s) new → (d : ℕ) × (depth_of new k ≡ Some d) × IsDepth d
    by_move (rests quiet none rings contexts fewer) = absurd (starts t x k s none)
    by_move (one_comes n c hello gone none fresh contexts made fewer) = absurd (starts t x k s none)
    by_move (one_goes n hello gone none contexts rings fewer) = absurd (starts t x k s none)
    by_move (one_starts u y asker q query callout authority ev ra is short same context depth rings contexts issued) = (
      authority.depth,
      ap (option_map (λ (a : Authority). a.depth)) (issued k ∙ ap (λ b. cond b (Some authority) (unspent old.sessions k)) (eq-eqb q k (same_key k q s _ ra))),
      (subst (λ d. 1 ≤ d) (sym depth) (least_depth old u asker is), subst (λ d. d ≤ 8) (sym depth) (le-pred_of_lt (leb-false 9 asker.depth short))),
    )

-- a construction that a call starts stands in the world, 1 to 8 starts deep
pub has_depth : (old new : World) (now : ℕ) (e : Event) (a : Answer) → IsCall e → Step old now e a new → HasDepth a new
has_depth old new now e (Start k s) call step = depth_of_start old new now e k s call step
has_depth old new now e (Done reply) call step = tt
has_depth old new now e (Negate k) call step = tt
has_depth old new now e (Waiting k) call step = tt
has_depth old new now e (Refused error) call step = tt
