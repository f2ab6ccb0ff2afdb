-- In every run no chain of starts is longer than 8: the depth of an authority is the number of starts that lead to it.
use Rattle.rk_machine.proofs.Words.{option_map_or, nat_cmp, Option, Some, None, nat_eq, option_and_then, nat_le, ◌≡◌, ℕ, Bool, true, false, cond, refl, ap, ◌∙◌}
use Rattle.rk_machine.proofs.Words.{sym, subst, List, [], ◌∷◌, ◌+◌, zero-le, ◌≤◌, le-pred_of_lt, leb-false, SessionId, Client, Handler, Subject, Ask, Sessions}
use Rattle.rk_machine.proofs.Words.{unspent, Authority, Construction, Asker, asker_of, starter_in, starter_of, start_depth, NotDeep, NeverDeep, Step, Past}
use Rattle.rk_machine.proofs.Words.{Beginning, Run, World, empty_world, Start, Asked, none_some, some_same}
use Rattle.std.specs.FinMap as map
use Rattle.rk_machine.proofs.Effects.KindsOfStep.{effect}
use Rattle.rk_machine.proofs.Effects.OfOneConstruction.{Goods}
use Rattle.rk_machine.proofs.OneConstruction.EachOnce.{knows}
use Rattle.rk_machine.proofs.Effects.WhoActs.{client_acts, handler_acts}
use Rattle.rk_machine.proofs.Effects.OfContextsAndRings.{NoStart, NoNewAuthority, Move, rests, one_starts, one_comes, one_goes, move}

-- ---- who asks

-- the depth of each unspent authority is the number of starts that lead to it
abbrev KnowsDepths : List Past → Sessions → Type 0
KnowsDepths past a = (k : ℕ) (one : Authority) → unspent a k ≡ Some one → start_depth past (Handler k) ≡ one.depth

client_depth : (past : List Past) (n : ℕ) → start_depth past (Client n) ≡ 0
client_depth [] n = refl
client_depth (p ∷ before) n = refl

-- an asker is one deeper than its session
asker_depth : (past : List Past) (w : World) (t : SessionId) (asker : Asker) → Goods w.sessions → KnowsDepths past w.sessions → asker_of w t ≡ Some asker
    → start_depth past t + 1 ≡ asker.depth
asker_depth past w (Client n) asker good known is = ap (λ d. d + 1) (client_depth past n) ∙ sym (client_acts w n asker is).1
asker_depth past w (Handler j) asker good known is =
    let own = handler_acts w j asker good is in
    ap (λ d. d + 1) (known j own.0 own.1) ∙ sym own.3

not_above : (d : ℕ) → nat_le 9 d ≡ false → d ≤ 8
not_above d h = le-pred_of_lt (leb-false 9 d h)

-- ---- every run

module _ (old : World) (s : Past) (new : World) (before : List Past) (good : Goods old.sessions) (known : KnowsDepths before old.sessions) where
  -- the depth of a key, by who starts it in this step
  at_start : (k : ℕ) (o : Option SessionId) → starter_of k s ≡ o
      → start_depth (s ∷ before) (Handler k) ≡ option_map_or (λ t. start_depth before t + 1) o (start_depth before (Handler k))
  at_start k o is = ap (λ v. option_map_or (λ t. start_depth before t + 1) v (start_depth before (Handler k))) is

  knows_still : NoStart s.event s.answer → NoNewAuthority old new → KnowsDepths (s ∷ before) new.sessions
  knows_still none fewer k one is = at_start k None (none k) ∙ known k one (fewer k one is)

  low_still : NoStart s.event s.answer → NotDeep before → NotDeep (s ∷ before)
  low_still none low k = subst (λ d. d ≤ 8) (sym (at_start k None (none k))) (low k)

  module _ (t : SessionId) (x : Ask) (asker : Asker) (q : ℕ) (subject : Subject) (ev : s.event ≡ Asked t x) (ra : s.answer ≡ Start q subject)
      (is : asker_of old t ≡ Some asker) where
    starter_is : (k : ℕ) (b : Bool) → nat_eq q k ≡ b → starter_of k s ≡ cond b (Some t) None
    starter_is k b at = (λ i. starter_in k (ev i) (ra i)) ∙ ap (λ b. cond b (Some t) None) at

    depth_here : (k : ℕ) → nat_eq q k ≡ true → start_depth (s ∷ before) (Handler k) ≡ asker.depth
    depth_here k same = at_start k (Some t) (starter_is k true same) ∙ asker_depth before old t asker good known is

    knows_begun : (authority : Authority) → authority.depth ≡ asker.depth → (k : ℕ) (one : Authority) (b : Bool) → nat_eq q k ≡ b
        → cond b (Some authority) (unspent old.sessions k) ≡ Some one
        → start_depth (s ∷ before) (Handler k) ≡ one.depth
    knows_begun authority depth k one true same at = depth_here k same ∙ sym depth ∙ ap (λ (a : Authority). a.depth) (some_same at)
    knows_begun authority depth k one false other at = at_start k None (starter_is k false other) ∙ known k one at

    low_begun : nat_le 9 asker.depth ≡ false → NotDeep before → (k : ℕ) (b : Bool) → nat_eq q k ≡ b → start_depth (s ∷ before) (Handler k) ≤ 8
    low_begun short low k true same = subst (λ d. d ≤ 8) (sym (depth_here k same)) (not_above asker.depth short)
    low_begun short low k false other = subst (λ d. d ≤ 8) (sym (at_start k None (starter_is k false other))) (low k)

  knows_on : Move old s.event s.answer new → KnowsDepths (s ∷ before) new.sessions
  knows_on (rests quiet none rings contexts fewer) = knows_still none fewer
  knows_on (one_comes n c hello gone none fresh contexts made fewer) = knows_still none fewer
  knows_on (one_goes n hello gone none contexts rings fewer) = knows_still none fewer
  knows_on (one_starts t x asker q query callout authority ev ra is short same context depth rings contexts issued) =
      λ k one at. knows_begun t x asker q _ ev ra is authority depth k one (nat_eq q k) refl (sym (issued k) ∙ at)

  not_deep_on : Move old s.event s.answer new → NotDeep before → NotDeep (s ∷ before)
  not_deep_on (rests quiet none rings contexts fewer) low = low_still none low
  not_deep_on (one_comes n c hello gone none fresh contexts made fewer) low = low_still none low
  not_deep_on (one_goes n hello gone none contexts rings fewer) low = low_still none low
  not_deep_on (one_starts t x asker q query callout authority ev ra is short same context depth rings contexts issued) low =
      λ k. low_begun t x asker q _ ev ra is short low k (nat_eq q k) refl

no_authority : (from : Beginning) (w : World) → w ≡ empty_world from.negative from.first from.stride → KnowsDepths [] w.sessions
no_authority from w is k one at =
    absurd (none_some (sym (ap (λ (v : World). unspent v.sessions k) is ∙ ap (option_and_then (λ (c : Construction). c.authority)) (map.get-empty nat_cmp k))
    ∙ at))

move_of : (old : World) (s : Past) (new : World) → Step old s.now s.event s.answer new → Move old s.event s.answer new
move_of old s new step = move old s.now s.event s.answer new (effect old s.now s.event s.answer new step)

depths_known : (from : Beginning) (past : List Past) (w : World) → Run from past w → KnowsDepths past w.sessions
depths_known from [] w run = no_authority from w run
depths_known from (s ∷ before) w run =
    knows_on run.0 s w before (knows from before run.0 run.1).0 (depths_known from before run.0 run.1) (move_of run.0 s w run.2)

not_deep : (from : Beginning) (past : List Past) (w : World) → Run from past w → NotDeep past
not_deep from [] w run = λ k. zero-le
not_deep from (s ∷ before) w run =
    not_deep_on run.0 s w before (knows from before run.0 run.1).0 (depths_known from before run.0 run.1) (move_of run.0 s w run.2)
    (not_deep from before run.0 run.1)

-- at no point is there a longer chain of starts
pub never_deep : (from : Beginning) (past : List Past) (w : World) → Run from past w → NeverDeep past
never_deep from [] w run = not_deep from [] w run
never_deep from (s ∷ before) w run = (not_deep from (s ∷ before) w run, never_deep from before run.0 run.1)
