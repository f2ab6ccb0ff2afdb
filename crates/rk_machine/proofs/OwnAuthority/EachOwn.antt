-- In every run a completion is its own handler's, which has assumed that key's authority.
use Rattle.rk_machine.proofs.Words.{◌≡◌, ℕ, ◌∙◌, ◌∷◌, Bool, true, false, cond, refl, ap, sym, List, [], option_map_or, nat_cmp, ℤ, ◌==◌, Option, Some, None}
use Rattle.rk_machine.proofs.Words.{option_map, pos, negsuc, serial_named, last_assumed, EachOwn, Past, Beginning, Run, World, empty_world, none_some}
use Rattle.rk_machine.proofs.Words.{some_same, Step}
use Rattle.std.specs.FinMap as map
use Rattle.rk_machine.proofs.Effects.KindsOfStep.{effect}
use Rattle.rk_machine.proofs.Effects.StagesAfter.{Shape, shape, shape_of}
use Rattle.rk_machine.proofs.Effects.DrawnSerials.{is_drawn}
use Rattle.rk_machine.proofs.OneConstruction.EachOnce.{clash, knows}
use Rattle.rk_machine.proofs.Effects.OfOneConstruction.{Tests, tests, Turn, quiet, failed_now, ended_now, completed_now, assumed_now, IsOwnAsk, turns}

-- ---- what a handler has assumed is what its latest ASSUME named

abbrev pub Named : Option ℤ → Option Shape → Type 0
Named last o = (x : Shape) (k : ℕ) → o ≡ Some x → x.assumed ≡ Some k → last ≡ Some (pos k)

-- a serial that is named is a positive number
named_pos : (key : ℤ) (k : ℕ) → serial_named key ≡ Some k → key ≡ pos k
named_pos (negsuc n) k h = absurd (none_some h)
named_pos (pos n) k h = positive n (n == 0) h
  where
    positive : (n : ℕ) (b : Bool) → cond b None (Some n) ≡ Some k → pos n ≡ pos k
    positive n true h = absurd (none_some h)
    positive n false h = ap pos (some_same h)

named : (q : ℕ) (d dn : Bool) (own : Type 0) (t : Tests) (o n : Option Shape) (last : Option ℤ) → Turn q d dn own t o n → Named last o
    → Named (option_map_or (λ key. Some key) t.assumed last) n
named q d dn own t o n last quiet h y k is has = h y k is has
named q d dn own t o n last (failed_now x waits) h y k is has = absurd (none_some is)
named q d dn own t o n last (ended_now x runs) h y k is has = absurd (none_some is)
named q d dn own t o n last (assumed_now x key runs mine) h y k is has =
    ap (λ (z : ℤ). Some z) (named_pos key k (ap (λ (z : Shape). z.assumed) (some_same is) ∙ has))
named q d dn own t o n last _ h y k is has = absurd (none_some (ap (λ (z : Shape). z.assumed) (some_same is) ∙ has))

nothing_named : (from : Beginning) (w : World) → w ≡ empty_world from.negative from.first from.stride → (q : ℕ) → Named None (shape_of w.sessions q)
nothing_named from w is q x k at own =
    absurd (none_some (sym (ap (λ (v : World). shape_of v.sessions q) is ∙ ap (option_map shape) (map.get-empty nat_cmp q)) ∙ at))

turn_of : (old : World) (s : Past) (new : World) (before : List Past) (from : Beginning) → Run from before old → Step old s.now s.event s.answer new
    → (q : ℕ) → Turn q (is_drawn old q) (is_drawn new q) (IsOwnAsk q s.event) (tests q s.event s.answer) (shape_of old.sessions q) (shape_of new.sessions q)
turn_of old s new before from run step q = turns old s.now s.event s.answer new (effect old s.now s.event s.answer new step) (knows from before old run).0 q

pub all_named : (from : Beginning) (past : List Past) (w : World) → Run from past w → (q : ℕ) → Named (last_assumed q past) (shape_of w.sessions q)
all_named from [] w run q = nothing_named from w run q
all_named from (s ∷ before) w run q =
    named q _ _ _ _ _ _ (last_assumed q before) (turn_of run.0 s w before from run.1 run.2 q) (all_named from before run.0 run.1 q)

-- ---- the law

owned : (q : ℕ) (d dn : Bool) (own : Type 0) (t : Tests) (o n : Option Shape) (last : Option ℤ) → Turn q d dn own t o n → Named last o
    → t.completion ≡ true → own × (last ≡ Some (pos q))
owned q d dn own t o n last (completed_now x asks mine) h is = (asks, h x q refl mine)
owned q d dn own t o n last _ h is = absurd (clash false refl is)

-- each completion is its own handler's
pub each_own : (from : Beginning) (past : List Past) (w : World) → Run from past w → EachOwn past
each_own from [] w run = tt
each_own from (s ∷ before) w run =
    (λ k is. owned k _ _ _ _ _ _ (last_assumed k before) (turn_of run.0 s w before from run.1 run.2 k) (all_named from before run.0 run.1 k) is, each_own from before run.0 run.1)
