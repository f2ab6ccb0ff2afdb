-- Every run obeys the laws.
use Rattle.rk_machine.proofs.Words.{List, [], ◌∷◌, Lawful, ContinuesTo, Step, Past, Beginning, Run, World}
use Rattle.rk_machine.proofs.OneConstruction.EachOnce.{each_once}
use Rattle.rk_machine.proofs.OneOutcome.EachOutcome.{each_outcome}
use Rattle.rk_machine.proofs.OwnAuthority.EachOwn.{each_own}
use Rattle.rk_machine.proofs.FirstRequester.EachRooted.{each_rooted}
use Rattle.rk_machine.proofs.NoCircle.NeverCircle.{never_circle}
use Rattle.rk_machine.proofs.NoCircle.NeverDeep.{never_deep}
use Rattle.rk_machine.proofs.EveryRun.EachEffectiveOrMisuse.{each_effective}

-- every run from the empty world on obeys the laws
pub lawful : (from : Beginning) (past : List Past) (w : World) → Run from past w → Lawful past
lawful from [] w run = tt
lawful from (s ∷ before) w run = (
  record {
    once = (each_once from (s ∷ before) w run).0;
    outcome = (each_outcome from (s ∷ before) w run).0;
    own = (each_own from (s ∷ before) w run).0;
    root = (each_rooted from (s ∷ before) w run).0;
    circle = (never_circle from (s ∷ before) w run).0;
    effective = (each_effective from (s ∷ before) w run).0;
    depth = (never_deep from (s ∷ before) w run).0;
  },
  lawful from before run.0 run.1,
)

-- a step more makes a run that obeys them
pub continues : (from : Beginning) (past : List Past) (old new : World) (s : Past) → Run from past old → Step old s.now s.event s.answer new
    → ContinuesTo from (s ∷ past) new
continues from past old new s run step = let longer : Run from (s ∷ past) new = (old, run, step) in (longer, lawful from (s ∷ past) new longer)
