use Rattle.rk_ctl.specs.Searching.{refused, searched}
use Rattle.rk_ctl.proofs.searching.find_keys.Goals.{in-Refused, in-Rings+in_ok-listed-in-Rings+in_ok-ended-in-Rings, in_default}
use Rattle.rk_ctl.proofs.searching.find_keys.Goals as goal

pub returns : goal.returns
returns g c = elim c.match-branch-2.branch [
  | in-Refused w ↦ rw (w.result-is, w.writer-is, w.reader-is) (refused _ (rw w.in-Refused.is at c.in_ok-errno.ensures.asked))
  | in-Rings+in_ok-listed-in-Rings+in_ok-ended-in-Rings w ↦
      rw (w.result-is, w.writer-is, w.reader-is) (searched _ _ _ _ _ _ _ _ _ _ _ (rw w.in-Rings.is at c.in_ok-errno.ensures.asked)
      w.in_ok-listed-in-Rings.ensures w.in_ok-ended-in-Rings.ensures)
  | in_default w ↦ rw w.result-is tt
]
