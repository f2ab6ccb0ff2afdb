use Rattle.std.proofs.Common.{◌≤◌, length}
use Rattle.rk_glob.proofs.Places.{Scans, to_go}
use Rattle.rk_glob.proofs.fits_within.Given as goal

abbrev pub invariant-loop-at : goal.invariant-loop-at
invariant-loop-at l = record {
  after_within : l.after ≤ length l.middle;
  within : l.at ≤ length l.middle;
  reached_within : l.reached ≤ length l.text;
  in_order : l.from ≤ l.reached;
  scans : Scans l.middle l.text l.after l.from l.at l.reached;
}

abbrev pub decreases-loop-at : goal.decreases-loop-at
decreases-loop-at l = to_go (length l.middle) (length l.text) l.from l.at l.reached
