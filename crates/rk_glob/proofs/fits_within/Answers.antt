use Rattle.std.proofs.Common.{arith, rules}
use Rattle.rk_glob.proofs.Places.{scans_first, scans_star, scans_next, scans_retry, scans_short, scans_done}
use Rattle.rk_glob.proofs.fits_within.Goals as goal

pub loop-at-init : goal.loop-at-init
loop-at-init c = record {
  after_within = omega arith;
  within = omega arith;
  reached_within = omega arith;
  in_order = omega arith;
  scans = scans_first c.args.middle.now c.args.text.now;
}

pub loop-at-preserved-then-middle-at-eq-STAR : goal.loop-at-preserved-then-middle-at-eq-STAR
loop-at-preserved-then-middle-at-eq-STAR c = record {
  after_within = omega arith;
  within = omega arith;
  reached_within = omega arith;
  in_order = omega arith;
  scans = scans_star _ _ _ _ _ _ c.loop-at-test.true c.if-middle-at-eq-STAR.true c.loop-at.invariant.scans;
}

pub returns-then-reached-text : goal.returns-then-reached-text
returns-then-reached-text c =
    (λ no_way. absurd (cc), λ fits. absurd (scans_short _ _ _ _ _ _ c.loop-at-test.true c.if-reached-text.true c.if-middle-at-eq-STAR.false c.loop-at.invariant.scans fits))

pub loop-at-preserved-then-middle-at : goal.loop-at-preserved-then-middle-at
loop-at-preserved-then-middle-at c = record {
  after_within = omega arith;
  within = omega arith;
  reached_within = omega arith;
  in_order = omega arith;
  scans = scans_next _ _ _ _ _ _ c.loop-at-test.true (omega arith) c.if-middle-at-eq-STAR.false c.if-middle-at.true c.loop-at.invariant.scans;
}

pub loop-at-preserved : goal.loop-at-preserved
loop-at-preserved c = record {
  after_within = omega arith;
  within = omega arith;
  reached_within = omega arith;
  in_order = omega arith;
  scans = scans_retry _ _ _ _ _ _ c.loop-at-test.true (omega arith) c.loop-at.invariant.in_order c.if-middle-at-eq-STAR.false c.if-middle-at.false c.loop-at.invariant.scans;
}

pub returns : goal.returns
returns c = (λ _. scans_done _ _ _ _ _ _ c.loop-at-test.false c.loop-at.invariant.scans, λ _. search rules)
