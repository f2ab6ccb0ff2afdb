use Rattle.std.proofs.Common.{◌≡◌, ◌+◌, ◌-◌, ℕ, List, length, take, drop, arith, refl, eqb-true, eq-eqb}
use Rattle.std.proofs.lemmas.List.{take_all, length-drop}
use Rattle.std.specs.Prelude.{slice_index}
use Rattle.rk_text.proofs.Cuts.{last_line, first_line}
use Rattle.rk_replay.proofs.lines.cut_line.Goals as goal

from_place : (xs : List ℕ) (n : ℕ) → take (length xs - n) (drop n xs) ≡ drop n xs
from_place xs n = take_all (length xs - n) (drop n xs) (omega (arith, length-drop n xs))

pub returns-in-Some-clause-cut : goal.returns-in-Some-clause-cut
returns-in-Some-clause-cut c =
    let text = c.args.text.now in
    let end = c.in-Some.end in
    let found = c.in-Some.ensures in
    rw (from_place text (end + 1)) (first_line text end found.0.high
    (λ k before is. found.0.before k (omega arith) before (eq-eqb (slice_index text k) 10 is)) (eqb-true (slice_index text end) 10 found.1))

pub returns-in-None-clause-cut : goal.returns-in-None-clause-cut
returns-in-None-clause-cut c =
    let text = c.args.text.now in
    last_line text (length text) refl (λ k before is. c.in-None.ensures k (omega arith) before (eq-eqb (slice_index text k) 10 is))
