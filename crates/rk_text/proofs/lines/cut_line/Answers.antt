use Rattle.std.proofs.Common.{◌+◌, arith}
use Rattle.rk_lemmas.proofs.Lists.{from_place}
use Rattle.rk_text.proofs.Cuts.{last_line, first_line}
use Rattle.rk_text.proofs.lines.cut_line.Goals as goal

pub returns-then-end-text-clause-cut : goal.returns-then-end-text-clause-cut
returns-then-end-text-clause-cut c = last_line c.args.text.now c.line_len-end.result c.if-end-text.true c.line_len-end.ensures.before

pub returns-else-end-text-clause-cut : goal.returns-else-end-text-clause-cut
returns-else-end-text-clause-cut c =
    rw (from_place c.args.text.now (c.line_len-end.result + 1)) (first_line c.args.text.now c.line_len-end.result (omega arith) c.line_len-end.ensures.before (c.line_len-end.ensures.at (omega arith)))
