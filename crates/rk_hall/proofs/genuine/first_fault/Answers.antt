use Rattle.std.proofs.Common.{true≢false, sym, ◌∙◌}
use Rattle.rk_hall.proofs.Receipts.{at_place, heard_none, heard_other, heard_more, at_fault, genuine_end}
use Rattle.rk_hall.proofs.genuine.first_fault.Goals as goal

pub loop-receipt-init : goal.loop-receipt-init
loop-receipt-init g c = heard_none _ _ _

pub loop-receipt-preserved-then-not-is_of : goal.loop-receipt-preserved-then-not-is_of
loop-receipt-preserved-then-not-is_of g c =
    let at = at_place c.args.receipts.now c.loop-receipt.receipt-index c.receipt-item.result c.loop-receipt-test.true c.receipt-item.is in
    heard_other _ _ _ _ _ c.receipt-item.result c.loop-receipt.invariant at (λ same. true≢false (sym (c.is_of.ensures.1 same) ∙ c.if-not-is_of.true))

pub returns-then-not-is_genuine : goal.returns-then-not-is_genuine
returns-then-not-is_genuine g c =
    let r = c.receipt-item.result in
    let at = at_place c.args.receipts.now c.loop-receipt.receipt-index r c.loop-receipt-test.true c.receipt-item.is in
    let fault = at_fault _ _ _ _ _ r c.loop-receipt.invariant at (c.is_of.ensures.0 c.if-not-is_of.false)
    (λ rises stands. true≢false (sym (c.is_genuine.ensures.1 (rises, stands)) ∙ c.if-not-is_genuine.true)) in
    (r, fault, c.fault_of.ensures)

pub loop-receipt-preserved : goal.loop-receipt-preserved
loop-receipt-preserved g c =
    let r = c.receipt-item.result in
    let at = at_place c.args.receipts.now c.loop-receipt.receipt-index r c.loop-receipt-test.true c.receipt-item.is in
    let good = c.is_genuine.ensures.0 c.if-not-is_genuine.false in
    rw c.number-last.ensures (heard_more _ _ _ _ _ r c.loop-receipt.invariant at (c.is_of.ensures.0 c.if-not-is_of.false) good.0 good.1)

pub returns : goal.returns
returns g c = genuine_end _ _ _ _ _ c.loop-receipt.invariant c.loop-receipt-test.false
