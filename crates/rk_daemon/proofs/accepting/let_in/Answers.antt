use Rattle.std.proofs.Common.{◌≡◌, ◌+◌, rules, None}
use Rattle.rk_daemon.proofs.Acceptings.{was_barred, was_let_in, was_over, was_uncounted}
use Rattle.rk_daemon.proofs.accepting.let_in.Goals as goal

pub returns-then-is_over : goal.returns-then-is_over
returns-then-is_over g c = was_over _ _ _ _ c.if-is_over.ensures

pub returns-in_err-number-in-Ok : goal.returns-in_err-number-in-Ok
returns-in_err-number-in-Ok g c =
    let most : c.args.last ≡ 4294967295 = search rules in
    let none : c.from_residual.result ≡ None = search rules in was_uncounted _ _ _ _ _ _ c.if-is_over.ensures c.in-Ok.ensures most none

pub returns-in_ok-number-in-Ok : goal.returns-in_ok-number-in-Ok
returns-in_ok-number-in-Ok g c =
    let one : c.in_ok-number-in-Ok.number ≡ c.args.last + 1 = search rules in
    was_let_in _ _ _ _ _ _ _ _ _ c.if-is_over.ensures c.in-Ok.ensures c.hand_out-is_taken.ensures one c.goes_on.ensures

pub returns-in-Err : goal.returns-in-Err
returns-in-Err g c = was_barred _ _ _ _ _ _ c.if-is_over.ensures c.in-Err.ensures c.pause.ensures
