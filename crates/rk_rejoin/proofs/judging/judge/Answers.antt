use Rattle.rk_rejoin.proofs.Words.{◌≡◌, ℕ, inl, inr, subst, AllByRecursion, err_from_is_err_and, Stored}
use Rattle.rk_record.specs.declared.hall_no.HallNo.TheVariants as hall
use Rattle.rk_rejoin.proofs.Chained.{beside_of}
use Rattle.rk_rejoin.proofs.Told.{hall_refused}
use Rattle.rk_rejoin.proofs.judging.judge.Goals as goal

pub returns-in_err-judge_hall-clause-refused : goal.returns-in_err-judge_hall-clause-refused
returns-in_err-judge_hall-clause-refused c =
    let p = err_from_is_err_and c.from_residual-in_err-judge_hall.result c.from_residual-in_err-judge_hall.ensures.1 in
    rw (p.1, p.2) (hall_refused c.args.volumes.now hall.Zero _ _ c.in_ok-negative.ensures.first c.in_err-judge_hall.ensures.refused)

pub returns-in_err-judge_hall-2-clause-refused : goal.returns-in_err-judge_hall-2-clause-refused
returns-in_err-judge_hall-2-clause-refused c =
    let p = err_from_is_err_and c.from_residual-in_err-judge_hall-2.result c.from_residual-in_err-judge_hall-2.ensures.1 in
    rw (p.1, p.2) (hall_refused c.args.volumes.now hall.One _ _ c.in_ok-negative.ensures.first c.in_err-judge_hall-2.ensures.refused)

pub returns-in_err-judge_hall-3-clause-refused : goal.returns-in_err-judge_hall-3-clause-refused
returns-in_err-judge_hall-3-clause-refused c =
    let p = err_from_is_err_and c.from_residual-in_err-judge_hall-3.result c.from_residual-in_err-judge_hall-3.ensures.1 in
    rw (p.1, p.2) (hall_refused c.args.volumes.now hall.Two _ _ c.in_ok-negative.ensures.first c.in_err-judge_hall-3.ensures.refused)

pub returns-in_err-judge_hall-4-clause-refused : goal.returns-in_err-judge_hall-4-clause-refused
returns-in_err-judge_hall-4-clause-refused c =
    let p = err_from_is_err_and c.from_residual-in_err-judge_hall-4.result c.from_residual-in_err-judge_hall-4.ensures.1 in
    rw (p.1, p.2) (hall_refused c.args.volumes.now hall.Three _ _ c.in_ok-negative.ensures.first c.in_err-judge_hall-4.ensures.refused)

pub returns-clause-negative : goal.returns-clause-negative
returns-clause-negative c =
    subst (λ (n : ℕ). AllByRecursion (λ (v : Stored). v.head.negative ≡ n) c.args.volumes.now) c.in_ok-negative.ensures.first c.in_ok-negative.ensures.all

pub returns-in_err-have_one_run-clause-refused : goal.returns-in_err-have_one_run-clause-refused
returns-in_err-have_one_run-clause-refused c =
    let p = err_from_is_err_and c.from_residual-in_err-have_one_run.result c.from_residual-in_err-have_one_run.ensures.1 in
    rw (p.1, p.2) (inr (inl c.in_err-have_one_run.ensures.refused))

pub returns-in_err-are_closed_alike-clause-refused : goal.returns-in_err-are_closed_alike-clause-refused
returns-in_err-are_closed_alike-clause-refused c =
    let p = err_from_is_err_and c.from_residual-in_err-are_closed_alike.result c.from_residual-in_err-are_closed_alike.ensures.1 in
    rw (p.1, p.2) (inr (inr (inr (beside_of c.args.volumes.now _ _ c.in_ok-judge_hall.ensures.is.closed c.in_ok-judge_hall-2.ensures.is.closed
    c.in_ok-judge_hall-3.ensures.is.closed c.in_ok-judge_hall-4.ensures.is.closed c.in_err-are_closed_alike.ensures.refused))))
