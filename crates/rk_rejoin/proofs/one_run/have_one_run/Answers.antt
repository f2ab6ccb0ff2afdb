use Rattle.rk_rejoin.proofs.Words.{rules, ◌≡◌, ◌≢◌, ℕ, List, Option, length, refl, sym, subst, ◌∙◌, AllByRecursion, take_all, slice_get_read, Stored, run_of}
use Rattle.rk_rejoin.proofs.Words.{run_of_first}
use Rattle.rk_rejoin.proofs.one_run.have_one_run.Goals as goal

pub returns-then-not-is_of_run-clause-refused : goal.returns-then-not-is_of_run-clause-refused
returns-then-not-is_of_run-clause-refused c =
    let vs = c.args.volumes.now in
    let i = c.loop-volume.volume-index in
    let v = c.volume-item.result in
    let same : run_of c.in-Some.first.now ≡ run_of_first vs = search rules in
    let other : run_of v ≢ run_of c.in-Some.first.now = search rules in
    (i, v, slice_get_read vs (length vs) i v refl c.loop-volume-test.true c.volume-item.is, c.number.ensures, refl, λ e. other (e ∙ sym same))

pub returns-clause-all : goal.returns-clause-all
returns-clause-all c =
    let vs = c.args.volumes.now in
    let same : run_of c.in-Some.first.now ≡ run_of_first vs = search rules in
    subst (λ (r : Option (List ℕ)). AllByRecursion (λ (v : Stored). run_of v ≡ r) vs) same
    (subst (AllByRecursion (λ (v : Stored). run_of v ≡ run_of c.in-Some.first.now)) (take_all c.loop-volume.volume-index vs c.loop-volume-test.false)
    c.loop-volume.invariant)
