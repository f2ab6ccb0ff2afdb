use Rattle.rk_core.proofs.Words.{ap, ◌∙◌, sym, subst, w32, to_z-of_z, err_from_is_err_and, Says, HasSerials, World, add_refusal, Adds, unless_some}
use Rattle.rk_core.proofs.tables.Tables.add.Goals as goal

pub returns-in_err-ring : goal.returns-in_err-ring
unfolding Adds
returns-in_err-ring c =
    let w : World = c.args.self.now in
    let left = c.left-left.result in
    let number = to_z-of_z w32 c.args.ring c.ranges.ring in
    let error = err_from_is_err_and c.from_residual.result c.from_residual.ensures.1 in
    rw (error.1, error.2) (
      left,
      subst (λ (v : World). Says left (HasSerials v.serials 1)) c.self.view_is c.left-left.ensures,
      unless_some _ _ w _ (sym (ap (λ n. add_refusal w c.args.asker.now c.args.name.now.typ c.args.name.now.description n left) number) ∙ c.in_err-ring.ensures),
    )
