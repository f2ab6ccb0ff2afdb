use Rattle.rk_table.proofs.Words.{◌∙◌, ap, sym, subst, Some, IsGapFor, IsAt}
use Rattle.std.specs.FinMap as map
use Rattle.rk_table.proofs.Found.{found_at, not_found}
use Rattle.rk_table.proofs.table.Table.get_late.Goals as goal

pub returns-in-Ok : goal.returns-in-Ok
returns-in-Ok g c =
    ap (λ e. Some e.1) c.index.ensures
    ∙ sym (found_at c.self.inside.entries.items c.args.key c.in-Ok.at c.index.result.now c.self.invariant (subst (λ es. IsAt es c.args.key c.in-Ok.at) c.deref.ensures.value c.in-Ok.ensures.found))
    ∙ ap (λ s. map.get s.facts c.args.key) c.self.view_is

pub returns-in-Err : goal.returns-in-Err
returns-in-Err g c =
    sym (not_found c.self.inside.entries.items c.args.key c.in-Err.field-0 (subst (λ es. IsGapFor es c.args.key c.in-Err.field-0) c.deref.ensures.value c.in-Err.ensures.absent))
    ∙ ap (λ s. map.get s.facts c.args.key) c.self.view_is
