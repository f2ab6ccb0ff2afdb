use Rattle.rk_auth.proofs.Words.{◌∙◌, ap, sym, option_copied_mut, changed_at}
use Rattle.rk_auth.proofs.Slabs.{change_place, leave_place}
use Rattle.rk_auth.proofs.places.Places.change.Goals as goal

pub returns-in_default-clause-facts : goal.returns-in_default-clause-facts
returns-in_default-clause-facts g c =
    leave_place c.self.inside.slab c.args.place (g.C.ChangeOnce.changed c.args.change) (sym c.get_mut.ensures.value ∙ ap option_copied_mut c.in_default.is)
    ∙ ap (λ s. changed_at c.args.place (g.C.ChangeOnce.changed c.args.change) s.facts) c.self.view_is

pub returns-clause-facts : goal.returns-clause-facts
returns-clause-facts g c =
    change_place c.self.inside.slab c.args.place (g.C.ChangeOnce.changed c.args.change) c.in-Some.value.now c.change.new.value
    (sym c.get_mut.ensures.value ∙ ap option_copied_mut c.in-Some.is) c.change.ensures
    ∙ ap (λ s. changed_at c.args.place (g.C.ChangeOnce.changed c.args.change) s.facts) c.self.view_is
