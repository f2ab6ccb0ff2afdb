use Rattle.rk_core.proofs.Words.{◌≡◌, List, sym, ap, ◌∙◌, subst, Known, NewRing, rings_seen, AreNew, World, NumbersAgree, world_of, with_all, AreAllNew}
use Rattle.rk_core.proofs.Words.{with_new_rings}
use Rattle.rk_core.proofs.LinksAndNames.NumbersKept.{kept_rings, kept_numbers}
use Rattle.rk_core.proofs.Greetings.RingsOfAContext.{all_new, with_all_seen}
use Rattle.rk_core.proofs.tables.Tables.make_rings.Goals as goal

pub make-requires : goal.make-requires
make-requires c =
    subst (λ (made : List NewRing). AreNew made c.self.inside.rings) (sym c.deref.ensures.value)
    (all_new c.args.rings.made.items c.self.inside.rings (subst (AreAllNew c.args.rings.made.items)
    (sym (ap (λ (w : World). w.rings) c.self.view_is)) c.requires.new.new))

pub invariant_of-self : goal.invariant_of-self
invariant_of-self c =
    kept_numbers c.self.inside.keys c.set_serials.new.self c.make.new.self (ap (λ (k : Known). k.numbers) c.set_serials.ensures)
    (subst (NumbersAgree c.self.inside.keys) (sym c.in-Ok.ensures.ok) (kept_rings c.self.inside.keys c.deref.result.now c.self.inside.rings c.self.invariant))

pub returns-in-Ok-clause-ok : goal.returns-in-Ok-clause-ok
returns-in-Ok-clause-ok c =
    let before : World = world_of c.self.inside.negative c.self.inside.keys c.self.inside.rings c.self.inside.auths.sessions in
    let seen : rings_seen c.make.new.self ≡ with_all c.args.rings.made.items before.rings =
    ap rings_seen c.in-Ok.ensures.ok ∙ with_all_seen c.deref.result.now c.self.inside.rings
    ∙ ap (λ (made : List NewRing). with_all made before.rings) c.deref.ensures.value in
    (λ i. world_of c.self.inside.negative (c.set_serials.ensures i) c.make.new.self c.self.inside.auths.sessions)
    ∙ (λ i. record before { rings = seen i; serials = c.args.rings.serials })
    ∙ ap (with_new_rings c.args.rings.serials c.args.rings.made.items) c.self.view_is
