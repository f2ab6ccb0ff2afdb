use Rattle.rk_core.proofs.Words.{◌≡◌, ℕ, [], ap, refl, subst, Option, Some, None, rings_seen, World, Query, IsSole, IsSought, IsNumberOf, Missed}
use Rattle.rk_core.specs.declared.search.Sought.TheVariants as sought
use Rattle.rk_core.proofs.LinksAndNames.KeysOfAName.{IsNameOf, by_name}
use Rattle.rk_core.proofs.LinksAndNames.SoleKeyOfAName.{none_sole, found_sole}
use Rattle.rk_core.proofs.Searching.WhatIsHit.{with_nothing, one_by_one}
use Rattle.rk_core.proofs.tables.Tables.search.Goals as goal

pub returns-in_default : goal.returns-in_default
returns-in_default c =
    let w : World = c.args.self.now in
    let q : Query = record { context = c.args.context.now; typ = c.args.name.now.typ; description = c.args.name.now.description; now = c.args.now } in
    let none : (ring : Option ℕ) → IsSole w q ring None =
    none_sole c.self.inside.keys c.self.inside.rings q c.name.ensures.naming c.self.invariant w (ap (λ (w : World). w.keys) c.self.view_is)
    (ap (λ (w : World). w.rings) c.self.view_is) (c.name.ensures.none c.in_default.is) in
    let missed : Missed = record { block = None; stale = None } in
    subst (λ rings. IsSought w q rings (sought.Missed missed)) (one_by_one c.args.context.now)
    (with_nothing w q _ (Some c.args.context.now.user) missed (with_nothing w q _ (Some c.args.context.now.session) missed
    (with_nothing w q _ c.args.context.now.process missed (with_nothing w q [] c.args.context.now.thread missed
    (refl, refl, refl) (none c.args.context.now.thread)) (none c.args.context.now.process)) (none (Some c.args.context.now.session)))
    (none (Some c.args.context.now.user)))

pub returns : goal.returns
returns c =
    let w : World = c.args.self.now in
    let q : Query = record { context = c.args.context.now; typ = c.args.name.now.typ; description = c.args.name.now.description; now = c.args.now } in
    let names : IsNameOf c.self.inside.keys c.args.name.now.typ c.args.name.now.description (Some c.in-Some.name) =
    subst (IsNameOf c.self.inside.keys c.args.name.now.typ c.args.name.now.description) c.in-Some.is
    (by_name c.self.inside.keys c.args.name.now.typ c.args.name.now.description c.name.result c.name.ensures.naming c.name.ensures.none c.name.ensures.some) in
    let keys : c.self.inside.keys.keys ≡ w.keys = ap (λ (w : World). w.keys) c.self.view_is in
    let seen : rings_seen c.self.inside.rings ≡ w.rings = ap (λ (w : World). w.rings) c.self.view_is in
    let number : IsNumberOf w q c.self.inside.keys c.self.inside.rings c.in-Some.name =
    found_sole c.self.inside.keys c.self.inside.rings q c.name.ensures.naming c.self.invariant w keys seen c.in-Some.name names in
    subst (λ rings. IsSought w q rings c.further.result) (one_by_one c.args.context.now)
    (c.further.ensures w q _ refl number (c.further-sought-3.ensures w q _ refl number (c.further-sought-2.ensures w q _ refl number
    (c.further-sought.ensures w q [] refl number (refl, refl, refl)))))
