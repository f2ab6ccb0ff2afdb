use Rattle.rk_keys.proofs.Words.{◌∙◌, ap, sym, arith, add-one, take, list_find, is_of}
use Rattle.rk_keys.proofs.Firsts.{none_further}
use Rattle.rk_keys.proofs.by_name.place_of.Goals as goal

pub loop-place-preserved : goal.loop-place-preserved
loop-place-preserved c =
    let names = c.args.names.now in
    ap (λ n. list_find (is_of c.args.typ.now c.args.description.now) (take n names)) (add-one c.loop-place.place)
    ∙ none_further (is_of c.args.typ.now c.args.description.now) names c.loop-place.place c.index-names-place.result (omega (arith, c.loop-place-test.true))
    c.loop-place.invariant
    (ap (is_of c.args.typ.now c.args.description.now) (sym c.index-names-place.is) ∙ sym c.is.ensures ∙ c.if-is.false)
