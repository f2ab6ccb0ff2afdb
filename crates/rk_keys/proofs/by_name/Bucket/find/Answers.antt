use Rattle.rk_keys.proofs.Words.{◌∙◌, ap, sym, Some, list_find, get_or, Bool, Named, is_of}
use Rattle.rk_keys.proofs.Firsts.{found_first}
use Rattle.rk_keys.proofs.by_name.Bucket.find.Goals as goal

pub returns : goal.returns
returns c =
    let p : Named → Bool = is_of c.args.typ.now c.args.description.now in
    let n : Named = c.index.result.now in
    let first = c.in_ok-place.ensures in
    ap Some c.index.ensures ∙ ap (λ ns. Some (get_or ns c.in_ok-place.place n)) (sym c.deref.ensures.value)
    ∙ sym (found_first p c.deref.result.now c.in_ok-place.place n first.within first.before (first.passes n))
    ∙ ap (list_find p) (c.deref.ensures.value ∙ c.self.view_is)
