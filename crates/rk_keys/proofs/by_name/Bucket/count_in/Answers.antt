use Rattle.rk_keys.proofs.Words.{◌≡◌, ◌∙◌, ap, sym, Some, list_find, get_or, set, Bool, Named, is_of, one_more, first_changed, number_in}
use Rattle.rk_keys.proofs.Firsts.{found_first, changed_first, not_changed}
use Rattle.rk_keys.proofs.by_name.Bucket.count_in.Goals as goal

pub returns-in_err-place-clause-names : goal.returns-in_err-place-clause-names
returns-in_err-place-clause-names c =
    let p : Named → Bool = is_of c.args.typ.now c.args.description.now in
    sym (not_changed p one_more c.args.self.now (ap (list_find p) (sym (c.deref.ensures.value ∙ c.self.view_is)) ∙ c.in_err-place.ensures))

pub returns-clause-number : goal.returns-clause-number
returns-clause-number c =
    let p : Named → Bool = is_of c.args.typ.now c.args.description.now in
    let n : Named = c.index_mut-named.result.now in
    let first = c.in_ok-place.ensures in
    ap number_in (
    ap Some c.index_mut-named.ensures.value ∙ ap (λ ns. Some (get_or ns c.in_ok-place.place n)) (sym c.deref.ensures.value)
    ∙ sym (found_first p c.deref.result.now c.in_ok-place.place n first.within first.before (first.passes n))
    ∙ ap (list_find p) (c.deref.ensures.value ∙ c.self.view_is))

pub returns-clause-names : goal.returns-clause-names
returns-clause-names c =
    let p : Named → Bool = is_of c.args.typ.now c.args.description.now in
    let n : Named = c.index_mut-named.result.now in
    let first = c.in_ok-place.ensures in
    let is : n ≡ get_or c.deref.result.now c.in_ok-place.place n =
    c.index_mut-named.ensures.value ∙ ap (λ ns. get_or ns c.in_ok-place.place n) (sym c.deref.ensures.value) in
    ap (λ ns. set ns c.in_ok-place.place (record n { keys = c.saturating_add-named.result })) (sym c.deref.ensures.value)
    ∙ ap (set c.deref.result.now c.in_ok-place.place) ((λ i. record n { keys = c.saturating_add-named.ensures i }) ∙ ap one_more is)
    ∙ changed_first p one_more c.deref.result.now c.in_ok-place.place n first.within first.before (first.passes n)
    ∙ ap (first_changed p one_more) (c.deref.ensures.value ∙ c.self.view_is)
