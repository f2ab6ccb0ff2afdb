use Rattle.rk_keys.proofs.Words.{◌≡◌, ◌∙◌, ap, sym, subst, Some, None, list_find, get_or, set, Bool, ◌<◌, List, Named, is_of, one_fewer, with_one_fewer}
use Rattle.rk_keys.proofs.Words.{ℕ, length, take, true, arith}
use Rattle.std.proofs.lemmas.List.{get_or_default}
use Rattle.rk_keys.proofs.Firsts.{found_first, changed_first, many_left, last_goes}
use Rattle.rk_keys.proofs.by_name.Bucket.count_out.Goals as goal
use Rattle.rk_keys.proofs.by_name.Bucket.count_out.Goals.{in-Some, in_default, in_default-via-in-Some+else-index-gt1, in_default-via-in_default}

pub returns-clause-names : goal.returns-clause-names
returns-clause-names c =
    let typ : List ℕ = c.args.typ.now in
    let description : List ℕ = c.args.description.now in
    let p : Named → Bool = is_of typ description in
    let items : List Named = c.self.inside.names.items in
    elim c.match-place_of.branch [
      | in-Some w ↦
          let place = w.in-Some.place in
          let n : Named = w.index_mut.result.now in
          let first = w.in-Some.ensures in
          let within = subst (λ ns. place < length ns) c.deref.ensures.value first.within in
          let before = subst (λ ns. list_find p (take place ns) ≡ None) c.deref.ensures.value first.before in
          let passes = subst (λ ns. p (get_or ns place n) ≡ true) c.deref.ensures.value (first.passes n) in
          let found : list_find p items ≡ Some n = found_first p items place n within before passes ∙ ap Some (sym w.index_mut.ensures.value) in
          let many : 1 < n.keys = subst (λ (m : Named). 1 < m.keys) (w.index.ensures ∙ get_or_default items place w.index.result.now n within ∙ sym w.index_mut.ensures.value) w.if-index-gt1.true in
          ap (λ b. b.names.items) w.self-inside-is
          ∙ ap (λ m. set items place (one_fewer m)) w.index_mut.ensures.value
          ∙ changed_first p one_fewer items place n within before passes
          ∙ many_left typ description items n found many
          ∙ ap (with_one_fewer typ description) c.self.view_is
      | in_default w ↦
          ap (λ b. b.names.items) w.self-inside-is ∙ w.take_name_out.ensures
          ∙ elim w.in_default.branch [
            | in_default-via-in-Some+else-index-gt1 w' ↦
                let place = w'.in-Some.place in
                let n : Named = w'.index.result.now in
                let first = w'.in-Some.ensures in
                let within = subst (λ ns. place < length ns) c.deref.ensures.value first.within in
                let before = subst (λ ns. list_find p (take place ns) ≡ None) c.deref.ensures.value first.before in
                let passes = subst (λ ns. p (get_or ns place n) ≡ true) c.deref.ensures.value (first.passes n) in
                last_goes typ description items (Some n) (found_first p items place n within before passes ∙ ap Some (sym w'.index.ensures)) w'.if-index-gt1.false
            | in_default-via-in_default w' ↦
                last_goes typ description items None (ap (list_find p) (sym c.deref.ensures.value) ∙ w'.in_default.ensures) (omega arith)
          ]
          ∙ ap (with_one_fewer typ description) c.self.view_is
    ]
