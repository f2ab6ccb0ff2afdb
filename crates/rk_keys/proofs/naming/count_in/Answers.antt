use Rattle.rk_keys.proofs.Words.{◌≡◌, ◌∙◌, ap, refl, ℕ, cond, List, [], ◌∷◌, ◌++◌, nat_eq, Some, None, Result, Ok, Err, OnOk, OnErr, kept_of, counted_in}
use Rattle.rk_keys.proofs.Words.{number_in, one_more, Named}
use Rattle.std.specs.Option.{option_flatten}
use Rattle.rk_keys.proofs.Kept.{names_counted, number_told, kept_counted, kept_pushed, kept_same, as_counted_in, as_it_was}
use Rattle.rk_keys.proofs.naming.count_in.Goals as goal

pub returns-in-Some-clause-ok : goal.returns-in-Some-clause-ok
returns-in-Some-clause-ok c =
    let typ : List ℕ = c.args.name.now.typ in
    let description : List ℕ = c.args.name.now.description in
    let old = c.args.by_name.now.facts in
    let new = c.exchange.new.self.facts in
    let number : number_in (kept_of c.args.seed old typ description) ≡ Some c.in-Some.number =
    number_told c.args.seed old new typ description c.hash-hash.result c.typ.result.now c.description.result.now c.hash-hash.ensures c.typ.ensures
    c.description.ensures c.flatten.result (c.flatten.ensures ∙ ap option_flatten c.exchange.ensures.answer) ∙ c.in-Some.is in
    kept_counted c.args.seed old new typ description one_more (λ o. Some (counted_in typ description c.args.serial o)) (λ t d n. refl)
    (as_counted_in c.args.seed old new typ description c.args.serial c.in-Some.number (kept_of c.args.seed old typ description) number c.requires.few)
    (names_counted c.args.seed old new typ description c.hash-hash.result c.typ.result.now c.description.result.now c.hash-hash.ensures c.typ.ensures
    c.description.ensures c.exchange.ensures.facts)

on_ok : {A E P Q : Type 0} → (r : Result A E) → (P → Q) → OnOk r P → OnOk r Q
on_ok (Ok a) f p = f p
on_ok (Err e) f p = p

on_err : {A E P Q : Type 0} → (r : Result A E) → (P → Q) → OnErr r P → OnErr r Q
on_err (Ok a) f p = p
on_err (Err e) f p = f p

pub returns-in-None-clause-ok : goal.returns-in-None-clause-ok
returns-in-None-clause-ok c =
    let typ : List ℕ = c.args.name.now.typ in
    let description : List ℕ = c.args.name.now.description in
    let old = c.args.by_name.now.facts in
    let between = c.exchange.new.self.facts in
    let none : number_in (kept_of c.args.seed old typ description) ≡ None =
    number_told c.args.seed old between typ description c.hash-hash.result c.typ.result.now c.description.result.now c.hash-hash.ensures c.typ.ensures
    c.description.ensures c.flatten.result (c.flatten.ensures ∙ ap option_flatten c.exchange.ensures.answer) ∙ c.in-None.is in
    let was = as_it_was c.args.seed old between typ description one_more none
    (names_counted c.args.seed old between typ description c.hash-hash.result c.typ.result.now c.description.result.now c.hash-hash.ensures c.typ.ensures
    c.description.ensures c.exchange.ensures.facts) in
    let n : Named = counted_in typ description c.args.serial None in
    on_ok c.put_first.result (λ ok. kept_pushed c.args.seed old c.put_first.new.by_name.facts typ description c.args.serial was.0
    (λ h. ok h ∙ (λ i. cond (nat_eq (c.hash-hash.ensures i) h) (was.1 h i ++ n ∷ []) (was.1 h i)))) c.put_first.ensures.ok

pub returns-in-None-clause-err : goal.returns-in-None-clause-err
returns-in-None-clause-err c =
    let typ : List ℕ = c.args.name.now.typ in
    let description : List ℕ = c.args.name.now.description in
    let old = c.args.by_name.now.facts in
    let between = c.exchange.new.self.facts in
    let none : number_in (kept_of c.args.seed old typ description) ≡ None =
    number_told c.args.seed old between typ description c.hash-hash.result c.typ.result.now c.description.result.now c.hash-hash.ensures c.typ.ensures
    c.description.ensures c.flatten.result (c.flatten.ensures ∙ ap option_flatten c.exchange.ensures.answer) ∙ c.in-None.is in
    let was = as_it_was c.args.seed old between typ description one_more none
    (names_counted c.args.seed old between typ description c.hash-hash.result c.typ.result.now c.description.result.now c.hash-hash.ensures c.typ.ensures
    c.description.ensures c.exchange.ensures.facts) in
    on_err c.put_first.result (λ err. kept_same c.args.seed old c.put_first.new.by_name.facts typ description (λ h. err h ∙ was.1 h)) c.put_first.ensures.err
