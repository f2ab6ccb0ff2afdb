use Rattle.rk_keys.proofs.Words.{◌∙◌, ap, ◌≡◌, refl, ℕ, subst, ◌<◌, cond, arith, List, nat_cmp, Some, None, Option, unwrap_or, at_new, kept_of, counted_in}
use Rattle.rk_keys.proofs.Words.{is_same, IsIndex, number_in, Known, IsHeld, new_key, IsNumberFor, AreCounts, Key, Named}
use Rattle.std.specs.FinMap as map
use Rattle.std.specs.FinSet as set
use Rattle.std.proofs.lemmas.Result.{err_from_is_err_and}
use Rattle.rk_keys.proofs.Names.{number_of_new, number_for_new}
use Rattle.rk_keys.proofs.Held.{held_made_so}
use Rattle.rk_keys.proofs.Indexed.{index_with, index_same, none_of, some_of, few_named}
use Rattle.rk_keys.proofs.UserCounts.{counts_with}
use Rattle.rk_keys.proofs.Refused.{no_quota}
use Rattle.rk_keys.proofs.keys.Keys.make.Goals as goal

pub returns-in_err-description-clause-quota : goal.returns-in_err-description-clause-quota
returns-in_err-description-clause-quota c =
    let p = err_from_is_err_and c.from_residual.result c.from_residual.ensures.1 in
    rw (p.1, p.2) (no_quota _ c.args.self.now c.args.owner c.in-Some.serial c.is_full.result _ (λ e. cc) c.self.view_is c.is_full.ensures
    c.if-is_full.false c.in-Some.ensures.cases.0)

pub returns-in_err-reserve_one-clause-quota : goal.returns-in_err-reserve_one-clause-quota
returns-in_err-reserve_one-clause-quota c =
    let p = err_from_is_err_and c.from_residual-in_err-reserve_one.result c.from_residual-in_err-reserve_one.ensures.1 in
    rw (p.1, p.2) (no_quota _ c.args.self.now c.args.owner c.in-Some.serial c.is_full.result _ (λ e. cc) c.self.view_is c.is_full.ensures
    c.if-is_full.false c.in-Some.ensures.cases.0)

pub returns-in_err-number-clause-quota : goal.returns-in_err-number-clause-quota
returns-in_err-number-clause-quota c =
    let p = err_from_is_err_and c.from_residual-in_err-number.result c.from_residual-in_err-number.ensures.1 in
    rw (p.1, p.2) (no_quota _ c.args.self.now c.args.owner c.in-Some.serial c.is_full.result _ (λ e. cc) c.self.view_is c.is_full.ensures
    c.if-is_full.false c.in-Some.ensures.cases.0)

pub returns-clause-quota : goal.returns-clause-quota
returns-clause-quota c =
    no_quota _ c.args.self.now c.args.owner c.in-Some.serial c.is_full.result _ (λ e. cc) c.self.view_is c.is_full.ensures
    c.if-is_full.false c.in-Some.ensures.cases.0

pub invariant_of-self-2 : goal.invariant_of-self-2
invariant_of-self-2 c =
    let known : Known = record { keys = c.reserve_one.new.facts.facts; numbers = c.reserve_one.new.numbers.facts; serials = c.self.inside.serials } in
    let held : IsHeld known = rw (c.reserve_one.ensures.facts, c.reserve_one.ensures.numbers) c.self.invariant.held in
    let key : Key = new_key c.args.name.now.typ c.args.name.now.description c.args.owner c.args.payload in
    let k : ℕ = c.in-Some.serial in
    let keys : map.FinMap nat_cmp Key = c.reserve_one.new.facts.facts in
    let by_name : map.FinMap nat_cmp (List Named) = c.self.inside.by_name.facts in
    let index : IsIndex c.self.inside.seed keys known.numbers by_name =
    rw (c.reserve_one.ensures.facts, c.reserve_one.ensures.numbers) c.self.invariant.index in
    let shared : Option ℕ = number_in (kept_of c.self.inside.seed by_name c.args.name.now.typ c.args.name.now.description) in
    let which : c.in_ok-number.number ≡ unwrap_or shared k = subst (λ s. c.in_ok-number.number ≡ unwrap_or shared s) c.get.ensures.number
    c.in_ok-number.ensures.number in
    let number = number_of_new known key k shared held c.in-Some.ensures.cases.0.drawable.unused
    (none_of c.self.inside.seed keys known.numbers by_name index c.args.name.now.typ c.args.name.now.description)
    (some_of c.self.inside.seed keys known.numbers by_name index c.args.name.now.typ c.args.name.now.description) in
    let counts : AreCounts keys c.reserve_one.new.counts.facts = rw (c.reserve_one.ensures.facts, c.reserve_one.ensures.counts) c.self.invariant.counts in
    let new : map.get keys k ≡ None = held.drawn k c.in-Some.ensures.cases.0.drawable.unused in
    let made : c.new.result ≡ key = c.new.ensures ∙ ap (λ t. new_key t c.in_ok-description.description c.args.owner c.args.payload) c.owned_typ.ensures
    ∙ ap (λ d. new_key c.args.name.now.typ d c.args.owner c.args.payload) c.in_ok-description.ensures in
    let put : c.insert-2.new.self.facts ≡ map.insert keys k key = cc (c.insert-2.ensures.facts, c.get-3.ensures.number, made) in
    let put_number : c.insert.new.self.facts ≡ map.insert known.numbers k c.in_ok-number.number = cc (c.insert.ensures.facts, c.get-2.ensures.number) in
    let kept : List ℕ → List ℕ → Option Named = kept_of c.self.inside.seed by_name in
    let with_it : ℕ → List ℕ → List ℕ → Option Named =
    λ s t d. cond (is_same c.args.name.now.typ c.args.name.now.description t d) (Some (counted_in c.args.name.now.typ c.args.name.now.description s (kept t d))) (kept t d) in
    let under : (t d : List ℕ) → kept_of c.self.inside.seed c.count_in.new.by_name.facts t d ≡ with_it k t d =
    λ t d. c.in_ok-number.ensures.ok t d ∙ ap (λ s. with_it s t d) c.get.ensures.number in
    let counted : IsIndex c.self.inside.seed (map.insert keys k key) (map.insert known.numbers k c.in_ok-number.number) c.count_in.new.by_name.facts =
    index_with c.self.inside.seed keys known.numbers by_name index k key c.in_ok-number.number c.count_in.new.by_name.facts new which under in
    record {
      held = held_made_so known k key c.in_ok-number.number c.insert-2.new.self.facts c.insert.new.self.facts c.draw.new.self put put_number
          c.in-Some.ensures.cases.1 (rw which number) held;
      index = rw (put, put_number) counted;
      counts = rw put (counts_with keys c.reserve_one.new.counts.facts c.one_more.new.self.facts k key counts new c.one_more.ensures.each);
    }

pub returns-clause-number : goal.returns-clause-number
returns-clause-number c =
    let known : Known = record { keys = c.reserve_one.new.facts.facts; numbers = c.reserve_one.new.numbers.facts; serials = c.self.inside.serials } in
    let same : known ≡ c.args.self.now = rw (c.reserve_one.ensures.facts, c.reserve_one.ensures.numbers) c.self.view_is in
    let by_name : map.FinMap nat_cmp (List Named) = c.self.inside.by_name.facts in
    let index : IsIndex c.self.inside.seed known.keys known.numbers by_name =
    rw (c.reserve_one.ensures.facts, c.reserve_one.ensures.numbers) c.self.invariant.index in
    let k : ℕ = c.in-Some.serial in
    let shared : Option ℕ = number_in (kept_of c.self.inside.seed by_name c.args.name.now.typ c.args.name.now.description) in
    let which : c.in_ok-number.number ≡ unwrap_or shared k = subst (λ s. c.in_ok-number.number ≡ unwrap_or shared s) c.get.ensures.number
    c.in_ok-number.ensures.number in
    let put : c.insert.new.self.facts ≡ map.insert known.numbers k c.in_ok-number.number = cc (c.insert.ensures.facts, c.get-2.ensures.number) in
    let is : map.get c.insert.new.self.facts k ≡ Some (unwrap_or shared k) = ap (λ m. map.get m k) put ∙
    at_new known.numbers k c.in_ok-number.number k refl ∙ ap Some which in
    subst (λ (n : Known). IsNumberFor n c.args.name.now.typ c.args.name.now.description k (map.get c.insert.new.self.facts k)) same
    (rw is (number_for_new known c.args.name.now.typ c.args.name.now.description k shared
    (none_of c.self.inside.seed known.keys known.numbers by_name index c.args.name.now.typ c.args.name.now.description)
    (some_of c.self.inside.seed known.keys known.numbers by_name index c.args.name.now.typ c.args.name.now.description)))

-- there are fewer keys of the name than serials
pub count_in-requires-clause-few : goal.count_in-requires-clause-few
count_in-requires-clause-few c =
    let known : Known = record { keys = c.self.inside.facts.facts; numbers = c.self.inside.numbers.facts; serials = c.self.inside.serials } in
    let counted = c.self.invariant.index.counted c.args.name.now.typ c.args.name.now.description in
    let most = few_named known c.args.name.now.typ c.args.name.now.description c.self.invariant.held in
    let drawn : set.len c.self.inside.serials.used < 2147483648 = c.in-Some.ensures.few in
    omega (arith, counted, most, drawn)

-- nothing is counted, where memory runs out
pub invariant_of-self-in_err-number : goal.invariant_of-self-in_err-number
invariant_of-self-in_err-number c =
    let by_name : map.FinMap nat_cmp (List Named) = c.self.inside.by_name.facts in
    let index : IsIndex c.self.inside.seed c.reserve_one.new.facts.facts c.reserve_one.new.numbers.facts by_name =
    rw (c.reserve_one.ensures.facts, c.reserve_one.ensures.numbers) c.self.invariant.index in
    record {
      held = rw (c.reserve_one.ensures.facts, c.reserve_one.ensures.numbers) c.self.invariant.held;
      index = index_same c.self.inside.seed c.reserve_one.new.facts.facts c.reserve_one.new.numbers.facts by_name index c.count_in.new.by_name.facts
          c.in_err-number.ensures.err;
      counts = rw (c.reserve_one.ensures.facts, c.reserve_one.ensures.counts) c.self.invariant.counts;
    }
