use Rattle.rk_keys.proofs.Words.{◌≡◌, ◌∙◌, ap, sym, refl, false, unwrap_or, ℕ, cond, List, [], nat_eq, eq-eqb, names_at, with_one_fewer, Named}
use Rattle.std.specs.FinMap as map
use Rattle.rk_keys.proofs.Kept.{names_changed, names_gone, kept_out}
use Rattle.rk_keys.proofs.Firsts.{none_left}
use Rattle.rk_keys.proofs.naming.count_out.Goals as goal

pub returns-then-none_left : goal.returns-then-none_left
returns-then-none_left c = kept_out c.args.seed c.args.by_name.now.facts c.remove.new.self.facts c.args.typ.now c.args.description.now (λ h.
    ap (λ m. names_at m h) c.remove.ensures.facts ∙ names_gone c.exchange.new.self.facts c.hash_of-hash.result empty h
    ∙ after h
    ∙ ap (λ k. cond (nat_eq k h) (with_one_fewer c.args.typ.now c.args.description.now (names_at c.args.by_name.now.facts h)) (names_at c.args.by_name.now.facts h))
    c.hash_of-hash.ensures)
  where
    f : List Named → List Named
    f = with_one_fewer c.args.typ.now c.args.description.now

    after : (h : ℕ) → names_at c.exchange.new.self.facts h ≡ cond (nat_eq c.hash_of-hash.result h) (f (names_at c.args.by_name.now.facts h)) (names_at c.args.by_name.now.facts h)
    after h = ap (λ m. names_at m h) c.exchange.ensures.facts ∙ names_changed c.args.by_name.now.facts c.hash_of-hash.result f refl h

    empty : names_at c.exchange.new.self.facts c.hash_of-hash.result ≡ []
    empty =
        let k = c.hash_of-hash.result in
        after k ∙ ap (λ b. cond b (f (names_at c.args.by_name.now.facts k)) (names_at c.args.by_name.now.facts k)) (eq-eqb k k refl)
        ∙ none_left f (map.get c.args.by_name.now.facts k)
        (ap (λ o. unwrap_or o false) (sym c.exchange.ensures.answer) ∙ sym c.unwrap_or-none_left.ensures ∙ c.if-none_left.true)

pub returns-else-none_left : goal.returns-else-none_left
returns-else-none_left c = kept_out c.args.seed c.args.by_name.now.facts c.exchange.new.self.facts c.args.typ.now c.args.description.now (λ h.
    ap (λ m. names_at m h) c.exchange.ensures.facts
    ∙ names_changed c.args.by_name.now.facts c.hash_of-hash.result (with_one_fewer c.args.typ.now c.args.description.now) refl h
    ∙ ap (λ k. cond (nat_eq k h) (with_one_fewer c.args.typ.now c.args.description.now (names_at c.args.by_name.now.facts h)) (names_at c.args.by_name.now.facts h))
    c.hash_of-hash.ensures)
