use Rattle.rk_auth.proofs.Words.{◌∙◌, ap, sym, ◌≡◌, subst, refl, ℕ, cond, Some, None, nat_eq, standing_at, home_at, AreChained}
use Rattle.rk_auth.proofs.Links.{at_same}
use Rattle.rk_auth.proofs.Stands.{out_chained, out_homes, out_stands, still_alone}
use Rattle.rk_auth.proofs.waits.take_out.Goals as goal

idle : (c : goal.After-remove) → home_at c.unlink.new.slots.facts c.args.place ≡ None
idle c = c.unlink.ensures.homes c.args.place ∙ at_same c.args.place c.args.place None (home_at c.args.slots.now.facts c.args.place) refl

alone : (c : goal.After-remove) (q : ℕ) → ¬ (home_at c.unlink.new.slots.facts q ≡ Some c.args.place)
alone c q e = still_alone c.args.place q (home_at c.args.slots.now.facts q) (c.requires.alone q) (sym (c.unlink.ensures.homes q) ∙ e)

pub returns-clause-chained : goal.returns-clause-chained
returns-clause-chained c =
    subst AreChained (sym c.remove.ensures.facts) (out_chained c.unlink.new.slots.facts c.args.place (idle c) c.unlink.ensures.chained (alone c))

pub returns-clause-standing : goal.returns-clause-standing
returns-clause-standing c q =
    ap (λ n. standing_at n q) c.remove.ensures.facts ∙ out_stands c.unlink.new.slots.facts c.args.place q
    ∙ ap (cond (nat_eq c.args.place q) None) (c.unlink.ensures.standing q)

pub returns-clause-homes : goal.returns-clause-homes
returns-clause-homes c q =
    ap (λ n. home_at n q) c.remove.ensures.facts ∙ out_homes c.unlink.new.slots.facts c.args.place (idle c) c.unlink.ensures.chained (alone c) q
    ∙ c.unlink.ensures.homes q
