use Rattle.rk_auth.proofs.Words.{◌∙◌, ap, sym, ◌≡◌, subst, Some, None, changed_at, standing_at, home_at, AreChained, with_link, with_before, changed_if}
use Rattle.rk_auth.proofs.Words.{with_first}
use Rattle.rk_auth.proofs.Chained.{put_3, is_put, put_standing, chained_put}
use Rattle.rk_auth.proofs.chain.push.Goals as goal

written : (c : goal.After-set_before) → c.set_before.new.slots.facts
    ≡ put_3 c.args.slots.now.facts c.args.place c.args.home c.requires.chained c.requires.idle c.requires.place c.requires.home c.first-next.result
written c =
    let m = c.args.slots.now.facts in
    c.set_before.ensures.facts ∙ ap (changed_if c.first-next.result (with_before (Some c.args.place)))
    (c.change-2.ensures.facts ∙ ap (changed_at c.args.home (with_first (Some c.args.place)))
    (c.change.ensures.facts ∙ ap (λ o. changed_at c.args.place (with_link (Some (record { home = c.args.home; before = None; next = o }))) m) c.first-next.ensures))

pub returns-clause-chained : goal.returns-clause-chained
returns-clause-chained c =
    let m = c.args.slots.now.facts in
    subst AreChained (sym (written c))
    (chained_put m _ c.args.place c.args.home c.requires.chained c.requires.idle
    (is_put m c.args.place c.args.home c.requires.chained c.requires.idle c.requires.place c.requires.home c.first-next.result c.first-next.ensures))

pub returns-clause-standing : goal.returns-clause-standing
returns-clause-standing c q =
    ap (λ n. standing_at n q) (written c)
    ∙ put_standing c.args.slots.now.facts c.args.place c.args.home c.requires.chained c.requires.idle c.requires.place c.requires.home c.first-next.result q

pub returns-clause-homes : goal.returns-clause-homes
returns-clause-homes c q =
    ap (λ n. home_at n q) (written c)
    ∙ (is_put c.args.slots.now.facts c.args.place c.args.home c.requires.chained c.requires.idle c.requires.place c.requires.home c.first-next.result
    c.first-next.ensures).homes q
