use Rattle.rk_rings.proofs.Words.{◌∙◌, ap, sym, subst, none-some, same_Some, insert, contains_key, AreUserRings}
use Rattle.rk_rings.proofs.UserRings.{IsUserOf, users_same, users_made}
use Rattle.rk_rings.proofs.rings.note_user.Goals as goal

pub returns-in_default-clause-users : goal.returns-in_default-clause-users
returns-in_default-clause-users c m new all =
    users_same m c.args.users.now.facts c.args.serial c.args.row.now c.user.result c.user.ensures
    (λ uid is. absurd (none-some uid (sym c.in_default.is ∙ is))) new all

pub returns-then-not-contains-clause-users : goal.returns-then-not-contains-clause-users
returns-then-not-contains-clause-users c m new all =
    subst (AreUserRings (insert m c.args.serial c.args.row.now)) (sym c.insert.ensures.facts)
    (users_made m c.args.users.now.facts c.args.serial c.args.row.now c.in-Some.uid new (subst (IsUserOf c.args.row.now) c.in-Some.is c.user.ensures) all)

pub returns-else-not-contains-clause-users : goal.returns-else-not-contains-clause-users
returns-else-not-contains-clause-users c m new all =
    users_same m c.args.users.now.facts c.args.serial c.args.row.now c.user.result c.user.ensures
    (λ uid is. ap (contains_key c.args.users.now.facts) (sym (same_Some c.in-Some.uid uid (sym c.in-Some.is ∙ is))) ∙
    sym c.contains.ensures ∙ c.if-not-contains.false) new all
