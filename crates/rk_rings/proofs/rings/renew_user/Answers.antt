use Rattle.rk_rings.proofs.Words.{◌∙◌, ap, sym, ◌≡◌, subst, ◌+◌, refl, same_Some, get, len, insert, remove, None, Some, taken_out, AreUserRings, IsHis}
use Rattle.rk_rings.proofs.UserRings.{renewed, place_left}
use Rattle.rk_rings.proofs.rings.renew_user.Goals as goal

pub insert-requires-clause-new : goal.insert-requires-clause-new
insert-requires-clause-new c = ap (λ m. get m c.in-Some.uid) c.remove.ensures.facts ∙ taken_out c.args.users.now.facts c.in-Some.uid c.in-Some.uid refl

pub insert-requires-clause-room : goal.insert-requires-clause-room
insert-requires-clause-room c =
    place_left c.args.users.now.facts c.in-Some.uid c.args.users.now.room c.remove.new.self.room (c.requires.had c.in-Some.uid c.in-Some.is)
    (ap (λ m. len m + c.remove.new.self.room) (sym c.remove.ensures.facts) ∙ c.remove.ensures.places)

pub returns-in-Some-find_user_ring : goal.returns-in-Some-find_user_ring
returns-in-Some-find_user_ring c =
    let is : c.insert.new.self.facts ≡ insert (remove c.args.users.now.facts c.in-Some.uid) c.in-Some.uid c.in-Some-find_user_ring.other =
    c.insert.ensures.facts ∙ ap (λ m. insert m c.in-Some.uid c.in-Some-find_user_ring.other) c.remove.ensures.facts in
    subst (AreUserRings c.args.rows.now.facts) (sym is)
    (renewed c.args.rows.now.facts c.args.users.now.facts c.in-Some.uid (Some c.in-Some-find_user_ring.other)
    (subst (IsHis c.args.rows.now.facts c.in-Some.uid) c.in-Some-find_user_ring.is c.find_user_ring.ensures)
    (λ uid ne. c.requires.others uid (λ is. ne (sym (same_Some c.in-Some.uid uid (sym c.in-Some.is ∙ is))))))

pub returns-in_default-find_user_ring : goal.returns-in_default-find_user_ring
returns-in_default-find_user_ring c =
    subst (AreUserRings c.args.rows.now.facts) (sym c.remove.ensures.facts) (renewed c.args.rows.now.facts c.args.users.now.facts c.in-Some.uid None
    (subst (IsHis c.args.rows.now.facts c.in-Some.uid) c.in_default-find_user_ring.is c.find_user_ring.ensures)
    (λ uid ne. c.requires.others uid (λ is. ne (sym (same_Some c.in-Some.uid uid (sym c.in-Some.is ∙ is))))))
