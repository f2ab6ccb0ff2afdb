use Rattle.rk_core.proofs.Words.{◌≡◌, ◌+◌, ◌≤◌, sym, ap, ◌∙◌, subst, ◌↔◌, IsTrue, World}
use Rattle.std.specs.FinMap as map
use Rattle.rk_core.proofs.Greetings.RingsOfAContext.{len-rings_seen}
use Rattle.rk_core.proofs.tables.Tables.has_room.Goals as goal

pub returns : goal.returns
returns c =
    let same : map.len c.self.inside.rings ≡ map.len c.args.self.now.rings =
    sym (len-rings_seen c.self.inside.rings) ∙ ap (λ (w : World). map.len w.rings) c.self.view_is in
    subst (λ n. IsTrue c.has_room.result ↔ (n + c.args.more ≤ 1024)) same c.has_room.ensures
