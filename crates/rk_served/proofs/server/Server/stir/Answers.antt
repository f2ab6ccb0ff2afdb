use Rattle.rk_served.proofs.Words.{◌∙◌, sym, subst, on_ok_weaker, Option, ℕ, Wakes, left_of}
use Rattle.rk_served.proofs.Watching.{stirred, none_woken}
use Rattle.rk_served.proofs.server.Server.stir.Goals as goal

pub returns-in_ok-wake-in-Some : goal.returns-in_ok-wake-in-Some
returns-in_ok-wake-in-Some c =
    on_ok_weaker c.put_back.result
    (λ back. stirred (left_of c.args.self.now) c.args.who.now c.args.queue.now _ _ _ (rw c.own_key.ensures at c.in_ok-wake.ensures)
    (subst (λ (key : Option ℕ). Wakes c.args.self.now.book key c.wake.new.queue c.wake-in-Some.new.queue) (sym c.in-Some.is ∙ c.awaited.ensures)
    c.in_ok-wake-in-Some.ensures) back)
    c.put_back.ensures

pub returns-in-None : goal.returns-in-None
returns-in-None c =
    on_ok_weaker c.go_on.result
    (λ back. stirred (left_of c.args.self.now) c.args.who.now c.args.queue.now _ _ _ (rw c.own_key.ensures at c.in_ok-wake.ensures)
    (subst (λ (key : Option ℕ). Wakes c.args.self.now.book key c.wake.new.queue c.wake.new.queue) (sym c.in-None.is ∙ c.awaited.ensures)
    (none_woken c.args.self.now.book c.wake.new.queue)) back)
    c.go_on.ensures
