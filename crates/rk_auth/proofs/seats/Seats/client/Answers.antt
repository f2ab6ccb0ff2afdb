use Rattle.rk_auth.proofs.Words.{◌∙◌, ap, sym, ◌≡◌, option_copied, Some, standing_at, client_of}
use Rattle.std.specs.FinMap as map
use Rattle.rk_auth.proofs.Seen.{seen_at, seen_none}
use Rattle.rk_auth.proofs.Seated.{client_read}
use Rattle.rk_auth.proofs.seats.Seats.client.Goals as goal

pub returns-in_err-get : goal.returns-in_err-get
returns-in_err-get c =
    ap option_copied c.from_residual.ensures
    ∙ sym (seen_none client_of c.self.inside.slots.facts c.self.inside.clients.facts c.args.number (sym c.in_err-get.ensures))
    ∙ ap (λ h. map.get h.sessions.clients c.args.number) c.self.view_is

pub returns : goal.returns
returns c =
    let at : map.get c.self.inside.clients.facts c.args.number ≡ Some c.in_ok-get.field-0.now = sym c.in_ok-get.ensures in
    c.client_at.ensures
    ∙ client_read (standing_at c.self.inside.slots.facts c.in_ok-get.field-0.now) c.args.number (c.self.invariant.names c.args.number c.in_ok-get.field-0.now at)
    ∙ sym (seen_at client_of c.self.inside.slots.facts c.self.inside.clients.facts c.args.number c.in_ok-get.field-0.now at)
    ∙ ap (λ h. map.get h.sessions.clients c.args.number) c.self.view_is
