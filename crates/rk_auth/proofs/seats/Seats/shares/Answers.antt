use Rattle.rk_auth.proofs.Words.{◌∙◌, ap, sym, client_of, is_shared}
use Rattle.rk_auth.proofs.Seen.{seen_any}
use Rattle.rk_auth.proofs.seats.Seats.shares.Goals as goal

pub returns : goal.returns
returns c =
    c.any.ensures ∙ sym (seen_any client_of _ c.self.inside.slots.facts c.self.inside.clients.facts)
    ∙ ap (λ h. is_shared h.sessions c.args.client c.args.ring) c.self.view_is
