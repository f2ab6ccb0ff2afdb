use Rattle.rk_auth.proofs.Words.{◌∙◌, ap, sym, client_of}
use Rattle.std.specs.FinMap as map
use Rattle.rk_auth.proofs.Seen.{seen_len}
use Rattle.rk_auth.proofs.seats.Seats.clients.Goals as goal

pub returns-clause-count : goal.returns-clause-count
returns-clause-count c =
    c.len.ensures ∙ sym (seen_len client_of c.self.inside.slots.facts c.self.inside.clients.facts) ∙ ap (λ h. map.len h.sessions.clients) c.self.view_is
