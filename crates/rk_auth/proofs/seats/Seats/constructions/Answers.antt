use Rattle.rk_auth.proofs.Words.{◌∙◌, ap, sym, construction_of}
use Rattle.std.specs.FinMap as map
use Rattle.rk_auth.proofs.Seen.{seen_len}
use Rattle.rk_auth.proofs.seats.Seats.constructions.Goals as goal

pub returns : goal.returns
returns c =
    c.len.ensures ∙ sym (seen_len construction_of c.self.inside.slots.facts c.self.inside.constructions.facts)
    ∙ ap (λ h. map.len h.sessions.constructions) c.self.view_is
