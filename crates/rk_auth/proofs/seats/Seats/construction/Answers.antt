use Rattle.rk_auth.proofs.Words.{◌∙◌, ap, sym, ◌≡◌, option_copied, Some, standing_at, construction_of}
use Rattle.std.specs.FinMap as map
use Rattle.rk_auth.proofs.Seen.{seen_at, seen_none}
use Rattle.rk_auth.proofs.Seated.{construction_read}
use Rattle.rk_auth.proofs.seats.Seats.construction.Goals as goal

pub returns-in_err-get : goal.returns-in_err-get
returns-in_err-get c =
    ap option_copied c.from_residual.ensures ∙ sym (seen_none construction_of c.self.inside.slots.facts c.self.inside.constructions.facts c.args.key
    (ap (map.get c.self.inside.constructions.facts) (sym c.get.ensures.number) ∙ sym c.in_err-get.ensures))
    ∙ ap (λ h. map.get h.sessions.constructions c.args.key) c.self.view_is

pub returns : goal.returns
returns c =
    let at : map.get c.self.inside.constructions.facts c.args.key ≡ Some c.in_ok-get.field-0.now =
    ap (map.get c.self.inside.constructions.facts) (sym c.get.ensures.number) ∙ sym c.in_ok-get.ensures in
    c.construction_at.ensures ∙ construction_read (standing_at c.self.inside.slots.facts c.in_ok-get.field-0.now) c.args.key
    (c.self.invariant.tied.heads c.args.key c.in_ok-get.field-0.now at)
    ∙ sym (seen_at construction_of c.self.inside.slots.facts c.self.inside.constructions.facts c.args.key c.in_ok-get.field-0.now at)
    ∙ ap (λ h. map.get h.sessions.constructions c.args.key) c.self.view_is
