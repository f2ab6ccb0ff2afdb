use Rattle.rk_core.proofs.Words.{◌≡◌, ℕ, Bool, ap, sym, ◌∙◌, subst, Option, Some, None, MatchResult, Result, if◌then◌else◌, RingFault, ring_at}
use Rattle.rk_core.proofs.Words.{is_numbered_live, ring_at-rings_seen, is_numbered_live-rings_seen, World}
use Rattle.rk_rings.specs.declared.fault.RingFault.TheVariants as fault
use Rattle.rk_core.proofs.tables.Tables.ring_at.Goals as goal

abbrev At : Result ℕ RingFault → Option ℕ → Bool → Type 0
At result there numbered =
    MatchResult result (λ ring. there ≡ Some ring) (λ f. (there ≡ None) × (f ≡ (if numbered then fault.Elsewhere else fault.NoRing)))

pub returns : goal.returns
returns c =
    let one : ring_at c.self.inside.rings c.args.context.now c.args.requestor c.args.place
    ≡ ring_at c.args.self.now.rings c.args.context.now c.args.requestor c.args.place =
    sym (ring_at-rings_seen c.self.inside.rings c.args.context.now c.args.requestor c.args.place)
    ∙ ap (λ (w : World). ring_at w.rings c.args.context.now c.args.requestor c.args.place) c.self.view_is in
    let two : is_numbered_live c.self.inside.rings c.args.place ≡ is_numbered_live c.args.self.now.rings c.args.place =
    sym (is_numbered_live-rings_seen c.self.inside.rings c.args.place) ∙ ap (λ (w : World). is_numbered_live w.rings c.args.place) c.self.view_is in
    subst (λ (b : Bool). At c.at.result (ring_at c.args.self.now.rings c.args.context.now c.args.requestor c.args.place) b) two
    (subst (λ (o : Option ℕ). At c.at.result o (is_numbered_live c.self.inside.rings c.args.place)) one c.at.ensures)
