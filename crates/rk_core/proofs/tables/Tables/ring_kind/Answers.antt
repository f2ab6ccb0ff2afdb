use Rattle.rk_core.proofs.Words.{◌≡◌, ℕ, refl, ap, sym, ◌∙◌, Option, Some, None, option_map, Ring, Numbered, ring_seen, RingKind, get-rings_seen, World}
use Rattle.std.specs.FinMap as map
use Rattle.rk_core.proofs.tables.Tables.ring_kind.Goals as goal

abbrev kind_in : Option Ring → Option (RingKind × ℕ)
kind_in o = option_map (λ r. (r.kind, r.uid)) o

kind_seen : (o : Option Numbered) → ◌≡◌ {A = Option (RingKind × ℕ)} (option_map (λ r. (r.kind, r.uid)) o) (kind_in (option_map ring_seen o))
kind_seen None = refl
kind_seen (Some r) = refl

pub returns : goal.returns
returns c =
    c.kind.ensures ∙ kind_seen (map.get c.self.inside.rings c.args.ring) ∙ ap kind_in (sym (get-rings_seen c.self.inside.rings c.args.ring))
    ∙ ap (λ (w : World). kind_in (map.get w.rings c.args.ring)) c.self.view_is
