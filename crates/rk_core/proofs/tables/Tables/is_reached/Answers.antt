use Rattle.rk_core.proofs.Words.{◌≡◌, ℕ, List, [], ◌∷◌, ap, sym, refl, ◌∙◌, list_any, is_linked, Rings, rings_seen, holds, rings_of, is_linked-rings_seen}
use Rattle.rk_core.proofs.Words.{World, is_reached}
use Rattle.std.specs.Prelude.{◌||◌}
use Rattle.rk_core.proofs.tables.Tables.is_reached.Goals as goal

seen_any : (m : Rings) (k : ℕ) (rings : List ℕ) → list_any (λ ring. holds m ring k) rings ≡ list_any (λ ring. is_linked (rings_seen m) ring k) rings
seen_any m k [] = refl
seen_any m k (ring ∷ rings) = λ i. sym (is_linked-rings_seen m ring k) i || seen_any m k rings i

pub returns : goal.returns
returns c =
    c.is_reached.ensures ∙ seen_any c.self.inside.rings c.args.key (rings_of c.args.context.now)
    ∙ ap (λ (w : World). is_reached w c.args.context.now c.args.key) c.self.view_is
