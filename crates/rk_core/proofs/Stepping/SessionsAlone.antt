-- A change of the sessions alone, as the world sees it.
use Rattle.rk_core.proofs.Words.{◌≡◌, ℕ, ap, ◌∙◌, Known, Rings, Sessions, World, world_of}

-- a change of the sessions alone is that change of the world
pub in_sessions : (negative : ℕ) (known : Known) (rings : Rings) (before after : Sessions) (w : World) (f : Sessions → Sessions)
    → world_of negative known rings before ≡ w → after ≡ f before
    → world_of negative known rings after ≡ record w { sessions = f w.sessions }
in_sessions negative known rings before after w f view changed =
    (λ i. world_of negative known rings (changed i)) ∙ ap (λ (v : World). record v { sessions = f v.sessions }) view
