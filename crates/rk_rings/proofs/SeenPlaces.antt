-- Places in rings that are seen without the numbers of names are those in the rings.
use Rattle.rk_rings.proofs.Words.{◌∙◌, ap, ◌≡◌, ℕ, cond, refl, List, [], ◌∷◌, option_map_or, None, Some, Option, unwrap_or, Rings, rings_seen}
use Rattle.rk_names.specs.declared.context.Context.{Context}
use Rattle.rk_names.specs.declared.context.Setting.{Setting}
use Rattle.rk_rings.specs.declared.place.Place.{Place}
use Rattle.rk_rings.specs.declared.place.Place.TheVariants.{Nowhere, Thread, Process, Session, User, Requestor, Numbered}
use Rattle.rk_rings.specs.Places.{live, ring_at, rings_of, is_one_of, is_numbered_live, first_ring, default_places, default_ring}
use Rattle.rk_rings.proofs.Seen.{contains_key-rings_seen}

pub live-rings_seen : (m : Rings) (o : Option ℕ) → live (rings_seen m) o ≡ live m o
live-rings_seen m None = refl
live-rings_seen m (Some ring) = ap (λ b. cond b (Some ring) None) (contains_key-rings_seen m ring)

-- the ring at a place is the same without the numbers of names
pub ring_at-rings_seen : (m : Rings) (c : Context) (requestor : Option ℕ) (p : Place) → ring_at (rings_seen m) c requestor p ≡ ring_at m c requestor p
ring_at-rings_seen m c requestor Nowhere = refl
ring_at-rings_seen m c requestor Thread = live-rings_seen m c.thread
ring_at-rings_seen m c requestor Process = live-rings_seen m c.process
ring_at-rings_seen m c requestor Session = live-rings_seen m (Some c.session)
ring_at-rings_seen m c requestor User = live-rings_seen m (Some c.user)
ring_at-rings_seen m c requestor Requestor = live-rings_seen m requestor
ring_at-rings_seen m c requestor (Numbered ring) = ap (λ o. cond (is_one_of ring (rings_of c)) o None) (live-rings_seen m (Some ring))

-- whether a numbered ring is there is the same without the numbers of names
pub is_numbered_live-rings_seen : (m : Rings) (p : Place) → is_numbered_live (rings_seen m) p ≡ is_numbered_live m p
is_numbered_live-rings_seen m (Numbered ring) = contains_key-rings_seen m ring
is_numbered_live-rings_seen m _ = refl

pub first_ring-rings_seen : (m : Rings) (c : Context) (requestor : Option ℕ) (ps : List Place) →
    first_ring (rings_seen m) c requestor ps ≡ first_ring m c requestor ps
first_ring-rings_seen m c requestor [] = refl
first_ring-rings_seen m c requestor (p ∷ ps) =
    ap (λ o. option_map_or (λ ring. Some ring) o (first_ring (rings_seen m) c requestor ps)) (ring_at-rings_seen m c requestor p)
    ∙ ap (option_map_or (λ ring. Some ring) (ring_at m c requestor p)) (first_ring-rings_seen m c requestor ps)

-- the ring for new keys is the same without the numbers of names
pub default_ring-rings_seen : (m : Rings) (c : Context) (requestor : Option ℕ) (s : Setting) →
    default_ring (rings_seen m) c requestor s ≡ default_ring m c requestor s
default_ring-rings_seen m c requestor s = ap (λ o. unwrap_or o c.user) (first_ring-rings_seen m c requestor (default_places s))
