-- Which rings there are, and of what kind, after each thing that a step may do.
use Rattle.rk_machine.proofs.Words.{◌≡◌, ℕ, ◌∙◌, Bool, true, false, cond, refl, ap, not, option_map_or, nat_cmp, Option, Some, None, nat_eq, option_map}
use Rattle.rk_machine.proofs.Words.{kept_where, Ring, RingKind, rings_changed, World, get_inserted, get_changed_at, get_kept_where, of_choice}
use Rattle.std.specs.FinMap as map
use Rattle.rk_rings.specs.declared.kind.RingKind.TheVariants as kind

abbrev kind_in : Option Ring → Option RingKind
kind_in o = option_map (λ r. r.kind) o

-- the kind of a ring, if there is one
abbrev pub kind_of : map.FinMap nat_cmp Ring → ℕ → Option RingKind
kind_of rings r = kind_in (map.get rings r)

-- the kind of a ring of the world, if it is there
abbrev pub kind_at : World → ℕ → Option RingKind
kind_at w r = kind_of w.rings r

-- user rings stay: user-keyring(7)
abbrev pub is_users_kind : RingKind → Bool
is_users_kind kind.User = true
is_users_kind kind.Thread = false
is_users_kind kind.Process = false
is_users_kind kind.Session = false

-- ---- links

kept_in : (b : Bool) (f : Ring → Ring) (o : Option Ring) → ((r : Ring) → (f r).kind ≡ r.kind) → kind_in (cond b (option_map f o) o) ≡ kind_in o
kept_in true f None keeps = refl
kept_in true f (Some r) keeps = ap (λ (k : RingKind). Some k) (keeps r)
kept_in false f o keeps = refl

-- a change of what is linked in a ring
pub kind_linked : (ring : Option ℕ) (f : Ring → Ring) → ((r : Ring) → (f r).kind ≡ r.kind) → (rings : map.FinMap nat_cmp Ring) (q : ℕ)
    → kind_of (rings_changed ring f rings) q ≡ kind_of rings q
kind_linked None f keeps rings q = refl
kind_linked (Some ring) f keeps rings q = ap kind_in (get_changed_at ring f rings q) ∙ kept_in (nat_eq ring q) f (map.get rings q) keeps

-- ---- rings come and go

-- a ring that is made has its kind, and every other ring is of the kind that it was
pub kind_made : (ring : ℕ) (r : Ring) (rings : map.FinMap nat_cmp Ring) (q : ℕ)
    → kind_of (map.insert rings ring r) q ≡ cond (nat_eq ring q) (Some r.kind) (kind_of rings q)
kind_made ring r rings q = ap kind_in (get_inserted rings ring r q) ∙ of_choice kind_in (nat_eq ring q) (Some r) (map.get rings q)

dropped_in : (b : Bool) (o : Option Ring) → kind_in (cond (option_map_or (λ (r : Ring). not b) o false) o None) ≡ cond b None (kind_in o)
dropped_in true None = refl
dropped_in true (Some r) = refl
dropped_in false None = refl
dropped_in false (Some r) = refl

-- the rings that pass a test are dropped
pub kind_dropped : (goes : ℕ → Bool) (rings : map.FinMap nat_cmp Ring) (q : ℕ)
    → kind_of (kept_where (λ ring r. not (goes ring)) rings) q ≡ cond (goes q) None (kind_of rings q)
kind_dropped goes rings q = ap kind_in (get_kept_where (λ ring r. not (goes ring)) rings q) ∙ dropped_in (goes q) (map.get rings q)
