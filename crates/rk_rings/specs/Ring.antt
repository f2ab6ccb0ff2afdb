-- Rings, and the keys that are linked in them.
use Rattle.std.specs.Prelude.{ℕ, Bool, false, not, ◌==◌, if◌then◌else◌, refl}
use Rattle.std.specs.Option.{option_map_or}
use Rattle.std.specs.List.{list_any}
use Rattle.std.specs.Coded.{Coded, code_by, coded×, coded_ℕ}
use Rattle.std.specs.Ordering.{nat_cmp}
use Rattle.std.specs.FinMap as map
use Rattle.std.specs.FinSet as set
use Rattle.rk_rings.specs.declared.kind.RingKind.{RingKind}
use Rattle.rk_rings.specs.declared.kind.RingKind.TheVariants as kind
use Rattle.rk_rings.specs.contracts.kind.RingKind as kinds

-- a ring: whose it is, and the set of the keys that are linked in it. keyrings(7): "a keyring contains links to other keys"
pub record Ring : Type 0 where
  pub kind : RingKind
  pub uid : ℕ
  pub keys : set.FinSet nat_cmp

-- its three parts in a row, the form in which a model of a struct sees them
abbrev pub ring_code : Coded Ring
ring_code =
    code_by (RingKind × (ℕ × set.FinSet nat_cmp)) (coded× kinds.the_row.coded (coded× coded_ℕ (set.code coded_ℕ)))
    (λ r. (r.kind, (r.uid, r.keys))) (λ p. record { kind = p.0; uid = p.1.0; keys = p.1.1 }) (λ _. refl)

-- a ring in which no key is linked
abbrev pub empty_ring : RingKind → ℕ → Ring
empty_ring kind uid = record { kind = kind; uid = uid; keys = set.empty }

-- ---- what is linked

-- the key is linked in that ring
abbrev pub is_linked : map.FinMap nat_cmp Ring → ℕ → ℕ → Bool
is_linked rings ring k = option_map_or (λ r. set.contains r.keys k) (map.get rings ring) false

-- the key is in some ring
abbrev pub has_link : map.FinMap nat_cmp Ring → ℕ → Bool
has_link rings k = list_any (λ r. set.contains r.keys k) (map.values rings)

-- ---- changes: keyctl_link(3), keyctl_unlink(3), keyctl_clear(3)

-- k is linked, and the keys that give way to it are not. Nothing changes where k is there
abbrev pub with_link : (ℕ → Bool) → ℕ → Ring → Ring
with_link gives_way k r = record r { keys = if set.contains r.keys k then r.keys else set.retain (set.insert r.keys k) (λ j. not (gives_way j)) }

-- k is not linked
abbrev pub without_link : ℕ → Ring → Ring
without_link k r = record r { keys = set.remove r.keys k }

-- no key is linked
abbrev pub without_links : Ring → Ring
without_links r = record r { keys = set.empty }

-- ---- whose ring it is: user-keyring(7), session-keyring(7)

-- a user ring, of this uid
abbrev pub is_users : RingKind → ℕ → ℕ → Bool
is_users kind.User owner uid = owner == uid
is_users kind.Thread owner uid = false
is_users kind.Process owner uid = false
is_users kind.Session owner uid = false

-- a session ring, of this uid
abbrev pub is_sessions : RingKind → ℕ → ℕ → Bool
is_sessions kind.Session owner uid = owner == uid
is_sessions kind.Thread owner uid = false
is_sessions kind.Process owner uid = false
is_sessions kind.User owner uid = false
