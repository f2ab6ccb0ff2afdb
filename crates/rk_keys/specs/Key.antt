-- A key, and what it is at a moment.
use Rattle.std.specs.Prelude.{ℕ, Bool, true, false, ◌&&◌, if◌then◌else◌, nat_le, not, ◌==◌, List, bytes_eq, Option, Some, None, option_map, unwrap_or}
use Rattle.std.specs.Ordering.{nat_cmp}
use Rattle.std.specs.FinMap as map
use Rattle.rk_names.specs.declared.errors.KeyError.{KeyError}
use Rattle.rk_names.specs.declared.errors.KeyError.TheVariants as error
use Rattle.rk_keys.specs.declared.key.Key.{Key}
use Rattle.rk_keys.specs.declared.key.Condition.{Condition}
use Rattle.rk_keys.specs.declared.key.Condition.TheVariants.{Building, Positive, Negative}
use Rattle.rk_keys.specs.declared.key.Standing.{Standing}
use Rattle.rk_keys.specs.declared.key.Standing.TheVariants as standing

-- ---- standing: keyrings(7), "Keys"; keyctl_revoke(3); keyctl_set_timeout(3)

-- a key is past its expiry from that moment on
abbrev pub is_past : Option ℕ → ℕ → Bool
is_past None now = false
is_past (Some end) now = nat_le end now

-- how a key stands that is neither revoked nor expired
abbrev pub stands_by : Condition → Standing
stands_by Building = standing.Building
stands_by (Positive payload) = standing.Positive
stands_by (Negative e) = standing.Negative e

-- what a key is at a moment
abbrev pub standing_of : Key → ℕ → Standing
standing_of key now =
    if key.revoked then standing.Revoked else (if is_past key.expiry now then standing.Expired else stands_by key.condition)

-- the error of a key that stands neither Positive nor Building: request_key(2), "ERRORS"
abbrev pub error_of : Standing → Option KeyError
error_of standing.Revoked = Some error.Revoked
error_of standing.Expired = Some error.Expired
error_of standing.Building = None
error_of standing.Positive = None
error_of (standing.Negative e) = Some e

-- the error of a key that can't be changed any more: it is revoked or expired
abbrev pub over_error : Standing → Option KeyError
over_error standing.Revoked = Some error.Revoked
over_error standing.Expired = Some error.Expired
over_error standing.Building = None
over_error standing.Positive = None
over_error (standing.Negative e) = None

-- ---- condition

-- under construction, by the condition: a revoked or expired key still is
abbrev pub builds : Condition → Bool
builds Building = true
builds (Positive payload) = false
builds (Negative e) = false

-- the key is under construction
abbrev pub is_building : Key → Bool
is_building key = builds key.condition

-- the key is marked as revoked
abbrev pub is_revoked : Key → Bool
is_revoked key = key.revoked

-- ---- name: a key differs from others by its type and description, add_key(2)

-- the key has this type and description
abbrev pub is_named : List ℕ → List ℕ → Key → Bool
is_named typ description key = bytes_eq key.typ typ && bytes_eq key.description description

-- both keys have the same type and description
abbrev pub have_one_name : Key → Key → Bool
have_one_name a b = is_named b.typ b.description a

-- ---- among the keys

-- there is such a key, and it passes the test
abbrev pub key_passes : map.FinMap nat_cmp Key → ℕ → (Key → Bool) → Bool
key_passes keys k p = unwrap_or (option_map p (map.get keys k)) false

-- the key has this type and description
abbrev pub has_name : map.FinMap nat_cmp Key → ℕ → List ℕ → List ℕ → Bool
has_name keys k typ description = key_passes keys k (is_named typ description)

-- another key of the same type and description, which gives way where k is linked: request-key.rst
abbrev pub is_rival : map.FinMap nat_cmp Key → ℕ → ℕ → Bool
is_rival keys k other = not (other == k) && key_passes keys k (λ key. has_name keys other key.typ key.description)
