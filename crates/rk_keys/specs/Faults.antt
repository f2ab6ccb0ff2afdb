-- Why a call on keys is refused.
use Rattle.std.specs.Prelude.{ℕ, Option, Some, None, option_map, option_and_then}
use Rattle.std.specs.Ordering.{nat_cmp}
use Rattle.std.specs.FinMap as map
use Rattle.rk_names.specs.declared.errors.Errno.{Errno}
use Rattle.rk_names.specs.declared.errors.Errno.TheVariants as errno
use Rattle.rk_names.specs.declared.errors.KeyError.TheVariants as error
use Rattle.rk_names.specs.Numbers.{key_errno}
use Rattle.rk_keys.specs.declared.key.Key.{Key}
use Rattle.rk_keys.specs.declared.key.Standing.{Standing}
use Rattle.rk_keys.specs.declared.key.Standing.TheVariants as standing
use Rattle.rk_keys.specs.declared.fault.KeyFault.{KeyFault}
use Rattle.rk_keys.specs.declared.fault.KeyFault.TheVariants.{Quota, Busy, Own, NoMemory}
use Rattle.rk_keys.specs.Key.{standing_of, over_error}

-- what a refusal is answered as: request_key(2), add_key(2), "ERRORS"
abbrev pub fault_errno : KeyFault → Errno
fault_errno Quota = errno.Edquot
fault_errno Busy = errno.Ebusy
fault_errno (Own e) = key_errno e
fault_errno NoMemory = errno.Enomem

-- why a key that stands so gives no payload
abbrev pub standing_fault : Standing → Option KeyFault
standing_fault standing.Building = Some Busy
standing_fault standing.Positive = None
standing_fault standing.Revoked = Some (Own error.Revoked)
standing_fault standing.Expired = Some (Own error.Expired)
standing_fault (standing.Negative e) = Some (Own e)

-- why a key can't be used at this moment; none if it stands Positive
abbrev pub use_fault : Key → ℕ → Option KeyFault
use_fault key now = standing_fault (standing_of key now)

-- why a key can't be changed any more: it stands revoked or expired
abbrev pub change_fault : map.FinMap nat_cmp Key → ℕ → ℕ → Option KeyFault
change_fault keys k now = option_and_then (λ key. option_map Own (over_error (standing_of key now))) (map.get keys k)
