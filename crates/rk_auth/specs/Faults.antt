-- Why a call is refused.
use Rattle.std.specs.Prelude.{ℕ, not, ◌==◌, is_none, Option, Some, None, if◌then◌else◌}
use Rattle.rk_names.specs.declared.numbers.SessionId.{SessionId}
use Rattle.rk_names.specs.declared.numbers.SessionId.TheVariants.{Client, Handler}
use Rattle.rk_names.specs.declared.errors.Errno.{Errno}
use Rattle.rk_names.specs.declared.errors.Errno.TheVariants as errno
use Rattle.rk_auth.specs.declared.fault.AuthFault.{AuthFault}
use Rattle.rk_auth.specs.declared.fault.AuthFault.TheVariants as fault
use Rattle.rk_auth.specs.Sessions.{Sessions, unspent}

-- what a fault is answered as: keyctl_assume_authority(3), keyctl_instantiate(3), "ERRORS"
abbrev pub fault_errno : AuthFault → Errno
fault_errno fault.NoKey = errno.Enokey
fault_errno fault.Revoked = errno.Ekeyrevoked
fault_errno fault.NotOwner = errno.Eperm
fault_errno fault.Circle = errno.Edeadlk
fault_errno fault.Quota = errno.Edquot
fault_errno fault.NoMemory = errno.Enomem

-- the authority is of another key, or spent
abbrev pub own_fault : Sessions → ℕ → ℕ → Option AuthFault
own_fault a own k = if not (k == own) then Some fault.NoKey else (if is_none (unspent a own) then Some fault.Revoked else None)

-- a handler may assume the authority of its own key alone, while it is unspent: keyctl_assume_authority(3)
abbrev pub assume_fault : Sessions → SessionId → Option ℕ → Option AuthFault
assume_fault a s None = None
assume_fault a (Client n) (Some k) = Some fault.NoKey
assume_fault a (Handler own) (Some k) = own_fault a own k
