-- What a fault is answered as.
use Rattle.rk_names.specs.declared.errors.Errno.{Errno}
use Rattle.rk_names.specs.declared.errors.Errno.TheVariants as errno
use Rattle.rk_rings.specs.declared.fault.RingFault.{RingFault}
use Rattle.rk_rings.specs.declared.fault.RingFault.TheVariants as fault

-- keyctl_link(3), keyctl_unlink(3), "ERRORS"
abbrev pub fault_errno : RingFault → Errno
fault_errno fault.NoRing = errno.Enokey
fault_errno fault.Full = errno.Edquot
fault_errno fault.NotLinked = errno.Enoent
fault_errno fault.Elsewhere = errno.Eacces
fault_errno fault.NoMemory = errno.Enomem
