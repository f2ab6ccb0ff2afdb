-- What a session is answered where its body has no reading.
use Rattle.rk_names.specs.declared.errors.Errno.{Errno}
use Rattle.rk_names.specs.declared.errors.Errno.TheVariants.{Einval, Enomem}
use Rattle.rk_message.specs.declared.fault.Fault.{Fault}
use Rattle.rk_message.specs.declared.fault.Fault.TheVariants.{UnknownOp, Short, Trailing, Bad}
use Rattle.rk_message.specs.declared.fault.ReadError.{ReadError}
use Rattle.rk_message.specs.declared.fault.ReadError.TheVariants as error

-- a bad field has an errno of its own, all else is EINVAL
abbrev pub fault_answer : Fault → Errno
fault_answer UnknownOp = Einval
fault_answer Short = Einval
fault_answer Trailing = Einval
fault_answer (Bad e) = e

-- a fault's errno, and ENOMEM when out of memory
abbrev pub error_answer : ReadError → Errno
error_answer (error.Fault f) = fault_answer f
error_answer error.NoMemory = Enomem
