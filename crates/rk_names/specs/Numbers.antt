-- The numbers of errors, of serials and of moments.
use Rattle.std.specs.Prelude.{ℕ, List, codes, ◌+◌, ◌-◌, ◌^◌, min, Option, Some, None, nat_lt, ◌==◌, if◌then◌else◌}
use Rattle.rk_names.specs.declared.errors.Errno.{Errno}
use Rattle.rk_names.specs.declared.errors.Errno.TheVariants as errno
use Rattle.rk_names.specs.declared.errors.KeyError.{KeyError}
use Rattle.rk_names.specs.declared.errors.KeyError.TheVariants as error
use Rattle.rk_names.specs.declared.errors.NameFault.{NameFault}
use Rattle.rk_names.specs.declared.errors.NameFault.TheVariants as fault

-- the number of an error on Linux's generic ABI: errno(3), include/uapi/asm-generic/errno.h
abbrev pub errno_number : Errno → ℕ
errno_number errno.Eperm = 1
errno_number errno.Enoent = 2
errno_number errno.Enomem = 12
errno_number errno.Eacces = 13
errno_number errno.Ebusy = 16
errno_number errno.Einval = 22
errno_number errno.Edeadlk = 35
errno_number errno.Edquot = 122
errno_number errno.Enokey = 126
errno_number errno.Ekeyexpired = 127
errno_number errno.Ekeyrevoked = 128
errno_number errno.Ekeyrejected = 129

-- the name of an error in errno(3)
abbrev pub errno_name : Errno → List ℕ
errno_name errno.Eperm = codes "EPERM"
errno_name errno.Enoent = codes "ENOENT"
errno_name errno.Enomem = codes "ENOMEM"
errno_name errno.Eacces = codes "EACCES"
errno_name errno.Ebusy = codes "EBUSY"
errno_name errno.Einval = codes "EINVAL"
errno_name errno.Edeadlk = codes "EDEADLK"
errno_name errno.Edquot = codes "EDQUOT"
errno_name errno.Enokey = codes "ENOKEY"
errno_name errno.Ekeyexpired = codes "EKEYEXPIRED"
errno_name errno.Ekeyrevoked = codes "EKEYREVOKED"
errno_name errno.Ekeyrejected = codes "EKEYREJECTED"

-- the error that has a number
abbrev pub errno_named : ℕ → Option Errno
errno_named n =
    if n == 1 then Some errno.Eperm
    else (if n == 2 then Some errno.Enoent
    else (if n == 12 then Some errno.Enomem
    else (if n == 13 then Some errno.Eacces
    else (if n == 16 then Some errno.Ebusy
    else (if n == 22 then Some errno.Einval
    else (if n == 35 then Some errno.Edeadlk
    else (if n == 122 then Some errno.Edquot
    else (if n == 126 then Some errno.Enokey
    else (if n == 127 then Some errno.Ekeyexpired
    else (if n == 128 then Some errno.Ekeyrevoked
    else (if n == 129 then Some errno.Ekeyrejected else None)))))))))))

-- what the error of a key is answered as: request_key(2), "ERRORS"
abbrev pub key_errno : KeyError → Errno
key_errno error.Revoked = errno.Ekeyrevoked
key_errno error.Expired = errno.Ekeyexpired
key_errno error.Rejected = errno.Ekeyrejected
key_errno error.NoKey = errno.Enokey

-- the error of a key by its errno's number: keyctl_reject(3)
abbrev pub key_error_named : ℕ → Option KeyError
key_error_named n =
    if n == 126 then Some error.NoKey
    else (if n == 127 then Some error.Expired
    else (if n == 128 then Some error.Revoked
    else (if n == 129 then Some error.Rejected else None)))

-- what the fault of a name is answered as: add_key(2), "ERRORS"
abbrev pub fault_errno : NameFault → Errno
fault_errno fault.Empty = errno.Einval
fault_errno fault.TooLong = errno.Einval
fault_errno fault.Dot = errno.Eperm
fault_errno fault.Byte = errno.Einval
fault_errno fault.NoMemory = errno.Enomem

-- a serial is 1 to 2,147,483,647: keyrings(7), a positive key_serial_t
abbrev pub serial_of : ℕ → Option ℕ
serial_of n = if n == 0 then None else (if nat_lt 2147483647 n then None else Some n)

-- the moment so many seconds on, at most the greatest u64
abbrev pub moment_plus : ℕ → ℕ → ℕ
moment_plus now seconds = min (now + seconds) (2 ^ 64 - 1)
