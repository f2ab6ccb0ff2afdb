-- Fields whose type keeps their rule.
use Rattle.rk_message.proofs.Words.{refl, true, false, Bool, lit<, KeyError, flag_bits, error_number, U8, U32, IsValue}
use Rattle.rk_names.specs.declared.errors.KeyError.TheVariants as error
use Rattle.rk_message.specs.Table as table

-- the flags of a HELLO keep the rule of their field
pub flags_kept : (thread process : Bool) → IsValue table.flags (U8 (flag_bits thread process))
flags_kept true true = (lit< tt, refl)
flags_kept true false = (lit< tt, refl)
flags_kept false true = (lit< tt, refl)
flags_kept false false = (lit< tt, refl)

-- so does the error of a REJECT
pub error_kept : (e : KeyError) → IsValue table.error (U32 (error_number e))
error_kept error.Revoked = (lit< tt, refl)
error_kept _ = (lit< tt, refl)
