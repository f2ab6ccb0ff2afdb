-- Where a daemon is asked.
use Rattle.std.specs.Prelude.{ℕ, List}
use Rattle.rk_ctl.specs.declared.address.Address.{Address}

-- the path of its socket, and for how many seconds it is waited for at most; 0 is no limit
pub record AddressSaid : Type 0 where
  pub path : List ℕ
  pub seconds : ℕ

-- the same, of an address
abbrev pub address_by : Address → AddressSaid
address_by a = record { path = a.path.now; seconds = a.seconds }
