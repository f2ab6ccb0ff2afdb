-- The order of a heap of sessions, whose greatest is the one that comes first.
use Rattle.std.specs.declared.cmp.Ordering.{Ordering}
use Rattle.std.specs.declared.cmp.Reverse.{Reverse}
use Rattle.rk_names.specs.declared.numbers.SessionId.{SessionId}
use Rattle.rk_names.specs.contracts.numbers.SessionIdOrd.TheImpl.{cmp-value}

-- a session as it stands in the heap
abbrev pub reversed : SessionId → Reverse SessionId
reversed s = record { 0 = s }

-- who comes later is less
abbrev pub first_is_greatest : Reverse SessionId → Reverse SessionId → Ordering
first_is_greatest x y = (cmp-value).it y.0 x.0
