-- The order in which sessions move, and in which the peers stand.
use Rattle.std.specs.Prelude.{Bool, true, false, not, ◌&&◌, nat_lt, List, [], ◌∷◌}
use Rattle.std.specs.List.{list_all}
use Rattle.rk_names.specs.declared.numbers.SessionId.{SessionId}
use Rattle.rk_names.specs.declared.numbers.SessionId.TheVariants.{Client, Handler}
use Rattle.rk_served.specs.declared.peer.Peer.{Peer}

-- clients by rising number, and then handlers by rising key
abbrev pub comes_before : SessionId → SessionId → Bool
comes_before (Client m) (Client n) = nat_lt m n
comes_before (Client m) (Handler k) = true
comes_before (Handler j) (Client n) = false
comes_before (Handler j) (Handler k) = nat_lt j k

-- no peer stands after one that it comes before
abbrev pub are_in_order : List Peer → Bool
are_in_order [] = true
are_in_order (x ∷ xs) = list_all (λ y. not (comes_before y.who x.who)) xs && are_in_order xs
