-- Names for the ledgers of a `Halls` that is to be made.
use Rattle.std.proofs.Common.{ℕ, nat_eq, if◌then◌else◌}
use Rattle.rk_hall.specs.declared.fresh.Fresh.{Fresh}

-- the ledgers by their number: of hall h the turns have 2 * h, the tokens one more
abbrev pub name_of : Fresh → ℕ → ℕ
name_of fresh k =
    if nat_eq k 0 then fresh.zero.calls.name
    else if nat_eq k 1 then fresh.zero.out.name
    else if nat_eq k 2 then fresh.one.calls.name
    else if nat_eq k 3 then fresh.one.out.name
    else if nat_eq k 4 then fresh.two.calls.name
    else if nat_eq k 5 then fresh.two.out.name
    else if nat_eq k 6 then fresh.three.calls.name
    else fresh.three.out.name
