-- A user ring of each user, by his uid.
use Rattle.std.specs.Prelude.{◌≡◌, ℕ, Bool, true, false, Option, MatchOption}
use Rattle.std.specs.Option.{option_map_or}
use Rattle.std.specs.Ordering.{nat_cmp}
use Rattle.std.specs.FinMap as map
use Rattle.rk_rings.specs.Numbered.{Rings, is_user_ring}

-- the ring is there, and this uid's user ring
abbrev pub is_his : Rings → ℕ → ℕ → Bool
is_his rings uid ring = option_map_or (is_user_ring uid) (map.get rings ring) false

-- a user ring of this uid, or None if there is none
abbrev pub IsHis : Rings → ℕ → Option ℕ → Type 0
IsHis rings uid found = MatchOption found ((ring : ℕ) → is_his rings uid ring ≡ false) (λ ring. is_his rings uid ring ≡ true)

-- each user who has a user ring is there with one, and nobody else
abbrev pub AreUserRings : Rings → map.FinMap nat_cmp ℕ → Type 0
AreUserRings rings users = (uid : ℕ) → IsHis rings uid (map.get users uid)
