-- The walk from a key to the handler that makes it, and the key on which that one waits.
use Rattle.std.specs.Prelude.{ℕ, zero, suc, Bool, false, ◌==◌, ◌||◌, Option, option_map, option_and_then}
use Rattle.std.specs.Option.{option_map_or}
use Rattle.std.specs.Ordering.{nat_cmp}
use Rattle.std.specs.FinMap as map
use Rattle.rk_auth.specs.declared.construction.Construction.{Construction}
use Rattle.rk_auth.specs.Sessions.{handler_in}

-- the key on which the handler waits, if there is a handler that waits
abbrev pub waited_key : Construction → Option ℕ
waited_key c = option_map (λ w. w.key) (option_and_then (λ s. s.wait) (handler_in c.stage))

-- the key on which the handler of k waits
abbrev pub next_of : map.FinMap nat_cmp Construction → ℕ → Option ℕ
next_of m k = option_and_then waited_key (map.get m k)

-- own is met within so many steps from k
abbrev pub leads_within : map.FinMap nat_cmp Construction → ℕ → ℕ → ℕ → Bool
leads_within m zero k own = k == own
leads_within m (suc n) k own = (k == own) || option_map_or (λ j. leads_within m n j own) (next_of m k) false
