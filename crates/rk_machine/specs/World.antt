-- The world: finite maps and sets of facts.
use Rattle.std.specs.Prelude.{ℕ, ◌||◌, refl}
use Rattle.std.specs.Coded.{Coded, code_by, coded×, coded_ℕ}
use Rattle.std.specs.Ordering.{nat_cmp}
use Rattle.std.specs.FinMap as map
use Rattle.std.specs.FinSet as set
use Rattle.rk_table.specs.Maps.{kept_where}
use Rattle.rk_keys.specs.declared.key.Key.{Key}
use Rattle.rk_keys.specs.contracts.key.Key as key
use Rattle.rk_keys.specs.Key.{is_building}
use Rattle.rk_keys.specs.Serials.{Drawn, drawn_code, with_drawn}
use Rattle.rk_rings.specs.Ring.{Ring, ring_code, has_link}
use Rattle.rk_auth.specs.Sessions.{Sessions, sessions_code, no_sessions}

-- what the machine knows
pub record World : Type 0 where
  pub negative : ℕ  -- for so many seconds a key is negative whose handler did not complete it
  pub keys : map.FinMap nat_cmp Key
  pub rings : map.FinMap nat_cmp Ring  -- live rings
  pub serials : Drawn  -- of keys and rings
  pub sessions : Sessions  -- and constructions

-- no key, no ring, no session
abbrev pub empty_world : ℕ → ℕ → ℕ → World
empty_world negative first stride = record {
  negative = negative;
  keys = map.empty;
  rings = map.empty;
  serials = record { first = first; stride = stride; used = set.empty };
  sessions = no_sessions;
}

-- a world as its five parts in a row, the form in which a model of a struct sees it
abbrev pub world_code : Coded World
world_code =
    code_by (ℕ × (map.FinMap nat_cmp Key × (map.FinMap nat_cmp Ring × (Drawn × Sessions))))
    (coded× coded_ℕ (coded× (map.code coded_ℕ key.the_row.coded) (coded× (map.code coded_ℕ ring_code) (coded× drawn_code sessions_code))))
    (λ w. (w.negative, (w.keys, (w.rings, (w.serials, w.sessions)))))
    (λ p. record { negative = p.0; keys = p.1.0; rings = p.1.1.0; serials = p.1.1.1.0; sessions = p.1.1.1.1 })
    (λ _. refl)

-- a serial is drawn
abbrev pub drawn : ℕ → World → World
drawn k w = record w { serials = with_drawn k w.serials }

-- a key stays while it has a link or is under construction: keyrings(7), "Keys ... are garbage collected"
abbrev pub tidied : World → World
tidied w = record w { keys = kept_where (λ k one. has_link w.rings k || is_building one) w.keys }
