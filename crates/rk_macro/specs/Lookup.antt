-- What a lookup answers, as a relation.
use Rattle.std.specs.Prelude.{◌≡◌, ℕ, List, Option, option_map, Result, Ok, Err}
use Rattle.std.specs.declared.alloc.AllocError.{AllocError}
use Rattle.std.specs.Global.{Vec}
use Rattle.rk_conf.specs.declared.argument.Wanted.{Wanted}

-- the payload, no key, or out of memory, without the room of the vector
abbrev pub payload_shown : Result (Option (Vec ℕ)) AllocError → Result (Option (List ℕ)) AllocError
payload_shown (Ok payload) = Ok (option_map (λ v. v.items) payload)
payload_shown (Err e) = Err e

-- which answers a lookup may give for a key
abbrev pub Lookup : Type 1
Lookup = Wanted → Result (Option (List ℕ)) AllocError → Type 0

-- the lookup whose calls return these
abbrev pub answers_of : (Wanted → Result (Option (Vec ℕ)) AllocError → Type 0) → Lookup
answers_of returns wanted answer = (r : Result (Option (Vec ℕ)) AllocError) × returns wanted r × (payload_shown r ≡ answer)
