-- Circles of waits.
use Rattle.std.specs.Prelude.{◌≡◌, ℕ, Option, Some, option_map}
use Rattle.rk_names.specs.declared.numbers.SessionId.{SessionId}
use Rattle.rk_names.specs.declared.numbers.SessionId.TheVariants.{Handler}
use Rattle.rk_auth.specs.Sessions.{Sessions, wait_of}

-- the key on which the handler of k waits
abbrev pub next_key : Sessions → ℕ → Option ℕ
next_key a k = option_map (λ w. w.key) (wait_of a (Handler k))

-- from k, by the handler's session of a key and the key on which it waits, one comes to s
pub data Leads : (a : Sessions) (k : ℕ) (s : SessionId) → Type 0 where
  its_own : {a : Sessions} (k : ℕ) → Leads a k (Handler k)
  further : {a : Sessions} {s : SessionId} (k j : ℕ) → next_key a k ≡ Some j → Leads a j s → Leads a k s
