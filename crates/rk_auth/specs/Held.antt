-- What a caller sees of the library.
use Rattle.std.specs.Prelude.{ℕ, refl}
use Rattle.std.specs.Coded.{Coded, code_by, coded×, coded_ℕ}
use Rattle.rk_auth.specs.Sessions.{Sessions, sessions_code}

-- the sessions and constructions, and how many more constructions can be issued with no memory
pub record Held : Type 0 where
  pub sessions : Sessions
  pub room : ℕ

-- as a row, the form in which a model of a struct sees it
abbrev pub held_code : Coded Held
held_code = code_by (Sessions × ℕ) (coded× sessions_code coded_ℕ) (λ h. (h.sessions, h.room)) (λ p. record { sessions = p.0; room = p.1 }) (λ _. refl)
