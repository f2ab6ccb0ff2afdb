-- The bytes of a reply, wherever they lie.
use Rattle.std.specs.Prelude.{ℕ, List}
use Rattle.rk_talk.specs.declared.frame.Kept.{Kept}
use Rattle.rk_talk.specs.declared.frame.Kept.TheVariants.{Number, Refusal, Other}

-- the bytes that are kept
abbrev pub kept_bytes : Kept → List ℕ
kept_bytes (Number bytes) = bytes
kept_bytes (Refusal bytes) = bytes
kept_bytes (Other bytes) = bytes.now
