-- Who acts, and what rings and keys its asks name.
use Rattle.std.specs.Prelude.{
  ℕ,
  ◌+◌,
  ℤ,
  pos,
  negsuc,
  Bool,
  false,
  not,
  ◌||◌,
  ◌==◌,
  is_none,
  [],
  ◌∷◌,
  Option,
  Some,
  None,
  option_map,
  option_and_then,
  if◌then◌else◌,
}
use Rattle.std.specs.Option.{option_map_or}
use Rattle.std.specs.List.{list_any}
use Rattle.std.specs.FinMap as map
use Rattle.rk_names.specs.declared.context.Context.{Context}
use Rattle.rk_names.specs.declared.numbers.SessionId.{SessionId}
use Rattle.rk_names.specs.declared.numbers.SessionId.TheVariants.{Client, Handler}
use Rattle.rk_names.specs.declared.errors.Errno.{Errno}
use Rattle.rk_names.specs.declared.errors.Errno.TheVariants as errno
use Rattle.rk_rings.specs.declared.place.Place.{Place}
use Rattle.rk_rings.specs.Ring.{is_linked}
use Rattle.rk_rings.specs.Places.{place_named, rings_of, ring_at, is_numbered_live}
use Rattle.rk_auth.specs.declared.session.Session.{Session}
use Rattle.rk_auth.specs.declared.construction.Authority.{Authority}
use Rattle.rk_auth.specs.Sessions.{session_of, assumed_authority}
use Rattle.rk_machine.specs.World.{World}
pub use Rattle.rk_machine.specs.declared.asker.Asker.{Asker}
use Rattle.rk_machine.specs.Allowed.{first_of, refused_if}

-- ---- who acts

-- a client acts for itself
abbrev pub client_asker : Session → Option Asker
client_asker s = option_map (λ c. record { context = c; assumed = None; requestor = None; depth = 1; setting = s.setting }) s.context

-- a handler acts for the first requester, by the authority of k: request-key.rst, "in the context of the initial process"
abbrev pub handler_asker : Session → ℕ → Authority → Asker
handler_asker s k a = record { context = a.context; assumed = Some k; requestor = Some a.destination; depth = a.depth + 1; setting = s.setting }

-- who acts when a handler asks: its first requester, if it has assumed an authority that is unspent
abbrev pub assumed_asker : World → SessionId → Session → Option Asker
assumed_asker w id s = option_and_then (λ k. option_map (handler_asker s k) (assumed_authority w.sessions id)) s.assumed

-- who acts when the session asks: none without a context or an assumed authority
abbrev pub asker_of : World → SessionId → Option Asker
asker_of w (Client n) = option_and_then client_asker (session_of w.sessions (Client n))
asker_of w (Handler k) = option_and_then (assumed_asker w (Handler k)) (session_of w.sessions (Handler k))

-- the asker has assumed the authority of k
abbrev pub has_assumed : Asker → ℕ → Bool
has_assumed asker k = option_map_or (λ j. j == k) asker.assumed false

-- ---- the rings that it names

-- the ring of that number, if there is one
abbrev pub ring_for : World → Asker → ℤ → Option ℕ
ring_for w asker r = option_and_then (ring_at w.rings asker.context asker.requestor) (place_named r)

-- the error if there is none: EINVAL for a number that names no place of a ring, EACCES for a live ring that is not one's own,
-- else ENOKEY
abbrev pub no_ring : World → Option Place → Errno
no_ring w None = errno.Einval
no_ring w (Some p) = if is_numbered_live w.rings p then errno.Eacces else errno.Enokey

-- where a ring has to be named: the error if there is none
abbrev pub ring_refusal : World → Asker → ℤ → Option Errno
ring_refusal w asker r = refused_if (is_none (ring_for w asker r)) (no_ring w (place_named r))

-- where 0 stands for no ring: the error if another number names none
abbrev pub ring_or_none_refusal : World → Asker → ℤ → Option Errno
ring_or_none_refusal w asker (pos n) = if n == 0 then None else ring_refusal w asker (pos n)
ring_or_none_refusal w asker (negsuc n) = ring_refusal w asker (negsuc n)

-- ---- the keys that it names

-- the serial that a number names, None for 0 and below
abbrev pub serial_named : ℤ → Option ℕ
serial_named (pos n) = if n == 0 then None else Some n
serial_named (negsuc n) = None

-- the key is linked in a ring of the context
abbrev pub is_reached : World → Context → ℕ → Bool
is_reached w c k = list_any (λ ring. is_linked w.rings ring k) (rings_of c)

-- possession: linked in a ring of the acting context, or its authority is assumed. keyrings(7), "Possession"
abbrev pub is_possessed : World → Asker → ℕ → Bool
is_possessed w asker k = is_reached w asker.context k || has_assumed asker k

-- the key has to be there: EINVAL for an invalid serial, ENOKEY for a key that is not there
abbrev pub known_refusal : World → Option ℕ → Option Errno
known_refusal w None = Some errno.Einval
known_refusal w (Some k) = refused_if (not (map.contains_key w.keys k)) errno.Enokey

-- the key has to be possessed: EACCES. keyrings(7), "Possession"
abbrev pub possession_refusal : World → Asker → Option ℕ → Option Errno
possession_refusal w asker None = None
possession_refusal w asker (Some k) = refused_if (not (is_possessed w asker k)) errno.Eacces

-- a key has to be there, and then to be possessed
abbrev pub key_refusal : World → Asker → Option ℕ → Option Errno
key_refusal w asker k = first_of (known_refusal w k ∷ possession_refusal w asker k ∷ [])

-- only who has assumed its authority may complete a key: keyctl_instantiate(3), EPERM
abbrev pub own_refusal : Asker → Option ℕ → Option Errno
own_refusal asker None = Some errno.Eperm
own_refusal asker (Some k) = refused_if (not (has_assumed asker k)) errno.Eperm
