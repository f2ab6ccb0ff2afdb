-- The asks on keys and rings: READ to CALLOUT. keyctl(2)
use Rattle.std.specs.Prelude.{
  ◌≡◌,
  ℕ,
  ℤ,
  pos,
  negsuc,
  Bool,
  false,
  not,
  ◌||◌,
  ◌==◌,
  List,
  [],
  ◌∷◌,
  ◌++◌,
  codes,
  Option,
  Some,
  None,
  option_map,
  option_and_then,
  unwrap_or,
  if◌then◌else◌,
  MatchOption,
}
use Rattle.std.specs.Option.{option_map_or}
use Rattle.std.specs.Bool.{MatchBool}
use Rattle.std.specs.FinMap as map
use Rattle.std.specs.Fmt.{decimal}
use Rattle.rk_names.specs.declared.numbers.SessionId.{SessionId}
use Rattle.rk_names.specs.declared.context.Setting.{Setting}
use Rattle.rk_names.specs.declared.errors.Errno.{Errno}
use Rattle.rk_names.specs.declared.errors.Errno.TheVariants as errno
use Rattle.rk_names.specs.Numbers.{key_errno}
use Rattle.rk_names.specs.Settings.{setting_number, setting_named}
use Rattle.rk_table.specs.Maps.{changed_at}
use Rattle.rk_table.specs.Says.{Says}
use Rattle.rk_message.specs.declared.reply.Reply.TheVariants.{Number, Bytes}
use Rattle.rk_keys.specs.declared.key.Key.{Key}
use Rattle.rk_keys.specs.declared.key.Condition.{Condition}
use Rattle.rk_keys.specs.declared.key.Condition.TheVariants.{Building, Positive, Negative}
use Rattle.rk_keys.specs.declared.key.Standing.{Standing}
use Rattle.rk_keys.specs.declared.key.Standing.TheVariants as standing
use Rattle.rk_keys.specs.Key.{standing_of, error_of, over_error, key_passes, is_building, is_revoked}
use Rattle.rk_keys.specs.Known.{marked, timed, has_all_keys, new_key}
use Rattle.rk_keys.specs.Serials.{IsFresh, HasSerials}
use Rattle.rk_rings.specs.Ring.{is_linked}
use Rattle.rk_auth.specs.Sessions.{assumed_authority}
use Rattle.rk_auth.specs.Changes.{session_changed, with_setting}
use Rattle.rk_machine.specs.declared.event.Answer.{Answer}
use Rattle.rk_machine.specs.declared.event.Answer.TheVariants.{Done, Refused}
use Rattle.rk_machine.specs.World.{World}
use Rattle.rk_machine.specs.Allowed.{done, first_of, refused_if, Leaves, Tells, Settles, Unless, OrNoMemory}
use Rattle.rk_machine.specs.Asker.{Asker, serial_named, ring_for, ring_refusal, known_refusal, key_refusal}
use Rattle.rk_machine.specs.Links.{linked_in, unlinked_in, cleared_in, is_full_at, full_refusal}
use Rattle.rk_machine.specs.Request.{with_key}

-- the serial of a number that names one
abbrev pub serial_in : ℤ → ℕ
serial_in key = unwrap_or (serial_named key) 0

-- ---- what is returned about a key

-- the error of the key where it stands Revoked, Expired or Negative
abbrev pub use_refusal : World → ℕ → ℕ → Option Errno
use_refusal w k now = option_and_then (λ key. option_map key_errno (error_of (standing_of key now))) (map.get w.keys k)

-- the payload of a Positive condition, and no byte for any other
abbrev pub payload_by : Condition → List ℕ
payload_by (Positive payload) = payload
payload_by Building = []
payload_by (Negative e) = []

-- how a key stands, as DESCRIBE tells it
abbrev pub state_word : Standing → List ℕ
state_word standing.Revoked = codes "revoked"
state_word standing.Expired = codes "expired"
state_word standing.Building = codes "building"
state_word standing.Positive = codes "valid"
state_word (standing.Negative e) = codes "negative"

-- what DESCRIBE tells: type;uid;state;description. keyctl_describe(3) tells gid and permissions in place of the state
abbrev pub description_of : ℕ → Key → List ℕ
description_of now key =
    key.typ ++ (codes ";" ++ (decimal key.owner ++ (codes ";" ++ (state_word (standing_of key now) ++ (codes ";" ++ key.description)))))

-- bytes that tell of the key
abbrev pub TellsOf : (Key → List ℕ) → World → ℕ → Answer → World → Type 0
TellsOf bytes old k answer new =
    OrNoMemory old answer new (Tells (Done (Bytes (option_map_or bytes (map.get old.keys k) []))) old answer new)

-- ---- CALLOUT, READ, DESCRIBE: keyctl_read(3), keyctl_describe(3)

-- the callout of the authority that is assumed
abbrev pub TellsCallout : World → SessionId → Answer → World → Type 0
TellsCallout old s answer new =
    MatchOption (assumed_authority old.sessions s)
    (Tells (Refused errno.Enokey) old answer new)
    (λ a. OrNoMemory old answer new (Tells (Done (Bytes a.callout)) old answer new))

-- READ: a key that isn't there or isn't possessed, the error of one that stands Revoked, Expired or Negative, EBUSY for one under construction
abbrev pub read_refusal : World → Asker → ℕ → ℤ → Option Errno
read_refusal w asker now key =
    first_of (key_refusal w asker (serial_named key) ∷ use_refusal w (serial_in key) now
    ∷ refused_if (key_passes w.keys (serial_in key) is_building) errno.Ebusy ∷ [])

-- the number is -7, which stands for the assumed authority: KEY_SPEC_REQKEY_AUTH_KEY of keyctl_read(3)
abbrev pub is_authority : ℤ → Bool
is_authority (pos n) = false
is_authority (negsuc n) = n == 6

-- READ of a number that names a key: its payload
abbrev pub ReadsKey : World → ℕ → Asker → ℤ → Answer → World → Type 0
ReadsKey old now asker key answer new =
    Unless (read_refusal old asker now key) old answer new (TellsOf (λ one. payload_by one.condition) old (serial_in key) answer new)

-- READ: of -7 the callout of the assumed authority, of any other number the payload of the key
abbrev pub Reads : World → ℕ → SessionId → Asker → ℤ → Answer → World → Type 0
Reads old now s asker key answer new = MatchBool (is_authority key) (TellsCallout old s answer new) (ReadsKey old now asker key answer new)

-- DESCRIBE of a key that is there and possessed, however it stands
abbrev pub Describes : World → ℕ → Asker → ℤ → Answer → World → Type 0
Describes old now asker key answer new =
    Unless (key_refusal old asker (serial_named key)) old answer new (TellsOf (description_of now) old (serial_in key) answer new)

-- ---- REVOKE, TIMEOUT: keyctl_revoke(3), keyctl_set_timeout(3)

-- the key k is changed by f, and nothing else
abbrev pub with_key_changed : ℕ → (Key → Key) → World → World
with_key_changed k f w = record w { keys = changed_at k f w.keys }

-- REVOKE: a key that isn't there or isn't possessed, or EKEYREVOKED for one that is revoked already
abbrev pub revoke_refusal : World → Asker → ℤ → Option Errno
revoke_refusal w asker key =
    first_of (key_refusal w asker (serial_named key) ∷ refused_if (key_passes w.keys (serial_in key) is_revoked) errno.Ekeyrevoked ∷ [])

-- REVOKE marks the key
abbrev pub Revokes : World → Asker → ℤ → Answer → World → Type 0
Revokes old asker key answer new =
    Unless (revoke_refusal old asker key) old answer new
    (Leaves done (with_key_changed (serial_in key) marked old) answer new)

-- the error of a key that stands Revoked or Expired
abbrev pub over_refusal : World → ℕ → ℕ → Option Errno
over_refusal w k now = option_and_then (λ key. option_map key_errno (over_error (standing_of key now))) (map.get w.keys k)

-- TIMEOUT: a key that isn't there or isn't possessed, or the error of one that stands Revoked or Expired
abbrev pub timeout_refusal : World → ℕ → Asker → ℤ → Option Errno
timeout_refusal w now asker key = first_of (key_refusal w asker (serial_named key) ∷ over_refusal w (serial_in key) now ∷ [])

-- TIMEOUT: the key expires so many seconds from now; 0 takes its expiry away
abbrev pub TimesOut : World → ℕ → Asker → ℤ → ℕ → Answer → World → Type 0
TimesOut old now asker key seconds answer new =
    Unless (timeout_refusal old now asker key) old answer new
    (Leaves done (with_key_changed (serial_in key) (timed now seconds) old) answer new)

-- ---- LINK, UNLINK, CLEAR: keyctl_link(3), keyctl_unlink(3), keyctl_clear(3)

-- LINK: the key, then the ring, then the error of a key that stands Revoked, Expired or Negative, then EDQUOT for a ring that is full for it
abbrev pub link_refusal : World → ℕ → Asker → ℤ → ℤ → Option Errno
link_refusal w now asker key r =
    first_of (key_refusal w asker (serial_named key) ∷ ring_refusal w asker r ∷ use_refusal w (serial_in key) now
    ∷ full_refusal w (ring_for w asker r) (serial_in key) ∷ [])

-- LINK: the key is linked in the ring
abbrev pub LinksIn : World → ℕ → Asker → ℤ → ℤ → Answer → World → Type 0
LinksIn old now asker key r answer new =
    Unless (link_refusal old now asker key r) old answer new (Settles done (linked_in (ring_for old asker r) (serial_in key) old) answer new)

-- UNLINK: a key that isn't there, then the ring, then ENOENT for a key that isn't linked in it. The key need not be possessed
abbrev pub unlink_refusal : World → Asker → ℤ → ℤ → Option Errno
unlink_refusal w asker key r =
    first_of (known_refusal w (serial_named key) ∷ ring_refusal w asker r
    ∷ refused_if (not (option_map_or (λ ring. is_linked w.rings ring (serial_in key)) (ring_for w asker r) false)) errno.Enoent ∷ [])

-- UNLINK: the key is not linked in the ring any more
abbrev pub Unlinks : World → Asker → ℤ → ℤ → Answer → World → Type 0
Unlinks old asker key r answer new =
    Unless (unlink_refusal old asker key r) old answer new
    (Settles done (unlinked_in (ring_for old asker r) (serial_in key) old) answer new)

-- CLEAR: no key is linked in the ring any more
abbrev pub Clears : World → Asker → ℤ → Answer → World → Type 0
Clears old asker r answer new =
    Unless (ring_refusal old asker r) old answer new
    (Settles done (cleared_in (ring_for old asker r) old) answer new)

-- ---- DEFAULT: keyctl_set_reqkey_keyring(3)

-- the setting that DEFAULT asks for: -1 keeps the one before, and any number but that of a setting is invalid
abbrev pub setting_asked : ℤ → Setting → Option Setting
setting_asked (pos n) before = setting_named n
setting_asked (negsuc n) before = if n == 0 then Some before else None

-- DEFAULT: the session has the setting, and is answered the one before
abbrev pub Defaults : World → SessionId → Asker → ℤ → Answer → World → Type 0
Defaults old s asker number answer new =
    MatchOption (setting_asked number asker.setting)
    (Tells (Refused errno.Einval) old answer new)
    (λ setting. Leaves (Done (Number (setting_number asker.setting)))
    (record old { sessions = session_changed s (with_setting setting) old.sessions }) answer new)

-- ---- ADD: add_key(2)

-- ADD: the ring, then EDQUOT if the uid has its 200 keys, no serial is left (`left` says whether one is), or the ring is full
abbrev pub add_refusal : World → Asker → List ℕ → List ℕ → ℤ → Bool → Option Errno
add_refusal w asker typ description r left =
    first_of (ring_refusal w asker r
    ∷ refused_if (has_all_keys w.keys asker.context.uid || not left
    || option_map_or (λ ring. is_full_at w ring typ description) (ring_for w asker r) false) errno.Edquot ∷ [])

-- a new key with this payload, under any unused serial, always another one than those that are there
abbrev pub AddsTo : World → Asker → List ℕ → List ℕ → List ℕ → ℕ → Answer → World → Type 0
AddsTo old asker typ description payload ring answer new =
    (k : ℕ) × IsFresh old.serials k
    × Settles (Done (Number k)) (with_key k (new_key typ description asker.context.uid (Some payload)) ring old) answer new

-- ADD is refused, finds no memory, or makes a key in the ring
unfoldable pub Adds : World → Asker → List ℕ → List ℕ → List ℕ → ℤ → Answer → World → Type 0
Adds old asker typ description payload r answer new =
    (left : Bool) × Says left (HasSerials old.serials 1)
    × Unless (add_refusal old asker typ description r left) old answer new
    (OrNoMemory old answer new ((ring : ℕ) × (ring_for old asker r ≡ Some ring) × AddsTo old asker typ description payload ring answer new))
