-- What is known of all keys, and how it changes.
use Rattle.std.specs.Prelude.{◌≡◌, ◌⊎◌, ℕ, Bool, true, false, nat_le, ◌==◌, List, Option, Some, None, refl, if◌then◌else◌}
use Rattle.std.specs.Coded.{Coded, code_by, coded×, coded_ℕ}
use Rattle.std.specs.Ordering.{nat_cmp}
use Rattle.std.specs.FinMap as map
use Rattle.std.specs.FinSet as set
use Rattle.rk_names.specs.Numbers.{moment_plus}
use Rattle.rk_table.specs.Maps.{changed_at, kept_where}
use Rattle.rk_keys.specs.declared.key.Key.{Key}
use Rattle.rk_keys.specs.declared.key.Condition.{Condition}
use Rattle.rk_keys.specs.declared.key.Condition.TheVariants.{Building, Positive}
use Rattle.rk_keys.specs.contracts.key.Key as key
use Rattle.rk_keys.specs.Key.{have_one_name}
use Rattle.rk_keys.specs.Serials.{Drawn, drawn_code, HasSerials, with_drawn}

-- the keys by their serials, the number of each key's name, and the serials of keys and rings
pub record Known : Type 0 where
  pub keys : map.FinMap nat_cmp Key
  pub numbers : map.FinMap nat_cmp ℕ
  pub serials : Drawn

-- its three parts in a row, the form in which a model of a struct sees them
abbrev pub known_code : Coded Known
known_code =
    code_by (map.FinMap nat_cmp Key × (map.FinMap nat_cmp ℕ × Drawn))
    (coded× (map.code coded_ℕ key.the_row.coded) (coded× (map.code coded_ℕ coded_ℕ) drawn_code))
    (λ n. (n.keys, (n.numbers, n.serials))) (λ p. record { keys = p.0; numbers = p.1.0; serials = p.1.1 }) (λ _. refl)

-- each key has a number, and keys share one exactly if their type and description are equal
pub record IsNaming (keys : map.FinMap nat_cmp Key) (numbers : map.FinMap nat_cmp ℕ) : Type 0 where
  pub each : (k : ℕ) → map.contains_key numbers k ≡ map.contains_key keys k
  pub shared : (j k : ℕ) (a b : Key) (m n : ℕ) → map.get keys j ≡ Some a → map.get keys k ≡ Some b
      → map.get numbers j ≡ Some m → map.get numbers k ≡ Some n → (m == n) ≡ have_one_name a b

-- ---- a new key

-- how many keys of this uid there are: keyrings(7), /proc/sys/kernel/keys/maxkeys
abbrev pub keys_of : map.FinMap nat_cmp Key → ℕ → ℕ
keys_of keys uid = map.len (kept_where (λ k key. key.owner == uid) keys)

-- the uid has its 200 keys
abbrev pub has_all_keys : map.FinMap nat_cmp Key → ℕ → Bool
has_all_keys keys uid = nat_le 200 (keys_of keys uid)

-- the uid has its 200 keys, or no serial is left
abbrev pub IsRefused : Known → ℕ → Type 0
IsRefused known uid = (has_all_keys known.keys uid ≡ true) ⊎ ¬ (HasSerials known.serials 1)

-- of a new key: Positive with a payload, Building without
abbrev pub new_condition : Option (List ℕ) → Condition
new_condition None = Building
new_condition (Some payload) = Positive payload

-- a key of this uid, under construction where it has no payload yet, and without expiry
abbrev pub new_key : List ℕ → List ℕ → ℕ → Option (List ℕ) → Key
new_key typ description uid payload =
    record { typ = typ; description = description; owner = uid; condition = new_condition payload; revoked = false; expiry = None }

-- k is drawn and is this key, under some number
pub record Makes (old : Known) (k : ℕ) (key : Key) (new : Known) : Type 0 where
  pub keys : new.keys ≡ map.insert old.keys k key
  pub number : ℕ
  pub numbers : new.numbers ≡ map.insert old.numbers k number
  pub serials : new.serials ≡ with_drawn k old.serials

-- ---- changes of a key

-- the key with its condition, and an expiry if one is given: keyctl_instantiate(3), keyctl_reject(3)
abbrev pub concluded : Condition → Option ℕ → Key → Key
concluded condition None key = record key { condition = condition }
concluded condition (Some end) key = record key { condition = condition; expiry = Some end }

-- marked as revoked: keyctl_revoke(3)
abbrev pub marked : Key → Key
marked key = record key { revoked = true }

-- expired so many seconds on, or never for 0: keyctl_set_timeout(3)
abbrev pub timed : ℕ → ℕ → Key → Key
timed now seconds key = record key { expiry = if seconds == 0 then None else Some (moment_plus now seconds) }

-- the key k is changed by f, and nothing else
abbrev pub with_key_changed : ℕ → (Key → Key) → Known → Known
with_key_changed k f known = record known { keys = changed_at k f known.keys }

-- nothing is known of the key any more; its serial stays drawn
abbrev pub without_key : ℕ → Known → Known
without_key k known = record known { keys = map.remove known.keys k; numbers = map.remove known.numbers k }

-- ---- what always holds

-- each key is named, and what bears a serial, or is a number, was drawn
pub record IsHeld (known : Known) : Type 0 where
  pub naming : IsNaming known.keys known.numbers
  pub drawn : (k : ℕ) → set.contains known.serials.used k ≡ false → map.get known.keys k ≡ None
  pub numbered : (k n : ℕ) → map.get known.numbers k ≡ Some n → set.contains known.serials.used n ≡ true
