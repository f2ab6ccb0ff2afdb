-- What is kept of names, by their hashes.
use Rattle.std.specs.Prelude.{◌≡◌, ◌<◌, ℕ, zero, suc, ◌+◌, ◌-◌, ◌*◌, ◌/◌, take, drop, length, min, Bool, true, false, not, filter, slice_index_or, ◌&&◌, List, [], ◌∷◌, bytes_eq, nat_le, if◌then◌else◌, Option, Some, None, option_map, unwrap_or, bit_and}
use Rattle.std.specs.Prelude.{find as list_find}
use Rattle.std.specs.List.{fold}
use Rattle.std.specs.Ordering.{nat_cmp}
use Rattle.std.specs.FinMap as map
use Rattle.std.specs.Hash as fed
use Rattle.std.specs.Hash.FoldHasher as folding
use Rattle.std.specs.declared.hash.FoldHasher.{FoldHasher}
use Rattle.rk_table.specs.Maps.{kept_where}
use Rattle.rk_keys.specs.declared.key.Key.{Key}
use Rattle.rk_keys.specs.declared.named.Named.{Named}
use Rattle.rk_keys.specs.Key.{has_name, is_named}

-- ---- names under their hashes

-- a hasher that was fed so many words of eight bytes
unfoldable pub fed_words : List ℕ → FoldHasher → ℕ → FoldHasher
fed_words bytes h zero = h
fed_words bytes h (suc n) = folding.write (fed_words bytes h n) (take 8 (drop (8 * n) bytes))

-- a hasher that was fed with the bytes, if there are any
abbrev pub fed_with_rest : List ℕ → FoldHasher → FoldHasher
fed_with_rest [] h = h
fed_with_rest (b ∷ bytes) h = folding.write h (b ∷ bytes)

-- a hasher that was fed with the bytes: with their words of eight, and with the rest
abbrev pub fed_with : List ℕ → FoldHasher → FoldHasher
fed_with bytes h = fed_with_rest (drop (8 * (length bytes / 8)) bytes) (fed_words bytes h (length bytes / 8))

-- the low 32 bits of the hash of the seed, the type and the description
unfoldable pub name_hash : ℕ → List ℕ → List ℕ → ℕ
name_hash seed typ description =
    bit_and (folding.finish (fed_with description (fed_with typ (fold folding.write folding.initial (fed.u64 seed))))) 4294967295

-- both names are one
abbrev pub is_same : List ℕ → List ℕ → List ℕ → List ℕ → Bool
is_same typ description t d = bytes_eq typ t && bytes_eq description d

-- what is kept is of this name
abbrev pub is_of : List ℕ → List ℕ → Named → Bool
is_of typ description n = is_same n.typ n.description typ description

-- the names under a hash
abbrev pub names_at : map.FinMap nat_cmp (List Named) → ℕ → List Named
names_at buckets h = unwrap_or (map.get buckets h) []

-- what is kept of a name under its hash
abbrev pub kept_of : ℕ → map.FinMap nat_cmp (List Named) → List ℕ → List ℕ → Option Named
kept_of seed buckets typ description = list_find (is_of typ description) (names_at buckets (name_hash seed typ description))

-- how many keys have a name
abbrev pub count_of : Option Named → ℕ
count_of kept = unwrap_or (option_map (λ n. n.keys) kept) 0

-- the number that they share
abbrev pub number_in : Option Named → Option ℕ
number_in kept = option_map (λ n. n.number) kept

-- ---- changes

-- the first that passes is changed
abbrev pub first_changed : (Named → Bool) → (Named → Named) → List Named → List Named
first_changed p f [] = []
first_changed p f (n ∷ ns) = if p n then f n ∷ ns else n ∷ first_changed p f ns

-- the name at place i passes, and none before it
pub record IsFirst (p : Named → Bool) (names : List Named) (i : ℕ) : Type 0 where
  pub within : i < length names
  pub before : list_find p (take i names) ≡ None
  pub passes : (d : Named) → p (slice_index_or names i d) ≡ true

-- one key more has the name; a count that has no room stays
abbrev pub one_more : Named → Named
one_more n = record n { keys = min (n.keys + 1) 4294967295 }

-- one key fewer has the name
abbrev pub one_fewer : Named → Named
one_fewer n = record n { keys = n.keys - 1 }

-- the names with one key fewer of one of them, which goes if none is left
abbrev pub with_one_fewer : List ℕ → List ℕ → List Named → List Named
with_one_fewer typ description names =
    if nat_le (count_of (list_find (is_of typ description) names)) 1 then filter (λ n. not (is_of typ description n)) names
    else first_changed (is_of typ description) one_fewer names

-- there is no name
abbrev pub is_empty : List Named → Bool
is_empty [] = true
is_empty (n ∷ ns) = false

-- with one more key of the name; the number of a first one is its serial
abbrev pub counted_in : List ℕ → List ℕ → ℕ → Option Named → Named
counted_in typ description serial None = record { typ = typ; description = description; number = serial; keys = 1 }
counted_in typ description serial (Some n) = record n { keys = n.keys + 1 }

-- with one fewer, and nothing if none is left
abbrev pub counted_out : Option Named → Option Named
counted_out None = None
counted_out (Some n) = if nat_le n.keys 1 then None else Some (record n { keys = n.keys - 1 })

-- ---- what always holds

-- how many live keys have the name
abbrev pub keys_named : map.FinMap nat_cmp Key → List ℕ → List ℕ → ℕ
keys_named keys typ description = map.len (kept_where (λ k key. is_named typ description key) keys)

-- of the names of the live keys it is kept how many keys have them and the number that these share, and of no other name anything
pub record IsIndex (seed : ℕ) (keys : map.FinMap nat_cmp Key) (numbers : map.FinMap nat_cmp ℕ) (buckets : map.FinMap nat_cmp (List Named)) : Type 0 where
  pub counted : (typ description : List ℕ) → count_of (kept_of seed buckets typ description) ≡ keys_named keys typ description
  pub living : (typ description : List ℕ) (n : Named) → kept_of seed buckets typ description ≡ Some n → 0 < n.keys
  pub numbered : (typ description : List ℕ) (n : Named) (k : ℕ) → kept_of seed buckets typ description ≡ Some n →
      has_name keys k typ description ≡ true → map.get numbers k ≡ Some n.number
