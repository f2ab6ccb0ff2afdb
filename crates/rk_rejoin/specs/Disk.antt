-- What is read of files.
use Rattle.std.specs.Prelude.{◌≡◌, ℕ, List, [], ◌∷◌, ◌++◌, Option, option_map, Result, Ok, Err}
use Rattle.std.specs.Global.{Vec}
use Rattle.rk_rejoin.specs.declared.disk.ReadFault.{ReadFault}

-- one file that was asked for: its path, and its bytes, or why there are none
pub record Reading : Type 0 where
  pub path : List ℕ
  pub outcome : Result (List ℕ) ReadFault

-- this was read, too
abbrev pub and_then : Option (List Reading) → List Reading → Option (List Reading)
and_then story more = option_map (λ s. s ++ more) story

-- such readings were made, and no others: what was read before, and after
abbrev pub Reads : (List Reading → Type 0) → Option (List Reading) → Option (List Reading) → Type 0
Reads P before after = (readings : List Reading) × (after ≡ and_then before readings) × P readings

-- the file at the path was read, and no other, and the reading is such a one: what was read before, and after
abbrev pub ReadsOne : List ℕ → (Reading → Type 0) → Option (List Reading) → Option (List Reading) → Type 0
ReadsOne path P before after = (reading : Reading) × (reading.path ≡ path) × (after ≡ and_then before (reading ∷ [])) × P reading

-- the bytes that were handed over, as a list
abbrev pub bytes_of : Result (Vec ℕ) ReadFault → Result (List ℕ) ReadFault
bytes_of (Ok bytes) = Ok bytes.items
bytes_of (Err fault) = Err fault
