-- The numbers of a request.
use Rattle.std.specs.Prelude.{ℕ, List, Option, Some, None, codes}
use Rattle.std.specs.Option.{option_and_then}
use Rattle.rk_names.specs.Numbers.{serial_of}
use Rattle.rk_options.specs.Options.{Given}
use Rattle.rk_options.specs.Values.{number_in, number_up_to}
use Rattle.rk_preview.specs.declared.numbers.Numbers.{Numbers}

-- the key that options give, 1 if they give none
abbrev pub key_in : Option (List Given) → Option ℕ
key_in options = option_and_then serial_of (number_in (codes "--key") 1 (number_up_to 4294967295) options)

-- the user or the group that options give a name, 0 if they give none
abbrev pub id_in : List ℕ → Option (List Given) → Option ℕ
id_in name options = number_in name 0 (number_up_to 4294967295) options

-- the ring that options give a name, 0 if they give none
abbrev pub ring_in : List ℕ → Option (List Given) → Option ℕ
ring_in name options = number_in name 0 (number_up_to 2147483647) options

-- all six
abbrev pub together : Option ℕ → Option ℕ → Option ℕ → Option ℕ → Option ℕ → Option ℕ → Option Numbers
together (Some key) (Some uid) (Some gid) (Some thread) (Some process) (Some session) =
    Some (record { key = key; uid = uid; gid = gid; thread = thread; process = process; session = session })
together _ _ _ _ _ _ = None

-- the numbers that options give
abbrev pub numbers_in : Option (List Given) → Option Numbers
numbers_in options = together (key_in options) (id_in (codes "--uid") options) (id_in (codes "--gid") options)
    (ring_in (codes "--thread") options) (ring_in (codes "--process") options) (ring_in (codes "--session") options)
