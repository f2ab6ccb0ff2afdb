-- What words ask of a configuration.
use Rattle.std.specs.Prelude.{ℕ, ◌-◌, List, [], ◌∷◌, length, take, drop, codes, Option, Some, None, option_map, if◌then◌else◌}
use Rattle.std.specs.Str.{bytes_eq}
use Rattle.rk_macro.specs.declared.subject.Op.{Op}
use Rattle.rk_macro.specs.declared.subject.Op.TheVariants.{Create, Negate}
use Rattle.rk_macro.specs.declared.subject.Subject.{Subject}
use Rattle.rk_options.specs.Options.{Given, all_named, is_among, options_of, value_in}
use Rattle.rk_options.specs.Values.{path_in}
use Rattle.rk_preview.specs.declared.numbers.Numbers.{Numbers}
use Rattle.rk_preview.specs.Named.{Named, names_said}
use Rattle.rk_preview.specs.Numbers.{numbers_in}

-- of the configuration at a path: whether it has a fault, or what it starts for a subject
pub data Asked : Type 0 where
  check : List ℕ → Asked
  pick : List ℕ → Subject → Asked

-- the path of the configuration
abbrev pub path_of : Asked → List ℕ
path_of (check path) = path
path_of (pick path subject) = path

-- the one option of `check`
abbrev pub check_names : List (List ℕ)
check_names = codes "--conf" ∷ []

-- the options of `pick`, with their dashes
abbrev pub pick_names : List (List ℕ)
pick_names =
    codes "--conf" ∷ codes "--negate" ∷ codes "--uid" ∷ codes "--gid" ∷ codes "--key" ∷ codes "--thread" ∷ codes "--process" ∷ codes "--session" ∷ []

-- those of them that have no value
abbrev pub pick_flags : List (List ℕ)
pick_flags = codes "--negate" ∷ []

-- `check`: options that are a path and nothing else
abbrev pub checked_in : Option (List Given) → Option Asked
checked_in options = if all_named (is_among check_names) options then option_map check (path_in (codes "--conf") options) else None

-- a flag that is not there, or is there, without a value
abbrev pub op_flagged : Option (Option (List ℕ)) → Option Op
op_flagged (Some None) = Some Create
op_flagged (Some (Some [])) = Some Negate
op_flagged _ = None

-- negate if the flag is there, else create
abbrev pub op_in : Option (List Given) → Option Op
op_in options = op_flagged (value_in (codes "--negate") options)

-- a path and a subject, of parts that are all there
abbrev pub picked_of : Option (List ℕ) → Option Op → Option Named → Option Numbers → Option Asked
picked_of (Some path) (Some op) (Some names) (Some n) = Some (pick path (record {
  key = n.key;
  op = op;
  typ = names.typ;
  desc = names.desc;
  callout = names.callout;
  uid = n.uid;
  gid = n.gid;
  thread = n.thread;
  process = n.process;
  session = n.session;
}))
picked_of _ _ _ _ = None

-- `pick`: options, and words that are the names
abbrev pub picked_in : Option (List Given) → List (List ℕ) → Option Asked
picked_in options last = if all_named (is_among pick_names) options
    then picked_of (path_in (codes "--conf") options) (op_in options) (names_said last) (numbers_in options) else None

-- the last three words of `pick` are the names, and those before them options
abbrev pub pick_said : List (List ℕ) → Option Asked
pick_said words = picked_in (options_of pick_flags (take (length words - 3) words)) (drop (length words - 3) words)

-- what words ask for, the first of which is `check` or `pick`
abbrev pub asked_said : List (List ℕ) → Option Asked
asked_said [] = None
asked_said (word ∷ words) = if bytes_eq word (codes "check") then checked_in (options_of [] words)
    else (if bytes_eq word (codes "pick") then pick_said words else None)
