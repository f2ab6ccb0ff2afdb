-- What the words of `run` say.
use Rattle.std.specs.Prelude.{ℕ, Bool, is_some, ◌&&◌, ◌||◌, List, [], ◌∷◌, Option, Some, None, option_map, map, string_bytes, codes, if◌then◌else◌}
use Rattle.std.specs.List.{before_first, after_first, list_any}
use Rattle.std.specs.Option.{option_and_then}
use Rattle.std.specs.Str.{bytes_eq}
use Rattle.rk_text.specs.Numbers.{number_of, up_to}
use Rattle.rk_variables.specs.Library.{is_library}
use Rattle.rk_options.specs.Options.{Given, all_named, is_among, is_joined, joined, options_of, value_in}
use Rattle.rk_run.specs.declared.wanted.Wanted.{Wanted}

-- the socket, who acts, and the library, each if it is given; whether reqkey-trap starts the program; the program and its words
pub record Said : Type 0 where
  pub socket : Option (List ℕ)
  pub uid : Option ℕ
  pub gid : Option ℕ
  pub library : Option (List ℕ)
  pub trap : Bool
  pub program : List ℕ
  pub words : List (List ℕ)

-- the same, of what was read
abbrev pub said_by : Wanted → Said
said_by w = record {
  socket = option_map (λ s. s.now) w.socket;
  uid = w.uid;
  gid = w.gid;
  library = option_map (λ s. s.now) w.library;
  trap = w.trap;
  program = w.program.now;
  words = map string_bytes w.words.now;
}

-- the options that there are
abbrev pub is_option : List ℕ → Bool
is_option name = is_among (codes "--socket" ∷ codes "--uid" ∷ codes "--gid" ∷ codes "--library" ∷ codes "--trap" ∷ []) name

-- `--trap` is given a value, even an empty one
abbrev pub is_trap_with_value : List ℕ → Bool
is_trap_with_value word = is_joined word && bytes_eq (joined word).name (codes "--trap")

-- the names of the options that have no value
abbrev pub flags : List (List ℕ)
flags = codes "--trap" ∷ []

-- reqkey-trap answers each process for its own user, and preloads nothing
abbrev pub is_contrary : Said → Bool
is_contrary said = said.trap && (is_some said.uid || is_some said.gid || is_some said.library)

-- what is said, unless it contradicts itself
abbrev pub unless_contrary : Said → Option Said
unless_contrary said = if is_contrary said then None else Some said

-- what stands between the options and the program
abbrev pub is_dashes : List ℕ → Bool
is_dashes word = bytes_eq word (codes "--")

-- what a value says, if there is one
abbrev pub or_nothing : {X : Type 0} → (List ℕ → Option X) → Option (List ℕ) → Option (Option X)
or_nothing said None = Some None
or_nothing said (Some value) = option_map Some (said value)

-- what options give a name, if they give it anything
abbrev pub given : {X : Type 0} → (List ℕ → Option X) → List ℕ → Option (List Given) → Option (Option X)
given said name options = option_and_then (or_nothing said) (value_in name options)

-- a uid or a gid
abbrev pub id_said : List ℕ → Option ℕ
id_said bytes = up_to 4294967295 (number_of bytes)

-- a path that can be preloaded
abbrev pub library_said : List ℕ → Option (List ℕ)
library_said path = if is_library path then Some path else None

-- all of them
abbrev pub together : Option (Option (List ℕ)) → Option (Option ℕ) → Option (Option ℕ) → Option (Option (List ℕ)) → Option (Option (List ℕ))
    → List ℕ → List (List ℕ) → Option Said
together (Some socket) (Some uid) (Some gid) (Some library) (Some trap) program words = unless_contrary (record {
  socket = socket;
  uid = uid;
  gid = gid;
  library = library;
  trap = is_some trap;
  program = program;
  words = words;
})
together _ _ _ _ _ program words = None

-- options, each known and there once at most, and a program with its words
abbrev pub wanted_by : Option (List Given) → List (List ℕ) → Option Said
wanted_by options [] = None
wanted_by options (program ∷ words) = if all_named is_option options then together
    (value_in (codes "--socket") options)
    (given id_said (codes "--uid") options)
    (given id_said (codes "--gid") options)
    (given library_said (codes "--library") options)
    (value_in (codes "--trap") options)
    program words
    else None

-- options up to the first `--`, and the program after it
abbrev pub behind_run : List (List ℕ) → Option Said
behind_run words = if list_any is_trap_with_value (before_first is_dashes words) then None
    else wanted_by (options_of flags (before_first is_dashes words)) (after_first is_dashes words)

-- the name of the program that is called, `run`, and what follows it
abbrev pub wanted_said : List (List ℕ) → Option Said
wanted_said [] = None
wanted_said (name ∷ []) = None
wanted_said (name ∷ word ∷ words) = if bytes_eq word (codes "run") then behind_run words else None
