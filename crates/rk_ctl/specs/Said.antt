-- What the words of a call say: its options, its op, and the arguments after it.
use Rattle.std.specs.Prelude.{ℕ, ◌-◌, Bool, is_some, ◌&&◌, ◌||◌, List, [], ◌∷◌, length, take, map, string_bytes, codes, Option, Some, None, option_map, if◌then◌else◌}
use Rattle.std.specs.Str.{bytes_eq}
use Rattle.rk_options.specs.Options.{Given, all_named, is_among, is_joined, joined, options_of, value_in}
use Rattle.rk_options.specs.Values.{number_in, number_up_to}
use Rattle.rk_message.specs.declared.shape.Op.{Op}
use Rattle.rk_client.specs.Words.{op_said}
use Rattle.rk_ctl.specs.Searches.{search_named}
use Rattle.rk_ctl.specs.declared.call.Call.{Call}
use Rattle.rk_ctl.specs.declared.call.Options.{Options}

-- what stands before the op; 0 for a number that is not given
pub record OptionsSaid : Type 0 where
  pub socket : Option (List ℕ)
  pub timeout : ℕ
  pub uid : ℕ
  pub gid : ℕ
  pub join : ℕ
  pub raw : Bool
  pub quiet : Bool
  pub payload_from : Option (List ℕ)
  pub callout_from : Option (List ℕ)

-- a call: the options, the op, and all words after it
pub record CallSaid : Type 0 where
  pub options : OptionsSaid
  pub op : Op
  pub arguments : List (List ℕ)

-- the same, of what was read
abbrev pub options_by : Options → OptionsSaid
options_by o = record {
  socket = option_map (λ s. s.now) o.socket;
  timeout = o.timeout;
  uid = o.uid;
  gid = o.gid;
  join = o.join;
  raw = o.raw;
  quiet = o.quiet;
  payload_from = option_map (λ s. s.now) o.payload_from;
  callout_from = option_map (λ s. s.now) o.callout_from;
}

-- the same, of a call that was read
abbrev pub call_by : Call → CallSaid
call_by c = record { options = options_by c.options; op = c.op; arguments = map string_bytes c.arguments.now }

-- the options that have no value
abbrev pub flags : List (List ℕ)
flags = codes "--raw" ∷ codes "--quiet" ∷ []

-- all options
abbrev pub is_option : List ℕ → Bool
is_option name = is_among (
    codes "--socket" ∷ codes "--timeout" ∷ codes "--uid" ∷ codes "--gid" ∷ codes "--join" ∷ codes "--raw" ∷ codes "--quiet" ∷ codes "--payload-from"
    ∷ codes "--callout-from" ∷ []
    ) name

-- an option that has no value
abbrev pub is_flag : List ℕ → Bool
is_flag name = bytes_eq name (codes "--raw") || bytes_eq name (codes "--quiet")

-- a flag that is given a value, even an empty one
abbrev pub is_flag_with_value : List ℕ → Bool
is_flag_with_value word = is_joined word && is_flag (joined word).name

-- a word that takes no next word: an option in one word, or a command that looks for keys
abbrev pub is_alone : List ℕ → Bool
is_alone word = is_joined word || is_flag word || is_some (search_named word)

-- the op of a first word, with the words after it; where it is none, the op of other words
abbrev pub or_op : Option Op → List (List ℕ) → Option (Op × List (List ℕ)) → Option (Op × List (List ℕ))
or_op (Some o) words later = Some (o, words)
or_op None words later = later

-- the first op after options, each in one word or in two, and the words after it; none after a flag that is given a value
unfoldable pub op_and_more : List (List ℕ) → Option (Op × List (List ℕ))
op_and_more [] = None
op_and_more (word ∷ []) = or_op (op_said word) [] None
op_and_more (word ∷ next ∷ words) = or_op (op_said word) (next ∷ words)
    (if is_flag_with_value word then None else (if is_alone word then op_and_more (next ∷ words) else op_and_more words))

-- all of them
abbrev pub together : Option (Option (List ℕ)) → Option ℕ → Option ℕ → Option ℕ → Option ℕ → Option (Option (List ℕ)) → Option (Option (List ℕ))
    → Option (Option (List ℕ)) → Option (Option (List ℕ)) → Option OptionsSaid
together (Some socket) (Some timeout) (Some uid) (Some gid) (Some join) (Some raw) (Some quiet) (Some payload_from) (Some callout_from) = Some (record {
  socket = socket;
  timeout = timeout;
  uid = uid;
  gid = gid;
  join = join;
  raw = is_some raw;
  quiet = is_some quiet;
  payload_from = payload_from;
  callout_from = callout_from;
})
together _ _ _ _ _ _ _ _ _ = None

-- each known, there once at most, and with a value that is allowed
abbrev pub options_in : Option (List Given) → Option OptionsSaid
options_in options = if all_named is_option options then together
    (value_in (codes "--socket") options)
    (number_in (codes "--timeout") 0 (number_up_to 4294967295) options)
    (number_in (codes "--uid") 0 (number_up_to 4294967295) options)
    (number_in (codes "--gid") 0 (number_up_to 4294967295) options)
    (number_in (codes "--join") 0 (number_up_to 2147483647) options)
    (value_in (codes "--raw") options)
    (value_in (codes "--quiet") options)
    (value_in (codes "--payload-from") options)
    (value_in (codes "--callout-from") options)
    else None

-- what the words before an op say
abbrev pub options_said : List (List ℕ) → Option OptionsSaid
options_said words = options_in (options_of flags words)

-- the words before an op, after which these are left
abbrev pub in_front : List (List ℕ) → List (List ℕ) → List (List ℕ)
in_front words arguments = take (length words - length arguments - 1) words

-- a call of an op with its arguments, after the words in front
abbrev pub called : List (List ℕ) → Option (Op × List (List ℕ)) → Option CallSaid
called words None = None
called words (Some (o, arguments)) = option_map (λ options. record { options = options; op = o; arguments = arguments })
    (options_said (in_front words arguments))

-- the call that the words say, of which the first is the name of the program
abbrev pub call_said : List (List ℕ) → Option CallSaid
call_said [] = None
call_said (program ∷ words) = called words (op_and_more words)
