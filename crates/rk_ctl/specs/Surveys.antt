-- What the words of `list` and `sweep` say.
use Rattle.std.specs.Prelude.{ℕ, ◌-◌, ◌==◌, Bool, false, not, is_none, ◌&&◌, List, [], ◌∷◌, length, take, drop, Option, Some, None, if◌then◌else◌}
use Rattle.rk_message.specs.Ask.{Ask}
use Rattle.rk_message.specs.declared.ask.AskOf.TheVariants as ask
use Rattle.rk_ctl.specs.declared.around.Around.{Around}
use Rattle.rk_ctl.specs.declared.search.Search.{Search}
use Rattle.rk_ctl.specs.declared.survey.Survey.{Survey}
use Rattle.rk_ctl.specs.Addresses.{AddressSaid, address_by}
use Rattle.rk_ctl.specs.Around.{or_else, socket_around}
use Rattle.rk_ctl.specs.Said.{OptionsSaid, options_said}
use Rattle.rk_ctl.specs.Searches.{search_named}

-- where the daemon is, who acts, and what the keys are looked for, for
pub record SurveySaid : Type 0 where
  pub address : AddressSaid
  pub uid : ℕ
  pub gid : ℕ
  pub search : Search

-- the same, of what was read
abbrev pub survey_by : Survey → SurveySaid
survey_by s = record { address = address_by s.address; uid = s.uid; gid = s.gid; search = s.search }

-- the search that the only word names
abbrev pub search_alone : List (List ℕ) → Option Search
search_alone [] = None
search_alone (word ∷ []) = search_named word
search_alone (word ∷ next ∷ words) = None

-- no option but the socket, the time, the uid and the gid
abbrev pub is_bare : OptionsSaid → Bool
is_bare o = (o.join == 0) && not o.raw && not o.quiet && is_none o.payload_from && is_none o.callout_from

-- with a socket
abbrev pub at_path : Search → OptionsSaid → Option (List ℕ) → Option SurveySaid
at_path search o None = None
at_path search o (Some path) = Some (record { address = record { path = path; seconds = o.timeout }; uid = o.uid; gid = o.gid; search = search })

-- by the command and the options
abbrev pub survey_in : Around → Option Search → Option OptionsSaid → Option SurveySaid
survey_in around None o = None
survey_in around (Some search) None = None
survey_in around (Some search) (Some o) = if is_bare o then at_path search o (or_else o.socket (socket_around around)) else None

-- what the words say, of which the first is the name of the program, and the last the command
abbrev pub survey_said : Around → List (List ℕ) → Option SurveySaid
survey_said around [] = None
survey_said around (program ∷ words) = survey_in around (search_alone (drop (length words - 1) words)) (options_said (take (length words - 1) words))

-- the HELLO that is said
abbrev pub greeting_for : SurveySaid → Ask
greeting_for s = ask.Hello (record { uid = s.uid; gid = s.gid; thread = false; process = false; join = None })
