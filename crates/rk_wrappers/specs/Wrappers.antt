-- Which program timeout(1) and env(1) start.
use Rattle.std.specs.Prelude.{ℕ, Bool, false, ◌&&◌, ◌||◌, List, [], ◌∷◌, ◌==◌, codes, Option, Some, None, if◌then◌else◌}
use Rattle.std.specs.Str.{bytes_eq}
use Rattle.std.specs.List.{list_any}
use Rattle.rk_wrappers.specs.declared.wrapper.Wrapper.{Wrapper}
use Rattle.rk_wrappers.specs.declared.wrapper.Wrapper.TheVariants as wrapper
use Rattle.rk_wrappers.specs.declared.wrapper.Step.{Step}
use Rattle.rk_wrappers.specs.declared.wrapper.Step.TheVariants as next

-- the word is one of these
abbrev pub is_one : List (List ℕ) → List ℕ → Bool
is_one names word = list_any (bytes_eq word) names

-- it begins with a dash
abbrev pub is_option : List ℕ → Bool
is_option [] = false
is_option (b ∷ bs) = b == 45

-- it begins with a slash
abbrev pub is_absolute : List ℕ → Bool
is_absolute [] = false
is_absolute (b ∷ bs) = b == 47

-- `-S` and `--split-string` of env(1), with or without a value in the same word, and shortened
abbrev pub is_split : List ℕ → Bool
is_split (a ∷ []) = false
is_split (a ∷ b ∷ []) = (a == 45) && (b == 83)
is_split (a ∷ b ∷ c ∷ more) = ((a == 45) && (b == 83)) || ((a == 45) && (b == 45) && (c == 115))
is_split [] = false

-- a variable and its value
abbrev pub is_setting : List ℕ → Bool
is_setting word = list_any (λ b. b == 61) word

-- what the first word of the program at a path is
abbrev pub wrapper_at : List ℕ → Option Wrapper
wrapper_at path = if is_one (codes "/usr/bin/timeout" ∷ codes "/bin/timeout" ∷ []) path then Some wrapper.Timeout
    else (if is_one (codes "/usr/bin/env" ∷ codes "/bin/env" ∷ []) path then Some wrapper.Env else None)

-- a program that starts another is read on; one without an absolute path is looked for in PATH, and can't be told
abbrev pub behind : Option Wrapper → Bool → Step
behind (Some w) absolute = next.On w
behind None absolute = if absolute then next.Found else next.Lost

-- what comes of the program
abbrev pub program_step : List ℕ → Step
program_step word = behind (wrapper_at word) (is_absolute word)

-- what comes of a word of timeout(1): an option with its value in the next word, another option, or the duration, after which the program stands
abbrev pub timeout_step : List ℕ → Step
timeout_step word = if is_one (codes "-k" ∷ codes "-s" ∷ codes "--kill-after" ∷ codes "--signal" ∷ []) word then next.On wrapper.TimeoutValue
    else (if is_option word then next.On wrapper.Timeout else next.On wrapper.Program)

-- what comes of a word of env(1): an option with its value in the next word, a text to be split, another option or a variable, or the program
abbrev pub env_step : List ℕ → Step
env_step word = if is_one (codes "-u" ∷ codes "-C" ∷ codes "--unset" ∷ codes "--chdir" ∷ []) word then next.On wrapper.EnvValue
    else (if is_split word then next.Lost else (if is_option word || is_setting word then next.On wrapper.Env else program_step word))

-- what comes of a word: a value is passed over, whatever it is; any other has to be known
abbrev pub read_word : Wrapper → Option (List ℕ) → Step
read_word wrapper.TimeoutValue word = next.On wrapper.Timeout
read_word wrapper.EnvValue word = next.On wrapper.Env
read_word wrapper.Timeout None = next.Lost
read_word wrapper.Timeout (Some word) = timeout_step word
read_word wrapper.Env None = next.Lost
read_word wrapper.Env (Some word) = env_step word
read_word wrapper.Program None = next.Lost
read_word wrapper.Program (Some word) = program_step word

-- what a word leads to: on to the next ones, the word itself, or nothing
abbrev pub leads : Step → Option (List ℕ) → (Wrapper → Option (List ℕ)) → Option (List ℕ)
leads (next.On w) word on = on w
leads next.Found word on = word
leads next.Lost word on = None

-- the program to which words lead, one after the other
abbrev pub walked : Wrapper → List (Option (List ℕ)) → Option (List ℕ)
walked w [] = None
walked w (word ∷ words) = leads (read_word w word) word (λ further. walked further words)

-- from the first word on
abbrev pub walked_from : Option Wrapper → List (Option (List ℕ)) → Option (List ℕ)
walked_from None words = None
walked_from (Some w) words = walked w words

-- the program that a command starts in the end, by its path and the words after it
abbrev pub started : List ℕ → List (Option (List ℕ)) → Option (List ℕ)
started path words = walked_from (wrapper_at path) words
