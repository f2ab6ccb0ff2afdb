-- What a script says, from its head and what follows it.
use Rattle.rk_replay.proofs.Words.{◌≡◌, ◌++◌, ◌+◌, Some, None, ap, length, ℕ, List, [], map, sym, ◌∙◌, arith, take, ◌∷◌, Option, refl, append_assoc, false, suc}
use Rattle.rk_replay.proofs.Words.{true, not, Bool, append-nil, filter_map-append, flat_map, filter_map, list_all, prefix_len, Happening, Output, readings_from}
use Rattle.rk_replay.proofs.Words.{said_late, happenings_of, happens, conf_in, seconds_in, happening_in, conf_by, before_all, said_by, configured, fault_line}
use Rattle.rk_replay.proofs.Words.{line_text, text_from, First, ScriptLine, Happens, Wrong, NotALine}

-- nothing happens on these lines
abbrev pub Quiet : List ScriptLine → Type 0
Quiet rs = list_all (λ r. not (happens r)) rs ≡ true

-- nothing is left, or something happens first
abbrev happens_first : List ScriptLine → Bool
happens_first [] = true
happens_first (r ∷ rs) = happens r

-- what follows the head is nothing, or begins with a happening
pub from_first : (first : Option First) → happens_first (readings_from first) ≡ true
from_first None = refl
from_first (Some first) = refl

-- ---- one after the other

pub said_head : (lines rest : List ScriptLine) → Quiet lines → said_by (lines ++ rest) ≡ lines ++ said_by rest
said_head [] rest q = refl
said_head (Happens now h ∷ rs) rest q = absurd (cc)
said_head (r ∷ rs) rest q = ap (λ (xs : List ScriptLine). r ∷ xs) (said_head rs rest q)

said_rest : (rest : List ScriptLine) → happens_first rest ≡ true → said_by rest ≡ map said_late rest
said_rest [] e = refl
said_rest (Happens now h ∷ rs) e = refl
said_rest (_ ∷ rs) e = absurd (cc)

-- a script says its quiet lines first, and those from its first happening on as said late
pub said_parts : (lines rest : List ScriptLine) → Quiet lines → happens_first rest ≡ true → said_by (lines ++ rest) ≡ lines ++ map said_late rest
said_parts lines rest q e = said_head lines rest q ∙ ap (λ (xs : List ScriptLine). lines ++ xs) (said_rest rest e)

-- ---- what follows the head sets nothing

no_conf : (rs : List ScriptLine) → filter_map conf_in (map said_late rs) ≡ []
no_conf [] = refl
no_conf (Happens now h ∷ rs) = no_conf rs
no_conf (_ ∷ rs) = no_conf rs

no_seconds : (rs : List ScriptLine) → filter_map seconds_in (map said_late rs) ≡ []
no_seconds [] = refl
no_seconds (Happens now h ∷ rs) = no_seconds rs
no_seconds (_ ∷ rs) = no_seconds rs

-- the lines of the head, and then those after it as they are said there
abbrev pub parts : List ScriptLine → List ScriptLine → List ScriptLine
parts lines rest = lines ++ map said_late rest

-- the configuration of a script is that of its head
pub conf_parts : (lines rest : List ScriptLine) → filter_map conf_in (parts lines rest) ≡ filter_map conf_in lines
conf_parts lines rest = filter_map-append conf_in lines (map said_late rest)
    ∙ (ap (λ (ts : List (List ℕ)). filter_map conf_in lines ++ ts) (no_conf rest) ∙ append-nil _)

-- the negative time of a script is that of its head
pub seconds_parts : (lines rest : List ScriptLine) → filter_map seconds_in (parts lines rest) ≡ filter_map seconds_in lines
seconds_parts lines rest = filter_map-append seconds_in lines (map said_late rest)
    ∙ (ap (λ (ns : List ℕ). filter_map seconds_in lines ++ ns) (no_seconds rest) ∙ append-nil _)

-- the settings hold the text of the configuration, or nothing for the default
pub configured_by : (lines : List (List ℕ)) → configured (flat_map line_text lines) ≡ conf_by lines
configured_by [] = refl
configured_by ([] ∷ lines) = refl
configured_by ((b ∷ bs) ∷ lines) = refl

-- ---- nothing happens in the head

quiet_happenings : (lines : List ScriptLine) → Quiet lines → happenings_of lines ≡ []
quiet_happenings [] q = refl
quiet_happenings (Happens now h ∷ rs) q = absurd (cc)
quiet_happenings (_ ∷ rs) q = quiet_happenings rs q

-- the happenings of a script are those after its head
pub happenings_parts : (lines rest : List ScriptLine) → Quiet lines → happenings_of (parts lines rest) ≡ happenings_of (map said_late rest)
happenings_parts lines rest q = filter_map-append happening_in lines (map said_late rest)
    ∙ ap (λ (hs : List (ℕ × Happening)). hs ++ happenings_of (map said_late rest)) (quiet_happenings lines q)

-- the text of a script is that of its head and then that of what follows it
pub text_parts : (number : ℕ) (lines rest : List ScriptLine) (told : List (Option (List Output))) → Quiet lines
    → text_from number (lines ++ rest) told ≡ text_from number lines [] ++ text_from (number + length lines) rest told
text_parts number [] rest told q = ap (λ (n : ℕ). text_from n rest told) (omega arith)
text_parts number (Wrong ∷ rs) rest told q =
    ap (λ (t : List ℕ). fault_line number NotALine ++ t) (text_parts (number + 1) rs rest told q
    ∙ ap (λ (n : ℕ). text_from (number + 1) rs [] ++ text_from n rest told) (omega arith))
    ∙ sym (append_assoc (fault_line number NotALine) (text_from (number + 1) rs []) (text_from (number + length (Wrong ∷ rs)) rest told))
text_parts number (Happens now h ∷ rs) rest told q = absurd (cc)
text_parts number (_ ∷ rs) rest told q = text_parts (number + 1) rs rest told q
    ∙ ap (λ (n : ℕ). text_from (number + 1) rs [] ++ text_from n rest told) (omega arith)

-- the lines before the first happening are the head
late_first : (rest : List ScriptLine) → happens_first rest ≡ true → happens_first (map said_late rest) ≡ true
late_first [] e = refl
late_first (Happens now h ∷ rs) e = refl
late_first (_ ∷ rs) e = absurd (cc)

none_before : (rest : List ScriptLine) → happens_first rest ≡ true → before_all rest ≡ []
none_before [] e = refl
none_before (Happens now h ∷ rs) e = refl
none_before (_ ∷ rs) e = absurd (cc)

take_next : (x : ScriptLine) (xs : List ScriptLine) (n : ℕ) → take (1 + n) (x ∷ xs) ≡ x ∷ take n xs
take_next x xs n = let e : 1 + n ≡ suc n = omega arith in ap (λ (m : ℕ). take m (x ∷ xs)) e

before_next : (r : ScriptLine) (rs : List ScriptLine) → happens r ≡ false → before_all (r ∷ rs) ≡ r ∷ before_all rs
before_next (Happens now h) rs e = absurd (cc)
before_next r rs e = take_next r rs (prefix_len (λ r. not (happens r)) rs)

before_head : (lines rest : List ScriptLine) → Quiet lines → happens_first rest ≡ true → before_all (lines ++ rest) ≡ lines
before_head [] rest q e = none_before rest e
before_head (Happens now h ∷ rs) rest q e = absurd (cc)
before_head (r ∷ rs) rest q e = before_next r (rs ++ rest) refl ∙ ap (λ (xs : List ScriptLine). r ∷ xs) (before_head rs rest q e)

-- the lines before the first happening are the head
pub before_parts : (lines rest : List ScriptLine) → Quiet lines → happens_first rest ≡ true → before_all (parts lines rest) ≡ lines
before_parts lines rest q e = before_head lines (map said_late rest) q (late_first rest e)
