-- The head of a script, line by line, and a whole script.
use Rattle.rk_replay.proofs.Words.{◌≡◌, ◌++◌, ◌+◌, Some, None, ap, length, ℕ, List, [], map, sym, ◌∙◌, arith, ◌∷◌, refl, append_assoc, false, subst, not, ◌≢◌}
use Rattle.rk_replay.proofs.Words.{append-nil, filter_map-append, flat_map, filter_map, lines_of, NoMemory, Line, Beginning, served_is_run, nothing}
use Rattle.rk_replay.proofs.Words.{ServedInOrder, Served, Happening, readings_from, IsHead, PlaysBody, reading_of, said_late, happenings_of, happens, conf_in}
use Rattle.rk_replay.proofs.Words.{seconds_in, happening_in, conf_by, before_all, said_in, last_of, conf_of, beginning_of, configured, Sets, fault_line}
use Rattle.rk_replay.proofs.Words.{line_text, conf_line, text_from, outputs_in, IsWritten, IsRefused, ScriptLine, Happens, Wrong, Blank, Conf, Negative}
use Rattle.rk_replay.proofs.Words.{NotALine}
use Rattle.std.proofs.lemmas.List.{length-append}
use Rattle.std.proofs.lemmas.List.Folds.{list_all-append}
use Rattle.std.proofs.lemmas.Grind.{flat_map-append}
use Rattle.rk_conf.specs.declared.fault.ConfFault.{ConfFault}
use Rattle.rk_conf.specs.Faults.{IsFaultFor}
use Rattle.rk_conf.specs.Reading.{faults_in, lines_in}
use Rattle.rk_replay.specs.declared.playing.Head.{Head}
use Rattle.rk_replay.specs.declared.settings.Settings.{Settings}
use Rattle.rk_served.proofs.Orders.{served_of}
use Rattle.rk_replay.proofs.Heads.{Quiet, from_first, parts, said_parts, conf_parts, seconds_parts, configured_by, happenings_parts, text_parts, before_parts}

-- ---- the head, line by line

-- these lines were heard, and these are left
pub record Heard (all rest : List ScriptLine) (settings : Settings) (number : ℕ) (text : List ℕ) : Type 0 where
  pub lines : List ScriptLine
  pub all_are : all ≡ lines ++ rest
  pub quiet : Quiet lines
  pub counted : number ≡ 1 + length lines
  pub conf : settings.conf ≡ flat_map line_text (filter_map conf_in lines)
  pub negative : settings.negative ≡ last_of 60 (filter_map seconds_in lines)
  pub text_is : text ≡ text_from 1 lines []

pub heard_none : (all : List ScriptLine) (settings : Settings) → settings.conf ≡ [] → settings.negative ≡ 60 → Heard all all settings 1 []
heard_none all settings conf negative = record {
  lines = [];
  all_are = refl;
  quiet = refl;
  counted = refl;
  conf = conf;
  negative = negative;
  text_is = refl;
}

last_append : (n : ℕ) (xs ys : List ℕ) → last_of n (xs ++ ys) ≡ last_of (last_of n xs) ys
last_append n [] ys = refl
last_append n (x ∷ xs) ys = last_append x xs ys

quiet_push : (lines : List ScriptLine) (r : ScriptLine) → Quiet lines → happens r ≡ false → Quiet (lines ++ r ∷ [])
quiet_push lines r q e = list_all-append (λ x. not (happens x)) lines (r ∷ []) ∙ (rw (q, e) refl)

module _ (all rest : List ScriptLine) (number : ℕ) (old new : Settings) (text text' : List ℕ) where
  -- one line more, by what it adds to each
  heard_more : (r : ScriptLine) → happens r ≡ false → new.conf ≡ old.conf ++ flat_map line_text (filter_map conf_in (r ∷ []))
      → new.negative ≡ last_of old.negative (filter_map seconds_in (r ∷ [])) → text' ≡ text ++ text_from number (r ∷ []) []
      → Heard all (r ∷ rest) old number text → Heard all rest new (number + 1) text'
  heard_more r e conf negative t h = record {
    lines = h.lines ++ r ∷ [];
    all_are = h.all_are ∙ sym (append_assoc h.lines (r ∷ []) rest);
    quiet = quiet_push h.lines r h.quiet e;
    counted = omega (arith, h.counted, length-append h.lines (r ∷ []));
    conf = conf ∙ (ap (λ (bs : List ℕ). bs ++ flat_map line_text (filter_map conf_in (r ∷ []))) h.conf
        ∙ (sym (flat_map-append line_text (filter_map conf_in h.lines) (filter_map conf_in (r ∷ [])))
        ∙ ap (λ (ls : List (List ℕ)). flat_map line_text ls) (sym (filter_map-append conf_in h.lines (r ∷ [])))));
    negative = negative ∙ (ap (λ (n : ℕ). last_of n (filter_map seconds_in (r ∷ []))) h.negative
        ∙ (sym (last_append 60 (filter_map seconds_in h.lines) (filter_map seconds_in (r ∷ [])))
        ∙ ap (λ (ns : List ℕ). last_of 60 ns) (sym (filter_map-append seconds_in h.lines (r ∷ [])))));
    text_is = t ∙ (ap (λ (bs : List ℕ). bs ++ text_from number (r ∷ []) []) h.text_is
        ∙ (ap (λ (n : ℕ). text_from 1 h.lines [] ++ text_from n (r ∷ []) []) h.counted ∙ sym (text_parts 1 h.lines (r ∷ []) [] h.quiet)));
  }

  same : (bs cs : List ℕ) → cs ≡ bs → cs ≡ bs ++ []
  same bs cs e = e ∙ sym (append-nil bs)

  -- a line of the head that sets something, or nothing, leaves the rest of the head
  pub heard_line : (r : ScriptLine) → happens r ≡ false → Sets r number old text new text' → Heard all (r ∷ rest) old number text
      → Heard all rest new (number + 1) text'
  heard_line Blank e s h =
      heard_more Blank refl (same old.conf new.conf (ap (λ (x : Settings). x.conf) s.0)) (ap (λ (x : Settings). x.negative) s.0) (same text text' s.1) h
  heard_line (Conf line) e s h =
      heard_more (Conf line) refl (ap (λ (x : Settings). x.conf) s.0 ∙ ap (λ (bs : List ℕ). old.conf ++ bs) (sym (append-nil (line_text line))))
      (ap (λ (x : Settings). x.negative) s.0) (same text text' s.1) h
  heard_line (Negative n) e s h =
      heard_more (Negative n) refl (same old.conf new.conf (ap (λ (x : Settings). x.conf) s.0)) (ap (λ (x : Settings). x.negative) s.0) (same text text' s.1) h
  heard_line Wrong e s h = heard_more Wrong refl (same old.conf new.conf (ap (λ (x : Settings). x.conf) s.0)) (ap (λ (x : Settings). x.negative) s.0) (s.1
      ∙ ap (λ (bs : List ℕ). text ++ bs) (sym (append-nil (fault_line number NotALine)))) h
  heard_line (Happens now happening) e s h = absurd (cc)

-- what a line says on which something happens, and on which nothing does
pub is_happening : (r : ScriptLine) (first : ℕ × Happening) → Some first ≡ happening_in r → r ≡ Happens first.0 first.1
is_happening (Happens now happening) first e = (let same : first ≡ (now, happening) = cc in rw (same) refl)
is_happening _ first e = absurd (cc)

-- a line without a happening makes nothing happen
pub happens_not : (r : ScriptLine) → None ≡ happening_in r → happens r ≡ false
happens_not (Happens now happening) e = absurd (cc)
happens_not _ e = refl

pub head_of : (input : List ℕ) (head : Head) (text : List ℕ) → Heard (map reading_of (lines_of input)) (readings_from head.first) head.settings head.number text
    → IsHead input head text
head_of input head text h = record {
  lines = h.lines;
  all = h.all_are;
  quiet = h.quiet;
  counted = h.counted;
  conf = h.conf;
  negative = h.negative;
  text_is = h.text_is;
}

-- ---- a whole script

abbrev beginning : ℕ → Beginning
beginning n = record { negative = n; first = 1; stride = 1 }

module _ (input : List ℕ) (head : Head) (text : List ℕ) (h : IsHead input head text) where
  abbrev rest : List ScriptLine
  rest = readings_from head.first

  said_is : said_in input ≡ parts h.lines rest
  said_is = rw (h.all) (said_parts h.lines rest h.quiet (from_first head.first))

  pub conf_is : configured head.settings.conf ≡ conf_of (said_in input)
  conf_is = ap configured h.conf ∙ (configured_by (filter_map conf_in h.lines) ∙ (ap conf_by (sym (conf_parts h.lines rest)) ∙ ap conf_of (sym said_is)))

  beginning_is : record { negative = head.settings.negative; first = 1; stride = 1 } ≡ beginning_of (said_in input)
  beginning_is = ap (λ (n : ℕ). beginning n) (h.negative ∙ ap (last_of 60) (sym (seconds_parts h.lines rest))) ∙ ap beginning_of (sym said_is)

  -- if the configuration has no fault, what the body plays is written
  pub written : (conf : List Line) (text' : List ℕ) → faults_in (configured head.settings.conf) ≡ [] → conf ≡ lines_in (configured head.settings.conf)
      → PlaysBody conf head text text' → IsWritten input text'
  written conf text' sound lines p =
      let lines_are : conf ≡ lines_in (conf_of (said_in input)) = lines ∙ ap lines_in conf_is in
      let from_told : ServedInOrder (lines_in (conf_of (said_in input))) (beginning head.settings.negative) p.turns p.run p.left =
      subst (λ (ls : List Line). ServedInOrder ls (beginning head.settings.negative) p.turns p.run p.left) lines_are p.served in
      let in_order : ServedInOrder (lines_in (conf_of (said_in input))) (beginning_of (said_in input)) p.turns p.run p.left =
      subst (λ (from : Beginning). ServedInOrder (lines_in (conf_of (said_in input))) from p.turns p.run p.left) beginning_is from_told in
      let served : Served (lines_in (conf_of (said_in input))) (beginning_of (said_in input)) p.turns p.run p.left =
      served_of (lines_in (conf_of (said_in input))) p.turns p.run (nothing (beginning_of (said_in input))) p.left in_order in
      record {
        turns = p.turns;
        run = p.run;
        left = p.left;
        sound = rw (← conf_is) sound;
        served = served;
        in_order = in_order;
        lawful = served_is_run (lines_in (conf_of (said_in input))) (beginning_of (said_in input)) p.turns p.run p.left served;
        happenings = p.happenings ∙ (sym (happenings_parts h.lines rest h.quiet) ∙ ap happenings_of (sym said_is));
        text_is = p.text_is ∙ (ap (λ (bs : List ℕ). bs ++ text_from head.number (map said_late rest) (map outputs_in p.turns)) h.text_is
            ∙ (ap (λ (n : ℕ). text_from 1 h.lines [] ++ text_from n (map said_late rest) (map outputs_in p.turns)) h.counted
            ∙ (sym (text_parts 1 h.lines (map said_late rest) (map outputs_in p.turns) h.quiet)
            ∙ ap (λ (rs : List ScriptLine). text_from 1 rs (map outputs_in p.turns)) (sym said_is))));
      }

  first_of : (fault : ConfFault) (faults : List ConfFault) → IsFaultFor fault faults → fault.kind ≢ NoMemory → (others : List ConfFault)
      × (faults ≡ fault ∷ others)
  first_of fault [] f n = absurd (n f)
  first_of fault (first ∷ others) f n = (others, ap (λ (x : ConfFault). x ∷ others) (sym f))

  -- if the configuration has a fault, it is the last line that is written
  pub refused : (fault : ConfFault) (text' : List ℕ) → IsFaultFor fault (faults_in (configured head.settings.conf)) → fault.kind ≢ NoMemory → text' ≡ text
      ++ conf_line fault → IsRefused input text'
  refused fault text' f n t =
      let first = first_of fault (faults_in (configured head.settings.conf)) f n in
      record {
        fault = fault;
        others = first.0;
        faults = rw (← conf_is) first.1;
        text_is = t ∙ ap (λ (bs : List ℕ). bs ++ conf_line fault) (h.text_is
            ∙ ap (λ (rs : List ScriptLine). text_from 1 rs []) (sym (before_parts h.lines rest h.quiet (from_first head.first)) ∙ ap before_all (sym said_is)));
      }
