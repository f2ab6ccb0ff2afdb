-- The lines after a script's head, played one after the other, and a whole script.
use Rattle.rk_replay.proofs.Words.{◌≡◌, ◌++◌, ◌+◌, Some, None, ap, ℕ, List, [], map, sym, ◌∙◌, ◌∷◌, Option, refl, append_assoc, subst, append-nil, Line}
use Rattle.rk_replay.proofs.Words.{Beginning, Past, served_push, nothing, Left, ServedInOrder, ServesTurnInOrder, Turn, Happening, Output, readings_left}
use Rattle.rk_replay.proofs.Words.{readings_from, Plays, PlaysAll, said_late, happenings_of, fault_line, text_from, outputs_in, turn_text, moment_of, First}
use Rattle.rk_replay.proofs.Words.{ScriptLine, Happens, Wrong, Blank, Conf, Negative, NotALine}

-- the turns so far and the lines that are left give what all lines give
pub record Played (conf : List Line) (from : Beginning) (first number : ℕ) (all rest : List ScriptLine) (begun text : List ℕ) (left : Left) : Type 0 where
  pub turns : List Turn
  pub run : List Past
  pub served : ServedInOrder conf from turns run left
  pub happenings : happenings_of (map said_late all) ≡ map moment_of turns ++ happenings_of (map said_late rest)
  pub text_is : (later : List (Option (List Output))) → begun ++ text_from first (map said_late all) (map outputs_in turns ++ later) ≡ text
      ++ text_from number (map said_late rest) later

pub played_none : (conf : List Line) (from : Beginning) (number : ℕ) (all : List ScriptLine) (text : List ℕ)
    → Played conf from number number all all text text (nothing from)
played_none conf from number all text = record {
  turns = [];
  run = [];
  served = (refl, refl);
  happenings = refl;
  text_is = λ later. refl;
}

map_push : {X Y : Type 0} (f : X → Y) (xs : List X) (x : X) (later : List Y) → map f (xs ++ x ∷ []) ++ later ≡ map f xs ++ f x ∷ later
map_push f [] x later = refl
map_push f (y ∷ ys) x later = ap (λ (zs : List _). f y ∷ zs) (map_push f ys x later)

module _ (conf : List Line) (from : Beginning) (first number : ℕ) (all rest : List ScriptLine) (begun text text' : List ℕ) (left new : Left) where
  -- a line on which nothing happens, by what is said of it
  passed : (r : ScriptLine) (said : List ℕ) → (happenings_of (map said_late (r ∷ rest)) ≡ happenings_of (map said_late rest))
      → ((told : List (Option (List Output))) → text_from number (map said_late (r ∷ rest)) told ≡ said ++ text_from (number + 1) (map said_late rest) told)
      → Played conf from first number all (r ∷ rest) begun text left → new ≡ left → text' ≡ text ++ said
      → Played conf from first (number + 1) all rest begun text' new
  passed r said none same p e t = record {
    turns = p.turns;
    run = p.run;
    served = subst (λ (l : Left). ServedInOrder conf from p.turns p.run l) (sym e) p.served;
    happenings = p.happenings ∙ ap (λ (hs : List (ℕ × Happening)). map moment_of p.turns ++ hs) none;
    text_is = λ later. p.text_is later ∙ (ap (λ (bs : List ℕ). text ++ bs) (same later)
        ∙ (sym (append_assoc text said (text_from (number + 1) (map said_late rest) later))
        ∙ ap (λ (bs : List ℕ). bs ++ text_from (number + 1) (map said_late rest) later) (sym t)));
  }

  -- a script that was played up to a line, and that line, are played up to the next
  pub played_line : (r : ScriptLine) → Played conf from first number all (r ∷ rest) begun text left → Plays conf number r left text new text'
      → Played conf from first (number + 1) all rest begun text' new
  played_line Blank p h = passed Blank [] refl (λ told. refl) p h.0 (h.1 ∙ sym (append-nil text))
  played_line (Conf line) p h = passed (Conf line) (fault_line number NotALine) refl (λ told. refl) p h.0 h.1
  played_line (Negative n) p h = passed (Negative n) (fault_line number NotALine) refl (λ told. refl) p h.0 h.1
  played_line Wrong p h = passed Wrong (fault_line number NotALine) refl (λ told. refl) p h.0 h.1
  played_line (Happens now happening) p h =
      let turn : Turn = record { now = now; happening = happening; outputs = h.0 } in
      record {
        turns = p.turns ++ turn ∷ [];
        run = p.run ++ h.1;
        served = served_push (ServesTurnInOrder conf) p.turns p.run h.1 (nothing from) left new turn p.served h.2;
        happenings = p.happenings ∙ sym (map_push moment_of p.turns turn (happenings_of (map said_late rest)));
        text_is = λ later. ap (λ (os : List (Option (List Output))). begun ++ text_from first (map said_late all) os) (map_push outputs_in p.turns turn later)
            ∙ (p.text_is (h.0 ∷ later) ∙ (sym (append_assoc text (turn_text number h.0) (text_from (number + 1) (map said_late rest) later))
            ∙ ap (λ (bs : List ℕ). bs ++ text_from (number + 1) (map said_late rest) later) (sym h.3)));
      }

-- the first line, on which something happens
pub played_first : (conf : List Line) (from : Beginning) (number : ℕ) (text text' : List ℕ) (left new : Left) (head : Option First) (first : First)
    → head ≡ Some first → left ≡ nothing from → Plays conf number (Happens first.now first.happening) left text new text'
    → Played conf from number (number + 1) (readings_from head) (readings_left first.rest) text text' new
played_first conf from number text text' left new head first is begins plays =
    let all = readings_from head in
    let none : Played conf from number number all all text text left =
    subst (λ (l : Left). Played conf from number number all all text text l) (sym begins) (played_none conf from number all text) in
    played_line conf from number number all (readings_left first.rest) text text text' left new (Happens first.now first.happening)
    (subst (λ (rs : List ScriptLine). Played conf from number number all rs text text left) (ap readings_from is) none) plays

-- a script without lines left is played
pub played_all : (conf : List Line) (from : Beginning) (first number : ℕ) (all : List ScriptLine) (begun text : List ℕ) (left : Left)
    → Played conf from first number all [] begun text left → PlaysAll conf from first all begun text
played_all conf from first number all begun text left p = record {
  turns = p.turns;
  run = p.run;
  left = left;
  served = p.served;
  happenings = sym (p.happenings ∙ append-nil _);
  text_is = sym (append-nil text)
      ∙ (sym (p.text_is []) ∙ ap (λ (os : List (Option (List Output))). begun ++ text_from first (map said_late all) os) (append-nil _));
}

-- nothing happens
pub plays_none : (conf : List Line) (from : Beginning) (number : ℕ) (head : Option First) (text : List ℕ) → head ≡ None
    → PlaysAll conf from number (readings_from head) text text
plays_none conf from number head text none =
    subst (λ (h : Option First). PlaysAll conf from number (readings_from h) text text) (sym none)
    (played_all conf from number number [] text text (nothing from) (played_none conf from number [] text))
