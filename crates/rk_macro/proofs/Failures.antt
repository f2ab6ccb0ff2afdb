-- Where the word of an argument has no room, or no memory, the argument fails.
use Rattle.std.proofs.Common.{◌≡◌, ◌<◌, ◌≤◌, ℕ, suc, ◌+◌, List, [], ◌∷◌, ◌++◌, length, take, drop, get_or, Result, Ok, Err, refl, sym, subst, inr, arith}
use Rattle.std.proofs.Math.Seq.{split_at}
use Rattle.std.proofs.lemmas.List.{append-nil, take_more}
use Rattle.std.specs.List.{AllZip}
use Rattle.std.proofs.lemmas.List.Sums.{sum_by-append}
use Rattle.std.specs.Prelude.{IfErr}
use Rattle.rk_conf.specs.declared.argument.Argument.{Argument}
use Rattle.rk_macro.specs.declared.fault.ExpandFault.{ExpandFault}
use Rattle.rk_macro.specs.declared.fault.ExpandFault.TheVariants.{NoKey, NotText, TooLong, NoMemory}
use Rattle.rk_macro.specs.declared.subject.Subject.{Subject}
use Rattle.rk_macro.specs.Word.{WordFails}
use Rattle.rk_macro.specs.Lookup.{Lookup}
use Rattle.rk_macro.specs.Expansion.{StandsFor, Fails, AreWords, size_of, FailsAt}

fails_with : (look : Lookup) (s : Subject) (a : Argument) (word : List ℕ) (used : ℕ) (f : ExpandFault) → StandsFor look s a word → WordFails word used f → Fails look s a used f
fails_with look s a word used NoKey st h = absurd h
fails_with look s a word used NotText st h = absurd h
fails_with look s a word used TooLong st h = (word, st, h)
fails_with look s a word used NoMemory st h = inr (word, st, h)

-- an argument fails where its word has no room or no memory
pub word_fails : (look : Lookup) (s : Subject) (a : Argument) (word : List ℕ) (used : ℕ) (r : Result (List ℕ) ExpandFault) → StandsFor look s a word → IfErr r (WordFails word used) → IfErr r (Fails look s a used)
word_fails look s a word used (Ok w) st h = tt
word_fails look s a word used (Err f) st h = fails_with look s a word used f st h

-- an argument among others, where the words before it are made
pub fails_here : (look : Lookup) (s : Subject) (arguments : List Argument) (words : List (List ℕ)) (i : ℕ) (a : Argument) (f : ExpandFault) → i < length arguments → a ≡ get_or arguments i a
    → AreWords look s (take i arguments) words → size_of words ≤ 65536 → Fails look s a (size_of words) f → FailsAt look s arguments f
fails_here look s arguments words i a f lt e made room fails =
    let P : Argument → Type 0 = λ x. arguments ≡ take i arguments ++ x ∷ drop (suc i) arguments in
    record {
      before = take i arguments;
      left = a ∷ drop (suc i) arguments;
      words = words;
      parts = subst P (sym e) (split_at arguments i a lt);
      made = made;
      room = room;
      fails = fails;
    }

-- after the last argument only memory can run out
pub fails_behind : (look : Lookup) (s : Subject) (arguments : List Argument) (words : List (List ℕ)) → AreWords look s arguments words → size_of words ≤ 65536 → FailsAt look s arguments NoMemory
fails_behind look s arguments words made room = record {
  before = arguments;
  left = [];
  words = words;
  parts = sym (append-nil arguments);
  made = made;
  room = room;
  fails = refl;
}

zip_push : (R : Argument → List ℕ → Type 0) (xs : List Argument) (ys : List (List ℕ)) (x : Argument) (y : List ℕ) → AllZip R xs ys → R x y → AllZip R (xs ++ x ∷ []) (ys ++ y ∷ [])
zip_push R [] [] x y z r = (r, tt)
zip_push R [] (w ∷ ys) x y z r = absurd z
zip_push R (a ∷ xs) [] x y z r = absurd z
zip_push R (a ∷ xs) (w ∷ ys) x y z r = (z.0, zip_push R xs ys x y z.1 r)

-- one word more
pub made_more : (look : Lookup) (s : Subject) (arguments : List Argument) (words : List (List ℕ)) (i : ℕ) (a : Argument) (word : List ℕ) → i < length arguments → a ≡ get_or arguments i a
    → AreWords look s (take i arguments) words → StandsFor look s a word → AreWords look s (take (i + 1) arguments) (words ++ word ∷ [])
made_more look s arguments words i a word lt e made st =
    let P : List Argument → Type 0 = λ xs. AreWords look s xs (words ++ word ∷ []) in
    let Q : Argument → Type 0 = λ x. AreWords look s (take i arguments ++ x ∷ []) (words ++ word ∷ []) in
    subst P (sym (take_more arguments i a lt)) (subst Q e (zip_push (StandsFor look s) (take i arguments) words a word made st))

-- a word more is its length and one byte more
pub size_more : (words : List (List ℕ)) (word : List ℕ) → size_of (words ++ word ∷ []) ≡ size_of words + (length word + 1)
size_more words word = omega (arith, sum_by-append (λ (w : List ℕ). length w + 1) words (word ∷ []))
