-- What an expansion says of one lookup, it says of any other that answers as much.
use Rattle.std.proofs.Common.{ℕ, List, [], ◌∷◌, subst, inl, inr}
use Rattle.std.specs.Prelude.{Option, Result}
use Rattle.std.specs.declared.alloc.AllocError.{AllocError}
use Rattle.std.specs.Global.{Vec}
use Rattle.rk_conf.specs.declared.argument.Wanted.{Wanted}
use Rattle.rk_conf.specs.declared.argument.Argument.{Argument}
use Rattle.rk_conf.specs.declared.argument.Argument.TheVariants as argument
use Rattle.rk_macro.specs.declared.fault.ExpandFault.{ExpandFault}
use Rattle.rk_macro.specs.declared.fault.ExpandFault.TheVariants.{NoKey, NotText, TooLong, NoMemory}
use Rattle.rk_macro.specs.declared.subject.Subject.{Subject}
use Rattle.rk_macro.specs.Lookup.{Lookup, payload_shown, answers_of}
use Rattle.rk_macro.specs.Expansion.{StandsFor, OnPayload, AreWords, Fails, FailsNext, FailsAt}

module _ (look other : Lookup) (on : (wanted : Wanted) (r : Result (Option (List ℕ)) AllocError) → look wanted r → other wanted r) (s : Subject) where
  stands : (a : Argument) (word : List ℕ) → StandsFor look s a word → StandsFor other s a word
  stands argument.Operation word h = h
  stands argument.Key word h = h
  stands argument.Type word h = h
  stands argument.Description word h = h
  stands argument.Callout word h = h
  stands argument.Uid word h = h
  stands argument.Gid word h = h
  stands argument.Thread word h = h
  stands argument.Process word h = h
  stands argument.Session word h = h
  stands (argument.Literal text) word h = h
  stands (argument.Payload wanted) word h = (on wanted _ h.0, h.1)

  are_words : (arguments : List Argument) (words : List (List ℕ)) → AreWords look s arguments words → AreWords other s arguments words
  are_words [] [] h = h
  are_words [] (w ∷ ws) h = h
  are_words (a ∷ as') [] h = h
  are_words (a ∷ as') (w ∷ ws) h = (stands a w h.0, are_words as' ws h.1)

  on_payload : (a : Argument) (P Q : Wanted → Type 0) → ((wanted : Wanted) → P wanted → Q wanted) → OnPayload a P → OnPayload a Q
  on_payload (argument.Payload wanted) P Q h p = h wanted p
  on_payload argument.Operation P Q h p = p
  on_payload argument.Key P Q h p = p
  on_payload argument.Type P Q h p = p
  on_payload argument.Description P Q h p = p
  on_payload argument.Callout P Q h p = p
  on_payload argument.Uid P Q h p = p
  on_payload argument.Gid P Q h p = p
  on_payload argument.Thread P Q h p = p
  on_payload argument.Process P Q h p = p
  on_payload argument.Session P Q h p = p
  on_payload (argument.Literal text) P Q h p = p

  fails : (a : Argument) (used : ℕ) (fault : ExpandFault) → Fails look s a used fault → Fails other s a used fault
  fails a used NoKey h = on_payload a _ _ (λ wanted g. on wanted _ g) h
  fails a used NotText h = on_payload a _ _ (λ wanted g. (g.0, on wanted _ g.1, g.2)) h
  fails a used TooLong h = (h.0, stands a h.0 h.1, h.2)
  fails a used NoMemory (inl h) = inl (on_payload a _ _ (λ wanted g. on wanted _ g) h)
  fails a used NoMemory (inr h) = inr (h.0, stands a h.0 h.1, h.2)

  fails_next : (arguments : List Argument) (used : ℕ) (fault : ExpandFault) → FailsNext look s arguments used fault → FailsNext other s arguments used fault
  fails_next [] used fault h = h
  fails_next (a ∷ as') used fault h = fails a used fault h

  fails_at : (arguments : List Argument) (fault : ExpandFault) → FailsAt look s arguments fault → FailsAt other s arguments fault
  fails_at arguments fault h = record {
    before = h.before;
    left = h.left;
    words = h.words;
    parts = h.parts;
    made = are_words h.before h.words h.made;
    room = h.room;
    fails = fails_next h.left _ fault h.fails;
  }

-- the same of what calls return
module _ (returns : Wanted → Result (Option (Vec ℕ)) AllocError → Type 0) (other : Lookup) (s : Subject) where
  -- words that were made by the calls of a lookup are those of any lookup that answers as much
  pub words_of_calls : (arguments : List Argument) (words : List (List ℕ)) → AreWords (answers_of returns) s arguments words
      → ((wanted : Wanted) (r : Result (Option (Vec ℕ)) AllocError) → returns wanted r → other wanted (payload_shown r)) → AreWords other s arguments words
  words_of_calls arguments words h on =
      are_words (answers_of returns) other (λ wanted answer g. (let P : Result (Option (List ℕ)) AllocError → Type 0 = other wanted in
      subst P g.2 (on wanted g.0 g.1))) s arguments words h

  -- an expansion that failed by the calls of a lookup fails by any lookup that answers as much
  pub fails_of_calls : (arguments : List Argument) (fault : ExpandFault) → FailsAt (answers_of returns) s arguments fault
      → ((wanted : Wanted) (r : Result (Option (Vec ℕ)) AllocError) → returns wanted r → other wanted (payload_shown r)) → FailsAt other s arguments fault
  fails_of_calls arguments fault h on =
      fails_at (answers_of returns) other (λ wanted answer g. (let P : Result (Option (List ℕ)) AllocError → Type 0 = other wanted in
      subst P g.2 (on wanted g.0 g.1))) s arguments fault h
