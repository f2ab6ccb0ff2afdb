-- The options of words, by the first of them.
use Rattle.std.proofs.Common.{◌≡◌, ℕ, List, [], ◌∷◌, Option, Some, None, map, Bool, true, false, length, Bor, refl, sym, ap, ◌∙◌, arith}
use Rattle.std.specs.Str.{bytes_eq}
use Rattle.std.proofs.lemmas.Bool.Decides.{nat_tests}
use Rattle.std.proofs.lemmas.Str.Pattern.{IsSplitOnceResult, split_once_first}
use Rattle.rk_options.specs.Options.{Given, led_by, is_among, is_joined, joined, flag, options_of, values_of, at_most_one, value_in, taken}

in_one : (flags : List (List ℕ)) (word : List ℕ) (words : List (List ℕ)) → is_joined word ≡ true
    → options_of flags (word ∷ words) ≡ led_by (joined word) (options_of flags words)
unfolding options_of
in_one flags word [] e = rw e refl
in_one flags word (next ∷ words) e = rw e refl

in_flag : (flags : List (List ℕ)) (word : List ℕ) (words : List (List ℕ)) → is_joined word ≡ false → is_among flags word ≡ true
    → options_of flags (word ∷ words) ≡ led_by (flag word) (options_of flags words)
unfolding options_of
in_flag flags word [] e a = rw (e, a) refl
in_flag flags word (next ∷ words) e a = rw (e, a) refl

in_two : (flags : List (List ℕ)) (word next : List ℕ) (words : List (List ℕ)) → is_joined word ≡ false → is_among flags word ≡ false
    → options_of flags (word ∷ next ∷ words) ≡ led_by (record { name = word; value = next }) (options_of flags words)
unfolding options_of
in_two flags word next words e a = rw (e, a) refl

in_none : (flags : List (List ℕ)) (word : List ℕ) → is_joined word ≡ false → is_among flags word ≡ false → options_of flags (word ∷ []) ≡ None
unfolding options_of
in_none flags word e a = rw (e, a) refl

-- ---- what `split_once` says of a word

not_joined : (word : List ℕ) → IsSplitOnceResult 61 word None → is_joined word ≡ false
not_joined word h = let cut = split_once_first 61 word None h (omega arith) in grind (arith, nat_tests, cut)

module _ {W : Type 0} (shown : W → List ℕ) (flags : List (List ℕ)) where
  pub no_words : (words : List W) → length words ≡ 0 → options_of flags (map shown words) ≡ Some []
  unfolding options_of
  no_words [] h = refl
  no_words (w ∷ ws) h = absurd (omega arith)

  -- a word that has both name and value
  pub in_one_word : (words : List W) (word : W) (rest : List W) (bytes : List ℕ) (name value : Bor (List ℕ)) → words ≡ word ∷ rest → bytes ≡ shown word
      → IsSplitOnceResult 61 bytes (Some (name, value))
      → options_of flags (map shown words) ≡ led_by (record { name = name.now; value = value.now }) (options_of flags (map shown rest))
  in_one_word words word rest bytes name value w b h =
      let cut = split_once_first 61 bytes (Some (name, value)) h (omega arith) in
      let e : is_joined (shown word) ≡ true = rw (← b) (grind (arith, nat_tests, cut.0)) in
      rw (w, cut.1, cut.2, b) (in_one flags (shown word) (map shown rest) e)

  -- a flag
  pub in_a_flag : (words : List W) (word : W) (rest : List W) (bytes : List ℕ) → words ≡ word ∷ rest → bytes ≡ shown word
      → IsSplitOnceResult 61 bytes None → is_among flags bytes ≡ true
      → options_of flags (map shown words) ≡ led_by (record { name = bytes; value = [] }) (options_of flags (map shown rest))
  in_a_flag words word rest bytes w b h a =
      let e : is_joined (shown word) ≡ false = rw (← b) (not_joined bytes h) in
      let among : is_among flags (shown word) ≡ true = rw (← b) a in
      rw (w, b) (in_flag flags (shown word) (map shown rest) e among)

  -- a name with its value in the next word
  pub in_two_words : (words : List W) (word : W) (more : List W) (next : W) (rest : List W) (bytes value : List ℕ)
      → words ≡ word ∷ more → more ≡ next ∷ rest → bytes ≡ shown word → value ≡ shown next → IsSplitOnceResult 61 bytes None → is_among flags bytes ≡ false
      → options_of flags (map shown words) ≡ led_by (record { name = bytes; value = value }) (options_of flags (map shown rest))
  in_two_words words word more next rest bytes value w m b v h a =
      let e : is_joined (shown word) ≡ false = rw (← b) (not_joined bytes h) in
      let among : is_among flags (shown word) ≡ false = rw (← b) a in
      rw (w, m, b, v) (in_two flags (shown word) (shown next) (map shown rest) e among)

  -- a name without one
  pub in_no_words : (words : List W) (word : W) (more : List W) (bytes : List ℕ) → words ≡ word ∷ more → length more ≡ 0 → bytes ≡ shown word
      → IsSplitOnceResult 61 bytes None → is_among flags bytes ≡ false → options_of flags (map shown words) ≡ None
  in_no_words words word [] bytes w m b h a =
      let among : is_among flags (shown word) ≡ false = rw (← b) a in
      rw w (in_none flags (shown word) (rw (← b) (not_joined bytes h)) among)
  in_no_words words word (next ∷ more) bytes w m b h a = absurd (omega arith)

-- ---- values, along the options

-- what is found of a name, where something may have been found before these options
abbrev pub with_found : Option (List ℕ) → Option (Option (List ℕ)) → Option (Option (List ℕ))
with_found None later = later
with_found (Some v) None = None
with_found (Some v) (Some None) = Some (Some v)
with_found (Some v) (Some (Some w)) = None

-- what is found with one option taken and the others left
abbrev pub going_on : Option (Option (List ℕ)) → Option (Option (List ℕ)) → Option (Option (List ℕ))
going_on None later = None
going_on (Some found) later = with_found found later

one_more : (v : List ℕ) (vs : List (List ℕ)) → at_most_one (v ∷ vs) ≡ with_found (Some v) (at_most_one vs)
one_more v [] = refl
one_more v (w ∷ []) = refl
one_more v (w ∷ x ∷ vs) = refl

of_another : (name : List ℕ) (g : Given) (options : Option (List Given)) → bytes_eq g.name name ≡ false
    → value_in name (led_by g options) ≡ value_in name options
unfolding values_of
of_another name g None e = refl
of_another name g (Some gs) e = rw e refl

of_this : (name : List ℕ) (g : Given) (options : Option (List Given)) → bytes_eq g.name name ≡ true
    → value_in name (led_by g options) ≡ with_found (Some g.value) (value_in name options)
unfolding values_of
of_this name g None e = refl
of_this name g (Some gs) e = rw e (one_more g.value (values_of name gs))

twice : (v w : List ℕ) (later : Option (Option (List ℕ))) → with_found (Some v) (with_found (Some w) later) ≡ None
twice v w None = refl
twice v w (Some None) = refl
twice v w (Some (Some x)) = refl

step : (name : List ℕ) (found : Option (List ℕ)) (g : Given) (options : Option (List Given)) (b : Bool) → bytes_eq g.name name ≡ b
    → with_found found (value_in name (led_by g options)) ≡ going_on (taken name found g) (value_in name options)
step name None g options true e = rw e (of_this name g options e)
step name None g options false e = rw e (of_another name g options e)
step name (Some v) g options true e = rw (e, of_this name g options e) (twice v g.value (value_in name options))
step name (Some v) g options false e = rw (e, of_another name g options e) refl

module _ (name : List ℕ) (found : Option (List ℕ)) (g : Given) (whole options : Option (List Given)) (answer : Option (Option (List ℕ)))
    (sofar : answer ≡ with_found found (value_in name whole)) (parts : whole ≡ led_by g options) where
  takes : answer ≡ going_on (taken name found g) (value_in name options)
  takes = sofar ∙ ap (λ o. with_found found (value_in name o)) parts ∙ step name found g options _ refl

  -- what is found after an option that was taken
  pub behind : (found' : Option (List ℕ)) → Some found' ≡ taken name found g → answer ≡ with_found found' (value_in name options)
  behind found' t = takes ∙ ap (λ r. going_on r (value_in name options)) (sym t)

  -- there is no answer after a second option of the name
  pub given_up : None ≡ taken name found g → None ≡ answer
  given_up t = sym (takes ∙ ap (λ r. going_on r (value_in name options)) (sym t))

-- where no options are left
pub at_the_end : (found : Option (List ℕ)) → with_found found (Some None) ≡ Some found
at_the_end None = refl
at_the_end (Some v) = refl
