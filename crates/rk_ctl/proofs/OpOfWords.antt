-- The op of words, by the first of them.
use Rattle.std.proofs.Common.{◌≡◌, ℕ, List, [], ◌∷◌, Some, None, map, true, false, length, refl, sym, arith}
use Rattle.rk_message.specs.declared.shape.Op.{Op}
use Rattle.rk_client.specs.Words.{op_said}
use Rattle.rk_ctl.specs.Said.{is_alone, is_flag_with_value, op_and_more}

at_an_op : (word : List ℕ) (words : List (List ℕ)) (o : Op) → op_said word ≡ Some o → op_and_more (word ∷ words) ≡ Some (o, words)
unfolding op_and_more
at_an_op word [] o e = rw e refl
at_an_op word (next ∷ words) o e = rw e refl

at_a_flag : (word : List ℕ) (words : List (List ℕ)) → op_said word ≡ None → is_flag_with_value word ≡ true → op_and_more (word ∷ words) ≡ None
unfolding op_and_more
at_a_flag word [] e f = rw e refl
at_a_flag word (next ∷ words) e f = rw (e, f) refl

behind_one : (word : List ℕ) (words : List (List ℕ)) → op_said word ≡ None → is_flag_with_value word ≡ false → is_alone word ≡ true
    → op_and_more (word ∷ words) ≡ op_and_more words
unfolding op_and_more
behind_one word [] e f a = rw e refl
behind_one word (next ∷ words) e f a = rw (e, f, a) refl

behind_two : (word next : List ℕ) (words : List (List ℕ)) → op_said word ≡ None → is_flag_with_value word ≡ false → is_alone word ≡ false
    → op_and_more (word ∷ next ∷ words) ≡ op_and_more words
unfolding op_and_more
behind_two word next words e f a = rw (e, f, a) refl

at_the_last : (word : List ℕ) → op_said word ≡ None → op_and_more (word ∷ []) ≡ None
unfolding op_and_more
at_the_last word e = rw e refl

module _ {W : Type 0} (shown : W → List ℕ) where
  pub no_words : (words : List W) → length words ≡ 0 → op_and_more (map shown words) ≡ None
  unfolding op_and_more
  no_words [] h = refl
  no_words (w ∷ ws) h = absurd (omega arith)

  alone_last : (word : List ℕ) → op_said word ≡ None → (rest : List W) → length rest ≡ 0 → op_and_more (word ∷ map shown rest) ≡ None
  alone_last word e [] h = at_the_last word e
  alone_last word e (x ∷ xs) h = absurd (omega arith)

  module _ (words : List W) (word : W) (rest : List W) (bytes : List ℕ) (w : words ≡ word ∷ rest) (b : bytes ≡ shown word) where
    -- the first word is the op
    pub op_first : (o : Op) → Some o ≡ op_said bytes → Some (o, map shown rest) ≡ op_and_more (map shown words)
    op_first o e =
        let said : op_said (shown word) ≡ Some o = rw (← b) (sym e) in
        rw w (sym (at_an_op (shown word) (map shown rest) o said))

    module _ (e : None ≡ op_said bytes) where
      none : op_said (shown word) ≡ None
      none = rw (← b) (sym e)

      -- it is a flag with a value
      pub flag_first : (bytes' : List ℕ) → bytes' ≡ shown word → is_flag_with_value bytes' ≡ true → None ≡ op_and_more (map shown words)
      flag_first bytes' b' f =
          let flag : is_flag_with_value (shown word) ≡ true = rw (← b') f in
          rw w (sym (at_a_flag (shown word) (map shown rest) none flag))

      module _ (bytes' : List ℕ) (b' : bytes' ≡ shown word) (f : is_flag_with_value bytes' ≡ false) where
        flag : is_flag_with_value (shown word) ≡ false
        flag = rw (← b') f

        -- it is an option without the next word
        pub one_first : (bytes'' : List ℕ) → bytes'' ≡ shown word → is_alone bytes'' ≡ true
            → op_and_more (map shown words) ≡ op_and_more (map shown rest)
        one_first bytes'' b'' a =
            let alone : is_alone (shown word) ≡ true = rw (← b'') a in
            rw w (behind_one (shown word) (map shown rest) none flag alone)

        -- it is an option with the next word
        pub two_first : (bytes'' : List ℕ) → bytes'' ≡ shown word → is_alone bytes'' ≡ false → (next : W) (more : List W) → rest ≡ next ∷ more
            → op_and_more (map shown words) ≡ op_and_more (map shown more)
        two_first bytes'' b'' a next more r =
            let alone : is_alone (shown word) ≡ false = rw (← b'') a in
            rw (w, r) (behind_two (shown word) (shown next) (map shown more) none flag alone)

      -- it is the last, and no op
      pub last_first : length rest ≡ 0 → op_and_more (map shown words) ≡ None
      last_first h = rw w (alone_last (shown word) none rest h)
