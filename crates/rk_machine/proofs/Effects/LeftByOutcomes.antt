-- What an outcome and the end of a handler leave of the sessions and constructions.
use Rattle.rk_machine.proofs.Words.{◌≡◌, ℕ, ◌∙◌, Bool, true, false, cond, refl, option_map_or, nat_cmp, Option, Some, None, is_some, Key, Condition, spent}
use Rattle.rk_machine.proofs.Words.{all_told, Sessions, unspent, Outcome, announced, outcome_of, sessions_ended, keys_ended, World}
use Rattle.std.specs.FinMap as map

-- of a part that no outcome changes
module _ {A : Type 0} (part : Sessions → A) (told : (k : ℕ) (o : Outcome) (a : Sessions) → part (all_told k o a) ≡ part a) where
  -- every wait on k gets the outcome, if there is such a key
  pub left_announced : (now k : ℕ) (keys : map.FinMap nat_cmp Key) (a : Sessions) → part (announced now k keys a) ≡ part a
  left_announced now k keys a = told_or_not (map.get keys k)
    where
      told_or_not : (o : Option Key) → part (option_map_or (λ key. all_told k (outcome_of k key now) a) o a) ≡ part a
      told_or_not None = refl
      told_or_not (Some key) = told k (outcome_of k key now) a

  -- a handler has ended, and its construction is still there
  pub left_settled : ((k : ℕ) (a : Sessions) → part (spent k a) ≡ part a) → (now k : ℕ) (condition : Condition) (w : World)
      → part (sessions_ended now k condition w) ≡ part w.sessions
  left_settled kept now k condition w = spent_or_not (is_some (unspent w.sessions k))
    where
      spent_or_not : (b : Bool) → part (cond b (announced now k (keys_ended now k condition w) (spent k w.sessions)) w.sessions) ≡ part w.sessions
      spent_or_not true = left_announced now k (keys_ended now k condition w) (spent k w.sessions) ∙ kept k w.sessions
      spent_or_not false = refl
