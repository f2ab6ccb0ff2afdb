-- The fault of a body is its leftmost.
use Rattle.rk_message.proofs.Words.{◌≡◌, ap, refl, ℕ, sym, List, ◌∙◌, arith, true, false, Bool, ◌∷◌, Option, Some, None, Ok, Err, length, [], cond, Result, ◌<◌}
use Rattle.rk_message.proofs.Words.{eqb, inl, inr, eq-eqb, eqb-true, cases_lt, ◌⊎◌, MatchOption, IsFaultOf, IsLeftmost, ◌>>=◌, message_with, message_at}
use Rattle.rk_message.proofs.Words.{value_at, values_at, all_values, message_behind, Message, Value, Kind, Fields, kinds_of, Fault, Short, Trailing, UnknownOp}
use Rattle.rk_message.proofs.Numbers.{IsBytes, IsBytes-rest}
use Rattle.rk_message.proofs.Fields.{value_takes, value_again}

abbrev failed : {A : Type 0} → Fault → Result A Fault
failed f = Err f

err_is : {A B : Type 0} (f g : Fault) → failed {A = A} f ≡ Err g → failed {A = B} f ≡ Err g
err_is f g e = let h : f ≡ g = cc in ap failed h

bool_cases : (b : Bool) → (b ≡ true) ⊎ (b ≡ false)
bool_cases true = inl refl
bool_cases false = inr refl

-- a test that failed
ended : {A : Type 0} (b : Bool) (x : A) (f : Fault) → cond b (Ok x) (Err Trailing) ≡ Err f → (b ≡ false) × (failed {A = A} Trailing ≡ Err f)
ended true x f e = absurd cc
ended false x f e = (refl, e)

again : {A : Type 0} (b : Bool) (x : A) (r : Result A Fault) → b ≡ false → r ≡ Err Trailing → cond b (Ok x) (Err Trailing) ≡ r
again true x r n e = absurd cc
again false x r n e = sym e

positive : (n : ℕ) → eqb n 0 ≡ false → 0 < n
positive n e = elim (cases_lt 0 n) [
  | inl lt ↦ lt
  | inr le ↦ absurd (let z : n ≡ 0 = omega arith in let t : eqb n 0 ≡ true = eq-eqb n 0 z in cc)
]

abbrev joined : Value → Result (List Value × List ℕ) Fault → Result (List Value × List ℕ) Fault
joined v r = r >>= λ others. Ok (v ∷ others.0, others.1)

abbrev whole : Result (List Value × List ℕ) Fault → Result (List Value) Fault
whole r = r >>= λ vs. cond (eqb (length vs.1) 0) (Ok vs.0) (Err Trailing)

abbrev firsts : List Kind → Result (Value × List ℕ) Fault → Result (List Value × List ℕ) Fault
firsts ks r = r >>= λ first. joined first.0 (values_at ks first.1)

-- what comes after a field that was read fails as a whole does
tail_err : (v : Value) (r : Result (List Value × List ℕ) Fault) (f : Fault) → whole (joined v r) ≡ Err f → whole r ≡ Err f
tail_err v (Err g) f e = e
tail_err v (Ok x) f e =
    let t = ended (eqb (length x.1) 0) (v ∷ x.0) f e in
    again (eqb (length x.1) 0) x.0 (Err f) t.0 (sym t.1)

step : (k : Kind) (ks : List Kind) (bytes : List ℕ) (f : Fault) (r : Result (Value × List ℕ) Fault) → IsBytes bytes → value_at k bytes ≡ r → whole (firsts ks r) ≡ Err f
    → ((rest : List ℕ) → IsBytes rest → whole (values_at ks rest) ≡ Err f → IsLeftmost ks rest f) → IsLeftmost (k ∷ ks) bytes f
step k ks bytes f (Err g) fits is e later = inl (is ∙ err_is g f e)
step k ks bytes f (Ok x) fits is e later =
    let t = value_takes k bytes x fits is in
    inr (x.0, x.1, t.1, t.0.parts, later x.1 t.0.rest_fits (tail_err x.0 (values_at ks x.1) f e))

trailing : (f : Fault) → failed {A = List Value} Trailing ≡ Err f → f ≡ Trailing
trailing f e = sym (let h : Trailing ≡ f = cc in h)

pub leftmost : (ks : List Kind) (bytes : List ℕ) (f : Fault) → IsBytes bytes → all_values ks bytes ≡ Err f → IsLeftmost ks bytes f
unfolding all_values values_at
leftmost [] bytes f fits e = let t = ended (eqb (length bytes) 0) [] f e in (positive (length bytes) t.0, trailing f t.1)
leftmost (k ∷ ks) bytes f fits e = step k ks bytes f (value_at k bytes) fits refl e (λ rest rest_fits failing. leftmost ks rest f rest_fits failing)

abbrev made : ℕ → Result (List Value) Fault → Result Message Fault
made op r = r >>= λ vs. Ok (record { op = op; values = vs })

made_err : (op : ℕ) (r : Result (List Value) Fault) (f : Fault) → made op r ≡ Err f → r ≡ Err f
made_err op (Err g) f e = err_is g f e
made_err op (Ok x) f e = absurd cc

unknown : (f : Fault) → failed {A = Message} UnknownOp ≡ Err f → f ≡ UnknownOp
unknown f e = sym (let h : UnknownOp ≡ f = cc in h)

short : (f : Fault) → failed {A = Message} Short ≡ Err f → f ≡ Short
short f e = sym (let h : Short ≡ f = cc in h)

with_fault : (o : Option (List Kind)) (op : ℕ) (rest : List ℕ) (f : Fault) → IsBytes rest → message_with o op rest ≡ Err f → MatchOption o (f ≡ UnknownOp) (λ ks. IsLeftmost ks rest f)
with_fault None op rest f fits e = unknown f e
with_fault (Some ks) op rest f fits e = leftmost ks rest f fits (made_err op (all_values ks rest) f e)

-- the fault that reading gives is the leftmost
pub fault_of_body : (lines : Fields) (body : List ℕ) (f : Fault) → IsBytes body → message_at lines body ≡ Err f → IsFaultOf lines body f
unfolding message_at message_behind
fault_of_body lines [] f fits e = short f e
fault_of_body lines (op ∷ rest) f fits e = with_fault (kinds_of lines op) op rest f (IsBytes-rest op rest fits) e

-- a whole fails as what comes after its first field does
tail_fails : (v : Value) (r : Result (List Value × List ℕ) Fault) (f : Fault) → whole r ≡ Err f → whole (joined v r) ≡ Err f
tail_fails v (Err g) f e = e
tail_fails v (Ok x) f e =
    let t = ended (eqb (length x.1) 0) x.0 f e in
    again (eqb (length x.1) 0) (v ∷ x.0) (Err f) t.0 (sym t.1)

not_empty : (n : ℕ) → 0 < n → eqb n 0 ≡ false
not_empty n lt = elim (bool_cases (eqb n 0)) [
  | inl is ↦ absurd (let z : n ≡ 0 = eqb-true n 0 is in omega arith)
  | inr is ↦ is
]

-- a leftmost fault is the one that reading meets
pub met : (ks : List Kind) (bytes : List ℕ) (f : Fault) → IsLeftmost ks bytes f → all_values ks bytes ≡ Err f
unfolding all_values values_at
met [] bytes f is = rw (not_empty (length bytes) is.0, is.1) refl
met (k ∷ ks) bytes f is =
    elim is [
      | inl here ↦ rw here refl
      | inr there ↦
          let reads : value_at k bytes ≡ Ok (there.0, there.1) = ap (value_at k) there.3 ∙ value_again k there.0 there.1 there.2 in
          ap (λ (r : Result (Value × List ℕ) Fault). whole (firsts ks r)) reads ∙ tail_fails there.0 (values_at ks there.1) f (met ks there.1 f there.4)
    ]

with_met : (o : Option (List Kind)) (op : ℕ) (rest : List ℕ) (f : Fault) → MatchOption o (f ≡ UnknownOp) (λ ks. IsLeftmost ks rest f) → message_with o op rest ≡ Err f
with_met None op rest f is = ap (failed {A = Message}) (sym is)
with_met (Some ks) op rest f is = ap (made op) (met ks rest f is)

-- and a body with a leftmost fault is refused for it
pub fault_is_met : (lines : Fields) (body : List ℕ) (f : Fault) → IsFaultOf lines body f → message_at lines body ≡ Err f
unfolding message_at message_behind
fault_is_met lines [] f is = ap (failed {A = Message}) (sym is)
fault_is_met lines (op ∷ rest) f is = with_met (kinds_of lines op) op rest f is
