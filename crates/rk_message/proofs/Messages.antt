-- What is read is spelled so, and what is spelled so is read.
use Rattle.rk_message.proofs.Words.{◌≡◌, ap, refl, ℕ, sym, List, ◌∙◌, ◌∷◌, Option, Some, None, Ok, Err, subst, length, [], cond, eqb, ◌++◌, append_assoc}
use Rattle.rk_message.proofs.Words.{eqb-true, append-nil, nil_from_length, flat_map-cons, flat_map, IsSomeAnd, ◌>>=◌, message_with, message_at, value_at}
use Rattle.rk_message.proofs.Words.{values_at, all_values, message_behind, Message, Value, spelling, Kind, Fields, kinds_of, IsMessage, AreValues, spelled}
use Rattle.rk_message.proofs.Words.{Trailing}
use Rattle.rk_message.proofs.Numbers.{IsBytes, IsBytes-rest, bind_ok, passed_ok, ok_is, Takes, Takes-then}
use Rattle.rk_message.proofs.Fields.{value_takes, value_again}

values_take : (ks : List Kind) (bytes : List ℕ) (x : List Value × List ℕ) → IsBytes bytes → values_at ks bytes ≡ Ok x → Takes bytes (flat_map spelled x.0) x.1 × AreValues ks x.0
unfolding values_at
values_take [] bytes x fits e =
    let made : List Value × List ℕ = ([], bytes) in
    subst (λ (y : List Value × List ℕ). Takes bytes (flat_map spelled y.0) y.1 × AreValues [] y.0) (ok_is made x e) (record { parts = refl; rest_fits = fits }, tt)
values_take (k ∷ ks) bytes x fits e =
    let a = bind_ok (value_at k bytes) (λ first. values_at ks first.1 >>= λ others. Ok (first.0 ∷ others.0, others.1)) x e in
    let b = bind_ok (values_at ks a.0.1) (λ others. Ok (a.0.0 ∷ others.0, others.1)) x a.2 in
    let first = value_takes k bytes a.0 fits a.1 in
    let second = values_take ks a.0.1 b.0 first.0.rest_fits b.1 in
    let both = Takes-then bytes (spelled a.0.0) a.0.1 (flat_map spelled b.0.0) b.0.1 first.0 second.0 in
    let made : List Value × List ℕ = (a.0.0 ∷ b.0.0, b.0.1) in
    subst (λ (y : List Value × List ℕ). Takes bytes (flat_map spelled y.0) y.1 × AreValues (k ∷ ks) y.0) (ok_is made x b.2) (rw flat_map-cons both, (first.1, second.1))

values_again : (ks : List Kind) (vs : List Value) (rest : List ℕ) → AreValues ks vs → values_at ks (flat_map spelled vs ++ rest) ≡ Ok (vs, rest)
unfolding values_at
values_again [] [] rest fits = refl
values_again [] (v ∷ vs) rest fits = absurd fits
values_again (k ∷ ks) [] rest fits = absurd fits
values_again (k ∷ ks) (v ∷ vs) rest fits =
    let regrouped : flat_map spelled (v ∷ vs) ++ rest ≡ spelled v ++ (flat_map spelled vs ++ rest) = ap (λ (x : List ℕ). x ++ rest) (flat_map-cons spelled v vs) ∙ append_assoc (spelled v) (flat_map spelled vs) rest in
    ap (values_at (k ∷ ks)) regrouped ∙ rw (value_again k v (flat_map spelled vs ++ rest) fits.0, values_again ks vs rest fits.1) refl

pub all_take : (ks : List Kind) (bytes : List ℕ) (vs : List Value) → IsBytes bytes → all_values ks bytes ≡ Ok vs → (bytes ≡ flat_map spelled vs) × AreValues ks vs
unfolding all_values
all_take ks bytes vs fits e =
    let a = bind_ok (values_at ks bytes) (λ x. cond (eqb (length x.1) 0) (Ok x.0) (Err Trailing)) vs e in
    let g = passed_ok (eqb (length a.0.1) 0) Trailing a.0.0 vs a.2 in
    let t = values_take ks bytes a.0 fits a.1 in
    let nothing : a.0.1 ≡ [] = nil_from_length a.0.1 (eqb-true _ _ g.0) in
    let whole : bytes ≡ flat_map spelled a.0.0 = t.0.parts ∙ ap (λ (r : List ℕ). flat_map spelled a.0.0 ++ r) nothing ∙ append-nil (flat_map spelled a.0.0) in
    subst (λ (y : List Value). (bytes ≡ flat_map spelled y) × AreValues ks y) g.1 (whole, t.1)

all_again : (ks : List Kind) (vs : List Value) → AreValues ks vs → all_values ks (flat_map spelled vs) ≡ Ok vs
unfolding all_values
all_again ks vs fits =
    let rest : values_at ks (flat_map spelled vs) ≡ Ok (vs, []) = ap (values_at ks) (sym (append-nil (flat_map spelled vs))) ∙ values_again ks vs [] fits in
    rw rest refl

with_takes : (o : Option (List Kind)) (op : ℕ) (bytes : List ℕ) (m : Message) → IsBytes bytes → message_with o op bytes ≡ Ok m
    → (op ∷ bytes ≡ spelling m) × (m.op ≡ op) × IsSomeAnd o (λ ks. AreValues ks m.values)
with_takes None op bytes m fits e = absurd cc
with_takes (Some ks) op bytes m fits e =
    let a = bind_ok (all_values ks bytes) (λ vs. Ok (record { op = op; values = vs })) m e in
    let t = all_take ks bytes a.0 fits a.1 in
    let made : Message = record { op = op; values = a.0 } in
    subst (λ (y : Message). (op ∷ bytes ≡ spelling y) × (y.op ≡ op) × AreValues ks y.values) (ok_is made m a.2) (ap (λ (w : List ℕ). op ∷ w) t.0, refl, t.1)

-- what is read is spelled by all of the bytes
pub message_takes : (lines : Fields) (bytes : List ℕ) (m : Message) → IsBytes bytes → message_at lines bytes ≡ Ok m → (bytes ≡ spelling m) × IsMessage lines m
unfolding message_at message_behind
message_takes lines [] m fits e = absurd cc
message_takes lines (op ∷ rest) m fits e =
    let t = with_takes (kinds_of lines op) op rest m (IsBytes-rest op rest fits) e in
    (t.0, subst (λ (n : ℕ). IsSomeAnd (kinds_of lines n) (λ ks. AreValues ks m.values)) (sym t.1) t.2)

with_again : (o : Option (List Kind)) (m : Message) → IsSomeAnd o (λ ks. AreValues ks m.values) → message_with o m.op (flat_map spelled m.values) ≡ Ok m
with_again None m is = absurd is
with_again (Some ks) m is = rw (all_again ks m.values is) refl

-- what spells a message of the table is read as it
pub message_again : (lines : Fields) (m : Message) → IsMessage lines m → message_at lines (spelling m) ≡ Ok m
unfolding message_at message_behind
message_again lines m is = with_again (kinds_of lines m.op) m is
