-- An ask that completes a key, step by step.
use Rattle.rk_core.proofs.Words.{◌≡◌, ℕ, refl, sym, ap, ◌∙◌, ℤ, Option, Some, None, unwrap_or, Errno, Condition, World, tidied, done, first_of, Asker, Refused}
use Rattle.rk_core.proofs.Words.{serial_named, ring_for, own_refusal, ring_or_none_refusal, full_refusal, linked_in, completed, serial_in, completion_refusal}
use Rattle.rk_core.proofs.Words.{Completes, only_one, unless_none, unless_some}
use Rattle.std.specs.Prelude.{[], ◌∷◌}

pub serial_is : (key : ℤ) (k : ℕ) → serial_named key ≡ Some k → serial_in key ≡ k
serial_is key k is = ap (λ (o : Option ℕ). unwrap_or o 0) is

-- a refusal before the last one is the first
refused_before : (a b last : Option Errno) (e : Errno) → first_of (a ∷ b ∷ []) ≡ Some e → first_of (a ∷ b ∷ last ∷ []) ≡ Some e
refused_before None None last e h = absurd (cc)
refused_before None (Some x) last e h = h
refused_before (Some x) b last e h = h

-- without one before it, the last refusal decides
refused_last : (a b last : Option Errno) → first_of (a ∷ b ∷ []) ≡ None → first_of (a ∷ b ∷ last ∷ []) ≡ last
refused_last None None last h = only_one last
refused_last None (Some x) last h = absurd (cc)
refused_last (Some x) b last h = absurd (cc)

-- what may not be completed is refused
pub not_allowed : (w : World) (now : ℕ) (asker : Asker) (key r : ℤ) (condition : Condition) (end : Option ℕ) (e : Errno)
    → first_of (own_refusal asker (serial_named key) ∷ ring_or_none_refusal w asker r ∷ []) ≡ Some e
    → Completes w now asker key r condition end (Refused e) w
unfolding Completes
not_allowed w now asker key r condition end e h =
    unless_some (completion_refusal w asker key r) e w _ (refused_before (own_refusal asker (serial_named key)) (ring_or_none_refusal w asker r)
    (full_refusal w (ring_for w asker r) (serial_in key)) e h)

-- a key that is linked if it is wanted, completed and tidied is completed as the machine completes it
pub completes_so : (old : World) (now : ℕ) (asker : Asker) (key r : ℤ) (condition : Condition) (end : Option ℕ) (new : World) (k : ℕ)
    → first_of (own_refusal asker (serial_named key) ∷ ring_or_none_refusal old asker r ∷ []) ≡ None → serial_named key ≡ Some k
    → full_refusal old (ring_for old asker r) k ≡ None
    → new ≡ tidied (completed now k condition end (linked_in (ring_for old asker r) k old)) → Completes old now asker key r condition end done new
unfolding Completes
completes_so old now asker key r condition end new k none is room left =
    unless_none (completion_refusal old asker key r) old done new _
    (refused_last (own_refusal asker (serial_named key)) (ring_or_none_refusal old asker r) (full_refusal old (ring_for old asker r) (serial_in key)) none
    ∙ ap (full_refusal old (ring_for old asker r)) (serial_is key k is) ∙ room)
    (refl, left ∙ ap (λ j. tidied (completed now j condition end (linked_in (ring_for old asker r) j old))) (sym (serial_is key k is)))
