-- Which serials were drawn.
use Rattle.rk_machine.proofs.Words.{nat_cmp_total, nat_eq, ◌≡◌, ℕ, Bool, true, refl, ap, ◌∙◌, ◌||◌, eq-eqb, tie, World, drawn}
use Rattle.std.specs.FinSet as set

-- the serial was drawn
abbrev pub is_drawn : World → ℕ → Bool
is_drawn w q = set.contains w.serials.used q

-- drawing a serial adds it to those that were drawn
pub drawn_is : (k : ℕ) (w : World) (q : ℕ) → is_drawn (drawn k w) q ≡ (nat_eq k q || is_drawn w q)
drawn_is k w q = set.contains-insert nat_cmp_total w.serials.used k q ∙ ap (λ b. b || is_drawn w q) (tie q k)

-- a serial that was drawn is drawn
pub drawn_now : (k : ℕ) (w : World) → is_drawn (drawn k w) k ≡ true
drawn_now k w = drawn_is k w k ∙ ap (λ b. b || is_drawn w k) (eq-eqb k k refl)
