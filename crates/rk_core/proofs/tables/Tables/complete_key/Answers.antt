use Rattle.rk_core.proofs.Words.{◌≡◌, ℕ, Bool, false, ◌||◌, refl, sym, ap, ◌∙◌, subst, w32, to_z, of_z, Option, None, nat_eq, option_map_or, to_z-of_z}
use Rattle.rk_core.proofs.Words.{err_from_is_err_and, World, tidied, Asker, first_of, full_refusal, linked_in, serial_named, ring_for, own_refusal}
use Rattle.rk_core.proofs.Words.{ring_or_none_refusal, Completes, completed, StayBut}
use Rattle.std.specs.Prelude.{[], ◌∷◌}
use Rattle.rk_core.proofs.Vanishing.WhichMayVanish.{link_stay, completed_stay}
use Rattle.rk_core.proofs.Completions.CompletionByParts.{completes_so, not_allowed}
use Rattle.rk_core.proofs.tables.Tables.complete_key.Goals as goal

pub returns-in_err-key : goal.returns-in_err-key
returns-in_err-key c =
    let w : World = c.args.self.now in
    let asker : Asker = c.args.asker.now in
    let number : to_z w32 (of_z w32 c.args.number) ≡ c.args.number = to_z-of_z w32 c.args.number c.ranges.number in
    let ring : to_z w32 (of_z w32 c.args.ring) ≡ c.args.ring = to_z-of_z w32 c.args.ring c.ranges.ring in
    let error = err_from_is_err_and c.from_residual.result c.from_residual.ensures.1 in
    rw (error.1, error.2)
    (not_allowed w c.args.now asker c.args.number c.args.ring c.args.completion.condition c.args.completion.expiry _
    ((λ i. first_of (own_refusal asker (serial_named (sym number i)) ∷ ring_or_none_refusal w asker (sym ring i) ∷ [])) ∙ c.in_err-key.ensures))

pub let_both_vanish-requires : goal.let_both_vanish-requires
let_both_vanish-requires c =
    let w : World = c.args.self.now in
    let k : ℕ = c.in_ok-key.key in
    let some : ℕ → Bool = λ j. option_map_or (λ r. nat_eq j r) c.in_ok-rival.rival false in
    subst (StayBut (λ j. some j || nat_eq j k))
    (sym (c.complete.ensures ∙ ap (completed c.args.now k c.args.completion.condition c.args.completion.expiry) c.in_ok-rival.ensures.1))
    (completed_stay (linked_in c.in_ok-key.ring k w) c.args.now k c.args.completion.condition c.args.completion.expiry some
    (link_stay w c.in_ok-key.ring k some c.in_ok-rival.ensures.2 (λ j key there _. c.requires.sound.tidy j key there refl)))

pub returns : goal.returns
returns c =
    let w : World = c.args.self.now in
    let asker : Asker = c.args.asker.now in
    let k : ℕ = c.in_ok-key.key in
    let number : to_z w32 (of_z w32 c.args.number) ≡ c.args.number = to_z-of_z w32 c.args.number c.ranges.number in
    let ring : to_z w32 (of_z w32 c.args.ring) ≡ c.args.ring = to_z-of_z w32 c.args.ring c.ranges.ring in
    let place : c.in_ok-key.ring ≡ ring_for w asker c.args.ring = sym c.in_ok-key.ensures.0.2 ∙ ap (ring_for w asker) ring in
    subst (λ a. Completes w c.args.now asker c.args.number c.args.ring c.args.completion.condition c.args.completion.expiry a c.let_both_vanish.new.self) (sym c.done.ensures)
    (completes_so w c.args.now asker c.args.number c.args.ring c.args.completion.condition c.args.completion.expiry c.let_both_vanish.new.self k
    ((λ i. first_of (own_refusal asker (serial_named (sym number i)) ∷ ring_or_none_refusal w asker (sym ring i) ∷ [])) ∙ c.in_ok-key.ensures.1)
    (ap serial_named (sym number) ∙ c.in_ok-key.ensures.0.0)
    (subst (λ (o : Option ℕ). full_refusal w o k ≡ None) place c.in_ok-rival.ensures.0)
    (c.let_both_vanish.ensures ∙ ap tidied (c.complete.ensures ∙ ap (completed c.args.now k c.args.completion.condition c.args.completion.expiry)
    (c.in_ok-rival.ensures.1 ∙ ap (λ (o : Option ℕ). linked_in o k w) place))))
