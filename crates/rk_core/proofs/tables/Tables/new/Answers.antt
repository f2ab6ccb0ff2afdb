use Rattle.rk_core.proofs.Words.{◌≡◌, ℕ, sym, ap, ◌∙◌, Some, None, nat_cmp, Known, Numbered, Rings, rings_seen, rings_seen-empty, NumbersAgree}
use Rattle.std.specs.FinMap as map
use Rattle.rk_core.proofs.tables.Tables.new.Goals as goal

nothing : (rings : Rings) (ring : ℕ) (r : Numbered) → rings ≡ map.empty → map.get rings ring ≡ Some r → ⊥
nothing rings ring r is e = let h : None ≡ Some r = sym (ap (λ (m : Rings). map.get m ring) is ∙ map.get-empty nat_cmp ring) ∙ e in absurd (cc)

empty_kept : (known : Known) (rings : Rings) → rings ≡ map.empty → NumbersAgree known rings
empty_kept known rings is = record { numbered = λ ring k n r e h. absurd (nothing rings ring r is e) }

pub invariant_of-result : goal.invariant_of-result
invariant_of-result c = empty_kept c.in_ok-keys.keys c.new-3.result c.new-3.ensures

pub returns : goal.returns
returns c = λ i. record {
  negative = c.args.limits.negative;
  keys = (ap (λ (k : Known). k.keys) c.in_ok-keys.ensures) i;
  rings = (ap rings_seen c.new-3.ensures ∙ rings_seen-empty) i;
  serials = (ap (λ (k : Known). k.serials) c.in_ok-keys.ensures) i;
  sessions = c.in_ok-auths.ensures i;
}
