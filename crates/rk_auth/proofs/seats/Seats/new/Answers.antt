use Rattle.rk_auth.proofs.Words.{◌∙◌, ap, sym, ◌≡◌, subst, ℕ, arith, none-some, nat_cmp, client_of, construction_of, IsTied}
use Rattle.std.specs.FinMap as map
use Rattle.rk_auth.proofs.Seated.{views, tied_first, nothing_seen}
use Rattle.rk_auth.proofs.seats.Seats.new.Goals as goal

pub invariant_of-result : goal.invariant_of-result
invariant_of-result c =
    let none : map.len c.new.result.facts ≡ 0 = ap map.len c.new.ensures ∙ map.len-empty nat_cmp ℕ in
    record {
      tied = subst (λ m. IsTied m c.new.result.facts c.put-nobody.result) (sym c.put-nobody.ensures.facts)
          (tied_first c.in_ok-slots.slots.facts c.new.result.facts c.put-nobody.result c.in_ok-slots.ensures.empty c.new.ensures);
      names = λ n i is. absurd (none-some i (sym (ap (λ x. map.get x n) c.in_ok-clients.ensures.empty ∙ map.get-empty nat_cmp n) ∙ is));
      few = omega (arith, c.in_ok-clients.ensures.len);
      in_clients = omega (arith, c.in_ok-clients.ensures.len, c.in_ok-clients.ensures.room);
      fits = omega (arith, none);
      in_constructions = omega arith;
      in_slots = omega (arith, c.put-nobody.ensures.room, c.in_ok-slots.ensures.room, c.in_ok-clients.ensures.len, none);
    }

pub returns : goal.returns
returns c =
    views (nothing_seen construction_of c.put-nobody.new.self.facts c.new.result.facts c.new.ensures)
    (nothing_seen client_of c.put-nobody.new.self.facts c.in_ok-clients.clients.facts c.in_ok-clients.ensures.empty)
