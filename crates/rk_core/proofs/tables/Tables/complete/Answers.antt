use Rattle.rk_core.proofs.Words.{◌≡◌, ℕ, cond, true, false, sym, ap, ◌∙◌, refl, Option, Some, None, is_some, option_map, option_map_or, option_copied, nat_cmp}
use Rattle.rk_core.proofs.Words.{both_ways, changed_at, Key, Condition, Known, concluded, Outcome, Sessions, spent, all_told, World, world_of, outcome_of}
use Rattle.rk_core.proofs.Words.{completed, announced, get_changed_at}
use Rattle.std.specs.FinMap as map
use Rattle.rk_core.proofs.LinksAndNames.LinksAfter.{tied_itself}
use Rattle.rk_core.proofs.tables.Tables.complete.Goals as goal

-- a key that is there is completed, and its waits get the outcome
done_as : (w : World) (now k : ℕ) (condition : Condition) (end : Option ℕ) (keys : map.FinMap nat_cmp Key) (sessions : Sessions) (key : Key) (outcome : Outcome)
    → keys ≡ changed_at k (concluded condition end) w.keys → map.get keys k ≡ Some key → outcome ≡ outcome_of k key now
    → sessions ≡ all_told k outcome (spent k w.sessions)
    → ◌≡◌ {A = World} (record w { keys = keys; sessions = sessions }) (completed now k condition end w)
done_as w now k condition end keys sessions key outcome is there told all =
    (λ i. record w {
      keys = keys;
      sessions = (all ∙ ap (λ o. all_told k o (spent k w.sessions)) told
          ∙ ap (λ o. option_map_or (λ (x : Key). all_told k (outcome_of k x now) (spent k w.sessions)) o (spent k w.sessions)) (sym there)) i;
    })
    ∙ (λ i. record w { keys = is i; sessions = announced now k (is i) (spent k w.sessions) })

pub returns-in-Some : goal.returns-in-Some
returns-in-Some c =
    let before : World = world_of c.self.inside.negative c.self.inside.keys c.self.inside.rings c.self.inside.auths.sessions in
    (λ i. world_of c.self.inside.negative (record c.complete.new.self {
      serials = (ap
          (λ (k : Known). k.serials) c.complete.ensures) i;
    }) c.self.inside.rings c.spend.new.self.sessions)
    ∙ done_as before c.args.now c.args.key c.args.condition c.args.end c.complete.new.self.keys c.spend.new.self.sessions c.in-Some.fact.now
    c.outcome_of-outcome.result
    (ap (λ (k : Known). k.keys) c.complete.ensures) (sym c.in-Some.ensures) c.outcome_of-outcome.ensures c.spend.ensures.sessions
    ∙ ap (completed c.args.now c.args.key c.args.condition c.args.end) c.self.view_is

still_there : (keys : map.FinMap nat_cmp Key) (k : ℕ) (f : Key → Key) → map.contains_key keys k ≡ true → map.get (changed_at k f keys) k ≡ None → ⊥
still_there keys k f there none =
    by_key (map.get keys k) there (sym (get_changed_at k f keys k ∙ ap (λ b. cond b (option_map f (map.get keys k)) (map.get keys k)) (tied_itself k)) ∙ none)
  where
    by_key : (o : Option Key) → is_some o ≡ true → option_map f o ≡ None → ⊥
    by_key None h e = both_ways false refl h
    by_key (Some key) h e = let no : Some (f key) ≡ None = e in absurd (cc)

pub returns-in_default : goal.returns-in_default
returns-in_default c = absurd (
    still_there c.self.inside.keys.keys c.args.key (concluded c.args.condition c.args.end)
    (ap (λ (w : World). map.contains_key w.keys c.args.key) c.self.view_is ∙ c.requires)
    (sym (ap (λ (k : Known). map.get k.keys c.args.key) c.complete.ensures) ∙ sym c.fact.ensures ∙ ap option_copied c.in_default.is))
