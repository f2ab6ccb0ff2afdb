use Rattle.rk_core.proofs.Words.{◌≡◌, false, sym, subst, rules, w32, MatchBool, to_z-of_z, is_authority, TellsCallout, ReadsKey, answer_of}
use Rattle.rk_core.proofs.tables.Tables.read.Goals as goal

pub returns-else-number-eqminus7 : goal.returns-else-number-eqminus7
returns-else-number-eqminus7 c =
    let w = c.args.self.now in
    let other : is_authority c.args.number ≡ false = search rules in
    subst (λ b. MatchBool b (TellsCallout w c.args.id.now (answer_of c.read_key.result) w)
    (ReadsKey w c.args.now c.args.asker.now c.args.number (answer_of c.read_key.result) w)) (sym other)
    (subst (λ n. ReadsKey w c.args.now c.args.asker.now n (answer_of c.read_key.result) w) (to_z-of_z w32 c.args.number c.ranges.number) c.read_key.ensures)
