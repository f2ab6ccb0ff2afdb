use Rattle.rk_table.proofs.Words.{rules}
use Rattle.std.proofs.lemmas.List.Sorted.{answers_always}
use Rattle.rk_table.proofs.Found.{searched}
use Rattle.rk_table.proofs.places.place_of.Goals as goal

pub returns : goal.returns
returns g c =
    let facts = c.binary_search_by_key.ensures in
    let by_key = facts.position (λ e. e.0) (answers_always _ _ _ (λ f a r h called. search rules)) in
    let found = searched c.args.entries.now c.args.key c.requires.rising _ facts.bound by_key in
    record { found = found.0; absent = found.1 }
