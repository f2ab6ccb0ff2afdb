use Rattle.rk_keys.proofs.Words.{rules}
use Rattle.std.proofs.lemmas.Fn.{filter_same}
use Rattle.rk_keys.proofs.by_name.take_name_out.Goals as goal

pub returns : goal.returns
returns c = filter_same _ _ _ (λ x b f' k. search rules) _ _ c.retain.ensures.filtered
