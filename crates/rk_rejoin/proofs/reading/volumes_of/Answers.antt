use Rattle.rk_rejoin.proofs.Words.{rules, append-nil, sym, answers_always, rank_of}
use Rattle.rk_rejoin.proofs.Readings.{in_order, ran_out}
use Rattle.rk_rejoin.proofs.reading.volumes_of.Goals as goal

pub returns-clause-read : goal.returns-clause-read
returns-clause-read g c =
    in_order _ _ _ _ _ c.in_ok-volumes.ensures.read c.sort_by_key.ensures.permutation
    (c.in-Ok.ensures.sorted rank_of (answers_always _ _ _ (λ f a r h called. search rules)))

pub returns-in_default-clause-refused : goal.returns-in_default-clause-refused
returns-in_default-clause-refused g c = ran_out _ _ _ _ _ _ (sym (append-nil _)) c.in_ok-volumes.ensures.read
