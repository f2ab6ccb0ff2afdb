use Rattle.rk_keys.proofs.Words.{◌∙◌, ap, refl, taken_out, names_at}
use Rattle.std.specs.FinMap as map
use Rattle.rk_keys.proofs.Kept.{names_pushed, names_back}
use Rattle.rk_keys.proofs.naming.put_in.Goals as goal

pub insert-requires-clause-new : goal.insert-requires-clause-new
insert-requires-clause-new c = ap (λ m. map.get m c.args.hash) c.bucket_at-bucket.ensures.facts ∙
    taken_out c.reserve.new.self.facts c.args.hash c.args.hash refl

pub insert-requires-in-Err-clause-new : goal.insert-requires-in-Err-clause-new
insert-requires-in-Err-clause-new c = ap (λ m. map.get m c.args.hash) c.bucket_at-bucket.ensures.facts ∙
    taken_out c.reserve.new.self.facts c.args.hash c.args.hash refl

pub returns-in-Ok-clause-ok : goal.returns-in-Ok-clause-ok
returns-in-Ok-clause-ok c h =
    ap (λ m. names_at m h) (c.insert.ensures.facts ∙ ap (λ m. map.insert m c.args.hash c.push.new.self) c.bucket_at-bucket.ensures.facts)
    ∙ ap (λ m. names_at (map.insert (map.remove m c.args.hash) c.args.hash c.push.new.self) h) c.reserve.ensures.facts
    ∙ names_pushed c.args.by_name.now.facts c.args.hash c.args.named c.bucket_at-bucket.result c.push.new.self
    (c.bucket_at-bucket.ensures.bucket ∙ ap (λ m. names_at m c.args.hash) c.reserve.ensures.facts) c.in-Ok.ensures.ok h

pub returns-in-Err-clause-err : goal.returns-in-Err-clause-err
returns-in-Err-clause-err c h =
    ap (λ m. names_at m h) (c.insert-in-Err.ensures.facts ∙ ap (λ m. map.insert m c.args.hash c.push.new.self) c.bucket_at-bucket.ensures.facts)
    ∙ ap (λ m. names_at (map.insert (map.remove m c.args.hash) c.args.hash c.push.new.self) h) c.reserve.ensures.facts
    ∙ names_back c.args.by_name.now.facts c.args.hash c.push.new.self
    (c.in-Err.ensures.err ∙ c.bucket_at-bucket.ensures.bucket ∙ ap (λ m. names_at m c.args.hash) c.reserve.ensures.facts) h
