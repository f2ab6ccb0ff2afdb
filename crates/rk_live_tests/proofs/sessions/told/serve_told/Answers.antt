use Rattle.std.proofs.Common.{map, refl, ap}
use Rattle.std.specs.Prelude.{Some, false}
use Rattle.rk_names.specs.declared.numbers.SessionId.TheVariants.{Client}
use Rattle.rk_live_tests.specs.Telling.{happened}
use Rattle.rk_live_tests.proofs.sessions.Talks.{is_talk}
use Rattle.rk_live_tests.proofs.sessions.told.serve_told.Goals as goal

pub returns : goal.returns
returns g c =
    is_talk (Client c.args.client) c.serve.result c.args.crew.now.caller.seat c.serve.new.crew.caller.seat
    (record { count = 0; reads = c.args.wire.now.reads; kept = false; cut = false; story = Some (map happened c.args.wire.now.kept.items) })
    (record { count = 0; reads = c.serve.new.wire.reads; kept = false; cut = false; story = Some (map happened c.serve.new.wire.kept.items) })
    (map happened c.serve.new.wire.kept.items) (ap (λ items. Some (map happened items)) c.requires.first) refl c.serve.ensures.talked
