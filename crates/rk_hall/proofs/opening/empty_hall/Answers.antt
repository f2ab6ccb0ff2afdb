use Rattle.std.proofs.Common.{ap, ◌∙◌}
use Rattle.rk_machine.specs.Owing.{constructions}
use Rattle.rk_machine.proofs.OwedSteps.EachRecorded.{no_constructions}
use Rattle.rk_record.specs.Record.{HallShown}
use Rattle.rk_hall.proofs.opening.empty_hall.Goals as goal

pub returns-clause-constructions : goal.returns-clause-constructions
returns-clause-constructions c = ap (λ (h : HallShown). constructions h.world) c.in_ok-hall.ensures ∙ no_constructions c.args.negative c.first_serial.result 4
