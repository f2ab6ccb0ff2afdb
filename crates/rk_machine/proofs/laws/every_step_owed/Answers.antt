use Rattle.rk_machine.proofs.OwedSteps.EachRecorded.{
  empty_owes,
  no_ends,
  no_constructions,
  reached_recording,
  owed_part,
  ends_part,
  constructions_owed,
  closes_there,
}
use Rattle.rk_machine.proofs.laws.every_step_owed.Goals as goal

pub returns-clause-beginning : goal.returns-clause-beginning
returns-clause-beginning c = λ negative first stride. (empty_owes negative first stride, no_ends negative first stride, no_constructions negative first stride)

pub returns-clause-steps : goal.returns-clause-steps
returns-clause-steps c = reached_recording

pub returns-clause-part : goal.returns-clause-part
returns-clause-part c = λ w s. (owed_part w s, ends_part w s)

pub returns-clause-constructions : goal.returns-clause-constructions
returns-clause-constructions c = constructions_owed

pub returns-clause-closing : goal.returns-clause-closing
returns-clause-closing c = closes_there
