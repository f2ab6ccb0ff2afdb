use Rattle.std.proofs.Common.{sym}
use Rattle.rk_ctl.specs.Outcome.{looked, searched}
use Rattle.rk_ctl.specs.Surveys.{survey_by}
use Rattle.rk_ctl.proofs.run.search_words.Goals as goal

pub returns-in-Some-clause-done : goal.returns-in-Some-clause-done
returns-in-Some-clause-done g c =
    λ zero unread unread' told told'. let found = c.look.ensures.told zero in
    searched (survey_by c.in-Some.survey) found.0 (sym c.in-Some.ensures) found.2 found.1

pub returns-in-Some-clause-spoke : goal.returns-in-Some-clause-spoke
returns-in-Some-clause-spoke g c =
    let said = c.look.ensures.spoke in
    looked (survey_by c.in-Some.survey) said.0 (sym c.in-Some.ensures) said.1 said.2
