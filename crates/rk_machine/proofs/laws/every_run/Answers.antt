use Rattle.rk_machine.proofs.OneConstruction.EachOnce.{each_once}
use Rattle.rk_machine.proofs.OneOutcome.EachOutcome.{each_outcome}
use Rattle.rk_machine.proofs.OwnAuthority.EachOwn.{each_own}
use Rattle.rk_machine.proofs.FirstRequester.EachRooted.{each_rooted}
use Rattle.rk_machine.proofs.NoCircle.NeverCircle.{never_circle}
use Rattle.rk_machine.proofs.NoCircle.NeverDeep.{never_deep}
use Rattle.rk_machine.proofs.EveryRun.EachEffectiveOrMisuse.{each_effective}
use Rattle.rk_machine.proofs.laws.every_run.Goals as goal

pub returns-clause-one_construction : goal.returns-clause-one_construction
returns-clause-one_construction c = each_once

pub returns-clause-one_outcome : goal.returns-clause-one_outcome
returns-clause-one_outcome c = each_outcome

pub returns-clause-own_authority : goal.returns-clause-own_authority
returns-clause-own_authority c = each_own

pub returns-clause-first_requester : goal.returns-clause-first_requester
returns-clause-first_requester c = each_rooted

pub returns-clause-no_circle : goal.returns-clause-no_circle
returns-clause-no_circle c = never_circle

pub returns-clause-no_deep_chain : goal.returns-clause-no_deep_chain
returns-clause-no_deep_chain c = never_deep

pub returns-clause-effective : goal.returns-clause-effective
returns-clause-effective c = each_effective
