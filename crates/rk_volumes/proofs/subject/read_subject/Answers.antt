use Rattle.rk_volumes.proofs.Subjects.{words_of, not_bad, no_subject_ask, no_subject_names}
use Rattle.rk_volumes.proofs.subject.read_subject.Goals as goal

pub returns-in_err-ask-clause-none : goal.returns-in_err-ask-clause-none
returns-in_err-ask-clause-none c =
    let p = c.in-Some.party in
    λ bad. no_subject_ask c.args.bytes.now c.in-Some.rest.now p.key p.uid p.gid p.thread p.process p.session
    (words_of _ _ _ _ _ _ c.in-Some.ensures.words) c.in-Some.ensures.found
    (λ a is eq. not_bad c.in_err-ask.field-0.0 c.from_residual.result c.from_residual.ensures.1 bad (c.in_err-ask.ensures.only a is eq))

pub returns-in_default-names_of-clause-none : goal.returns-in_default-names_of-clause-none
returns-in_default-names_of-clause-none c =
    let p = c.in-Some.party in
    λ _. no_subject_names c.args.bytes.now c.in-Some.rest.now p.key p.uid p.gid p.thread p.process p.session
    (words_of _ _ _ _ _ _ c.in-Some.ensures.words) c.in-Some.ensures.found c.in_ok-ask.ask c.in_ok-ask.ensures.found.0 c.in_ok-ask.ensures.found.1
    c.in_default-names_of.ensures
