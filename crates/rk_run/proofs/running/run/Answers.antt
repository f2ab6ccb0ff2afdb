use Rattle.rk_run.proofs.Stories.{saw_nothing, knew_nobody, had_no_library, heard_nothing, was_answered, was_trapped}
use Rattle.rk_run.proofs.running.run.Goals as goal

pub returns-in_default : goal.returns-in_default
returns-in_default g c = saw_nothing _ _ _ c.in_default.ensures

pub returns-in_default-socket_of : goal.returns-in_default-socket_of
returns-in_default-socket_of g c = knew_nobody _ _ _ _ c.in-Ok.ensures c.in_default-socket_of.ensures

pub returns-then-not-has : goal.returns-then-not-has
returns-then-not-has g c =
    had_no_library _ _ _ _ _ c.in-Some.ensures c.tool_of.ensures _ _ _ c.in-Ok.ensures c.has.ensures c.if-not-has.true

pub returns-in-Ok-greet : goal.returns-in-Ok-greet
returns-in-Ok-greet g c =
    was_answered _ _ _ _ _ c.in-Some.ensures c.tool_of.ensures _ c.hello_of.ensures c.if-not-has.false c.if-wanted.false _ _ _ _ _ _ _ _
    c.in-Ok.ensures c.has.ensures c.in-Ok-greet.ensures c.in_session-ended.ensures c.close.ensures

pub returns : goal.returns
returns g c =
    rw c.unheard.ensures
    (heard_nothing _ _ _ _ _ c.in-Some.ensures c.tool_of.ensures _ c.hello_of.ensures c.if-not-has.false c.if-wanted.false _ _ _ _ _
    c.in-Ok.ensures c.has.ensures c.in-Err.ensures)

pub returns-then-wanted : goal.returns-then-wanted
returns-then-wanted g c =
    was_trapped _ _ _ _ _ c.in-Some.ensures c.tool_of.ensures c.if-not-has.false c.if-wanted.true _ _ _ _ _
    c.in-Ok.ensures c.has.ensures c.by_trap.ensures
