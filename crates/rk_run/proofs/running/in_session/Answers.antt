use Rattle.rk_run.proofs.Stories.{was_turned_away, had_no_room, did_try}
use Rattle.rk_run.proofs.running.in_session.Goals as goal

pub returns-in-Err : goal.returns-in-Err
returns-in-Err g c = was_turned_away _ _ _ _ _ _ c.in-Err.ensures

pub returns-in_default : goal.returns-in_default
returns-in_default g c = had_no_room _ _ _ _ _ _ c.in-Ok.ensures

pub returns : goal.returns
returns g c = did_try _ _ _ _ _ _ _ _ _ c.in-Ok.ensures c.in-Ok-made_in.ensures c.started.ensures
