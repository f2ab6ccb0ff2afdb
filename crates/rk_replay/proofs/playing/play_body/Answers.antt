use Rattle.rk_replay.proofs.Bodies.{plays_none}
use Rattle.rk_replay.proofs.playing.play_body.Goals as goal

pub returns-in_default : goal.returns-in_default
returns-in_default c = plays_none _ _ _ _ _ c.in_default.is
