use Rattle.std.proofs.Common.{◌∙◌}
use Rattle.rk_daemon.proofs.Keepings.{had_no_room, kept_it, was_refused}
use Rattle.rk_daemon.proofs.Stories.{no_value}
use Rattle.rk_daemon.proofs.record.keep.Goals as goal

pub returns-in_err-volume : goal.returns-in_err-volume
returns-in_err-volume g c = rw (no_value c.from_residual.result c.from_residual.ensures.0) (had_no_room _ _ _ _ _)

pub returns-in_err-unfinished : goal.returns-in_err-unfinished
returns-in_err-unfinished g c =
    rw (no_value c.from_residual-in_err-unfinished.result c.from_residual-in_err-unfinished.ensures.0) (had_no_room _ _ _ _ _)

pub returns-in_err-file : goal.returns-in_err-file
returns-in_err-file g c =
    rw (no_value c.from_residual-in_err-file.result c.from_residual-in_err-file.ensures.0)
    (was_refused _ _ _ _ _ _ _ (c.as_str-part.ensures.value ∙ c.in_ok-unfinished.ensures) c.in_err-file.ensures)

pub returns : goal.returns
returns g c =
    kept_it _ _ _ _ _ _ _ _ _ _ _ _ _ _ _ (c.as_str-part.ensures.value ∙ c.in_ok-unfinished.ensures)
    (c.as_str-path.ensures.value ∙ c.in_ok-volume.ensures) c.in_ok-file.ensures c.filled-sum.ensures c.named-kept.ensures c.remove.ensures
