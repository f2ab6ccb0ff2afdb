use Rattle.std.proofs.Common.{◌≡◌, rules, true, false}
use Rattle.rk_daemon.proofs.Fillings.{filled_it, left_open}
use Rattle.rk_daemon.proofs.streams.stand_in.Goals as goal

pub returns-then-not-is_closed : goal.returns-then-not-is_closed
returns-then-not-is_closed g c = let unshut : c.is_closed.result ≡ false = search rules in left_open _ _ _ _ c.is_closed.ensures unshut

pub returns-in-Ok : goal.returns-in-Ok
returns-in-Ok g c = let shut : c.is_closed.result ≡ true = search rules in filled_it _ _ _ _ _ _ c.is_closed.ensures shut c.in-Ok.ensures

pub returns-in-Err : goal.returns-in-Err
returns-in-Err g c = let shut : c.is_closed.result ≡ true = search rules in filled_it _ _ _ _ _ _ c.is_closed.ensures shut c.in-Err.ensures
