use Rattle.rk_keys.proofs.Words.{◌≡◌, None, take, list_find, is_of}
use Rattle.rk_keys.proofs.by_name.place_of.Given as goal

abbrev pub invariant-loop-place : goal.invariant-loop-place
invariant-loop-place l = list_find (is_of l.typ l.description) (take l.place l.names) ≡ None
