use Rattle.std.proofs.Common.{◌-◌, ◌≤◌, vec_len}
use Rattle.rk_record.proofs.journal.make_rooms.Given as goal

abbrev pub decreases-loop-alloc : goal.decreases-loop-alloc
decreases-loop-alloc l = l.count - vec_len l.rooms

abbrev pub invariant-loop-alloc : goal.invariant-loop-alloc
invariant-loop-alloc l = vec_len l.fn.rooms ≤ vec_len l.rooms
