use Rattle.rk_rejoin.proofs.Words.{map, string_bytes, take, Reads, AreRead}
use Rattle.rk_rejoin.proofs.reading.read_all.Given as goal

abbrev pub invariant-loop-file : goal.invariant-loop-file
invariant-loop-file g l = Reads (AreRead (map string_bytes (take l.file-index l.files)) l.volumes.items) (g.D.Disk.story l.fn.disk) (g.D.Disk.story l.disk)
