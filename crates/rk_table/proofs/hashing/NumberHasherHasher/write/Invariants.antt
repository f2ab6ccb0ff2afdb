use Rattle.rk_table.proofs.Words.{◌≡◌, take, fold}
use Rattle.rk_table.specs.Hashed.{byte_more}
use Rattle.rk_table.proofs.hashing.NumberHasherHasher.write.Given as goal

abbrev pub invariant-loop-byte : goal.invariant-loop-byte
invariant-loop-byte l = l.self.0 ≡ fold byte_more l.initial.self.0 (take l.byte-index l.bytes)
