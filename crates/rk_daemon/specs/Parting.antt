-- How a session has ended, as a line of the log.
use Rattle.std.specs.Prelude.{ℕ, List, codes}
use Rattle.rk_session.specs.declared.serving.Served.{Served}
use Rattle.rk_session.specs.declared.serving.Served.TheVariants.{Ended, NotOpened, ReadFault, WriteFault, Malformed, TurnsUsed, Behind}

-- what the log says of a session that has ended so
abbrev pub parting_text : Served → List ℕ
parting_text Ended = codes "ended"
parting_text NotOpened = codes "not served, since memory ran out or the record of hall 0 is full"
parting_text ReadFault = codes "it could not be read"
parting_text WriteFault = codes "a reply could not be written"
parting_text Malformed = codes "what it sent is no frame"
parting_text TurnsUsed = codes "its 1048576 reads are used up"
parting_text Behind = codes "its worker has seen more of a hall than there is, please report this"
