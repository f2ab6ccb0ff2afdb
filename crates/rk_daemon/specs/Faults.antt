-- Faults of the start.
use Rattle.std.specs.Prelude.{ℕ, List}
use Rattle.rk_conf.specs.Faults.{IsFaultFor}
use Rattle.rk_conf.specs.Reading.{faults_in}
use Rattle.rk_daemon.specs.declared.fault.Fault.{Fault}
use Rattle.rk_daemon.specs.declared.fault.Fault.TheVariants.{Unreadable, Conf, Random, Record, Recorded, Keyutils, Socket, Stream, NoMemory}

-- a fault of a configuration is the one that some text has; of the others nothing is said
abbrev pub IsFound : Fault → Type 0
IsFound (Unreadable error) = Unit {0}
IsFound (Conf fault) = (text : List ℕ) × IsFaultFor fault (faults_in text)
IsFound (Random error) = Unit {0}
IsFound (Record error) = Unit {0}
IsFound Recorded = Unit {0}
IsFound (Keyutils error) = Unit {0}
IsFound (Socket error) = Unit {0}
IsFound (Stream error) = Unit {0}
IsFound NoMemory = Unit {0}

-- it is of the configuration
abbrev pub IsOfConf : Fault → Type 0
IsOfConf (Unreadable error) = Unit {0}
IsOfConf (Conf fault) = (text : List ℕ) × IsFaultFor fault (faults_in text)
IsOfConf _ = ⊥

-- it is that there are no random bytes
abbrev pub IsRandom : Fault → Type 0
IsRandom (Random error) = Unit {0}
IsRandom _ = ⊥

-- it is of the folder of the record
abbrev pub IsOfRecord : Fault → Type 0
IsOfRecord (Record error) = Unit {0}
IsOfRecord Recorded = Unit {0}
IsOfRecord _ = ⊥
