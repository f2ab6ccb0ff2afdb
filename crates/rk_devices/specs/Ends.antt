-- What is reported of the end of a launch.
use Rattle.rk_machine.specs.declared.event.How.{How}
use Rattle.rk_machine.specs.declared.event.How.TheVariants.{Exit, Fault}
use Rattle.rk_devices.specs.declared.driven.Driven.{Driven}
use Rattle.rk_devices.specs.declared.driven.Driven.TheVariants.{Ended, NoPayload}

-- how it has ended, or that it failed
abbrev pub told_end : Driven → How
told_end (Ended how) = how
told_end (NoPayload fault) = Exit 0
told_end _ = Fault
