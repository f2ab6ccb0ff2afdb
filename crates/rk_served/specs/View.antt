-- What a caller sees of a replay.
use Rattle.std.specs.Prelude.{Bool, List, Option, Some, None, Result, Ok, Err, refl}
use Rattle.std.specs.Coded.{Coded, code_by, coded×, coded_list, coded_bool}
use Rattle.rk_conf.specs.declared.line.Line.{Line}
use Rattle.rk_conf.specs.contracts.line.Line as line
use Rattle.rk_machine.specs.World.{World, world_code}
use Rattle.rk_served.specs.declared.output.Output.{Output}
use Rattle.rk_served.specs.declared.peer.Peer.{Peer}
use Rattle.rk_served.specs.contracts.peer.Peer as peer
use Rattle.rk_served.specs.declared.fault.TakeFault.{TakeFault}
use Rattle.rk_served.specs.declared.fault.TakeFault.TheVariants.{Unknown, NoMemory}
use Rattle.rk_served.specs.Left.{Left}

-- the lines of the configuration, what is left, and whether memory was refused
pub record View : Type 0 where
  pub conf : List Line
  pub left : Left
  pub broken : Bool

-- a view as its four parts in a row, the form in which a model of a struct sees it
abbrev pub view_code : Coded View
view_code =
    code_by (List Line × (World × (List Peer × Bool)))
    (coded× (coded_list line.the_row.coded) (coded× world_code (coded× (coded_list peer.the_row.coded) coded_bool)))
    (λ v. (v.conf, (v.left.world, (v.left.peers, v.broken))))
    (λ p. record { conf = p.0; left = record { world = p.1.0; peers = p.1.1.0 }; broken = p.1.1.1 })
    (λ _. refl)

-- what a call returned: the outputs, or that the happening was out of place. Nothing, when out of memory
abbrev pub told : Result (List Output) TakeFault → Option (Option (List Output))
told (Ok outputs) = Some (Some outputs)
told (Err Unknown) = Some None
told (Err NoMemory) = None
