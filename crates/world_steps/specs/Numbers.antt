-- The numbers and the names of the reasons why a step is refused, as programs print them.
use Rattle.std.specs.Prelude.{ℕ, List, codes}
use Rattle.world_steps.specs.declared.refusal.Refusal.{Refusal}
use Rattle.world_steps.specs.declared.refusal.Refusal.TheVariants.{NoSuchReplica, NoSuchClient}
use Rattle.world_steps.specs.declared.refusal.Refusal.TheVariants.{ClientTaken, ClientStopped}
use Rattle.world_steps.specs.declared.refusal.Refusal.TheVariants.{ClientBusy, NothingToSend}
use Rattle.world_steps.specs.declared.refusal.Refusal.TheVariants.{NotInFlight, NotReady}
use Rattle.world_steps.specs.declared.refusal.Refusal.TheVariants.{ReplicaDown, ReplicaUp}
use Rattle.world_steps.specs.declared.refusal.Refusal.TheVariants.{CopiesFull, OpsFull, FlightsFull}
use Rattle.world_steps.specs.declared.refusal.Refusal.TheVariants.{Memory}

-- the number of a reason
abbrev pub refusal_number : Refusal → ℕ
refusal_number NoSuchReplica = 1
refusal_number NoSuchClient = 2
refusal_number ClientTaken = 3
refusal_number ClientStopped = 4
refusal_number ClientBusy = 5
refusal_number NothingToSend = 6
refusal_number NotInFlight = 7
refusal_number NotReady = 8
refusal_number ReplicaDown = 9
refusal_number ReplicaUp = 10
refusal_number CopiesFull = 11
refusal_number OpsFull = 12
refusal_number FlightsFull = 13
refusal_number Memory = 15

-- the name of a reason
abbrev pub refusal_name : Refusal → List ℕ
refusal_name NoSuchReplica = codes "NoSuchReplica"
refusal_name NoSuchClient = codes "NoSuchClient"
refusal_name ClientTaken = codes "ClientTaken"
refusal_name ClientStopped = codes "ClientStopped"
refusal_name ClientBusy = codes "ClientBusy"
refusal_name NothingToSend = codes "NothingToSend"
refusal_name NotInFlight = codes "NotInFlight"
refusal_name NotReady = codes "NotReady"
refusal_name ReplicaDown = codes "ReplicaDown"
refusal_name ReplicaUp = codes "ReplicaUp"
refusal_name CopiesFull = codes "CopiesFull"
refusal_name OpsFull = codes "OpsFull"
refusal_name FlightsFull = codes "FlightsFull"
refusal_name Memory = codes "Memory"
