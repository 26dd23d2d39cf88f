-- The numbers of the reasons why the network refuses: those of the steps that are refused for them.
use Rattle.std.specs.Prelude.{ℕ}
use Rattle.network.specs.declared.refusals.NetRefusal.{NetRefusal}
use Rattle.network.specs.declared.refusals.NetRefusal.TheVariants as refusal

-- the number of a reason
abbrev pub net_refusal_number : NetRefusal → ℕ
net_refusal_number refusal.NotInFlight = 7
net_refusal_number refusal.CopiesFull = 11
net_refusal_number refusal.FlightsFull = 13
net_refusal_number refusal.Memory = 15
