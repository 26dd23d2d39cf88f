-- The numbers of what may be wrong with an order, as programs print them.
use Rattle.std.specs.Prelude.{ℕ}
use Rattle.certificate_check.specs.declared.verdict.Fault.{Fault}
use Rattle.certificate_check.specs.declared.verdict.Fault.TheVariants as fault

-- the number of a fault: of those that apply the lowest is answered
abbrev pub order_fault_number : Fault → ℕ
order_fault_number (fault.UnknownCall place) = 1
order_fault_number (fault.CallTwice place) = 2
order_fault_number (fault.MissingCall op) = 3
order_fault_number (fault.PendingRead place) = 4
order_fault_number (fault.WrongAnswer place) = 5
order_fault_number (fault.OrderBroken earlier later) = 6
