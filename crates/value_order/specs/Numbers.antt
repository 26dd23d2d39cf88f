-- The numbers of the reasons why calls have no order, as programs print them.
use Rattle.std.specs.Prelude.{ℕ}
use Rattle.value_order.specs.declared.decision.ValueFault.{ValueFault}
use Rattle.value_order.specs.declared.decision.ValueFault.TheVariants as fault

-- the number of a fault: of those that there are the lowest is answered
abbrev pub value_fault_number : ValueFault → ℕ
value_fault_number (fault.NoWrite read) = 1
value_fault_number (fault.Early read write) = 2
value_fault_number (fault.LateNothing read call) = 3
value_fault_number (fault.Opposed a b) = 4
value_fault_number (fault.Overwritten doubt between) = 5
