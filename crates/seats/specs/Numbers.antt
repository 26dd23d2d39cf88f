-- The numbers and the names of the reasons why a call has no answer, as programs print them.
use Rattle.std.specs.Prelude.{ℕ, List, codes}
use Rattle.seats.specs.declared.errors.CallError.{CallError}
use Rattle.seats.specs.declared.errors.CallError.TheVariants as call

-- the number of why a call has no answer
abbrev pub call_error_number : CallError → ℕ
call_error_number call.Unavailable = 1
call_error_number call.SeatSpent = 2
call_error_number call.Foreign = 3
call_error_number call.Full = 4
call_error_number call.Memory = 5

-- the name of why a call has no answer
abbrev pub call_error_name : CallError → List ℕ
call_error_name call.Unavailable = codes "Unavailable"
call_error_name call.SeatSpent = codes "SeatSpent"
call_error_name call.Foreign = codes "Foreign"
call_error_name call.Full = codes "Full"
call_error_name call.Memory = codes "Memory"
