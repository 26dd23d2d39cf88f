-- The numbers and the names of the reasons why a store isn't started or joined, or leaves nothing,
-- as programs print them.
use Rattle.std.specs.Prelude.{ℕ, List, codes}
use Rattle.node_threads.specs.declared.errors.StartError.{StartError}
use Rattle.node_threads.specs.declared.errors.StartError.TheVariants as start
use Rattle.node_threads.specs.declared.errors.JoinError.{JoinError}
use Rattle.node_threads.specs.declared.errors.JoinError.TheVariants as join
use Rattle.node_threads.specs.declared.errors.CloseError.{CloseError}
use Rattle.node_threads.specs.declared.errors.CloseError.TheVariants as close

-- the number of why a store isn't started
abbrev pub start_error_number : StartError → ℕ
start_error_number start.Memory = 1
start_error_number start.Thread = 2

-- the number of why a client has no seat
abbrev pub join_error_number : JoinError → ℕ
join_error_number join.ClientTaken = 1
join_error_number join.Memory = 2

-- the number of why a closed store leaves nothing
abbrev pub close_error_number : CloseError → ℕ
close_error_number close.SeatMismatch = 1
close_error_number close.Memory = 2

-- the name of why a closed store leaves nothing
abbrev pub close_error_name : CloseError → List ℕ
close_error_name close.SeatMismatch = codes "SeatMismatch"
close_error_name close.Memory = codes "Memory"
