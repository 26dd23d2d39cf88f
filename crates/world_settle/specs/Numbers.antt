-- The numbers and the names of the reasons why a call isn't completed, as programs print them.
use Rattle.std.specs.Prelude.{ℕ, List, codes}
use Rattle.world_settle.specs.declared.errors.SettleError.{SettleError}
use Rattle.world_settle.specs.declared.errors.SettleError.TheVariants.{NoMajority, NotPending, Room}
use Rattle.world_settle.specs.declared.errors.SettleError.TheVariants.{Memory}

-- the number of a reason
abbrev pub settle_error_number : SettleError → ℕ
settle_error_number NoMajority = 1
settle_error_number NotPending = 2
settle_error_number Room = 3
settle_error_number (Memory steps) = 4

-- the name of a reason
abbrev pub settle_error_name : SettleError → List ℕ
settle_error_name NoMajority = codes "NoMajority"
settle_error_name NotPending = codes "NotPending"
settle_error_name Room = codes "Room"
settle_error_name (Memory steps) = codes "Memory"
