-- The numbers of the reasons why a part has no tag order, as programs print them.
use Rattle.std.specs.Prelude.{ℕ}
use Rattle.witness_order.specs.declared.error.WitnessError.{WitnessError}
use Rattle.witness_order.specs.declared.error.WitnessError.TheVariants.{NoNote, Memory}

-- the number of a reason
abbrev pub witness_error_number : WitnessError → ℕ
witness_error_number (NoNote op) = 1
witness_error_number Memory = 2
