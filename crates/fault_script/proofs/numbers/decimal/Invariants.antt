use Rattle.std.proofs.Common.{◌≡◌, ◌<◌, ◌^◌, take}
use Rattle.fault_script.specs.Words.{decimal_value}
use Rattle.fault_script.proofs.numbers.decimal.Given as goal

abbrev pub invariant-loop-digit : goal.invariant-loop-digit
invariant-loop-digit l = record { value : l.number ≡ decimal_value (take l.digit-index l.digits); small : l.number < 2 ^ 64 }
