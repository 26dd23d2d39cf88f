use Rattle.std.proofs.Common.{◌≡◌, map, take}
use Rattle.file_format.specs.OrderLines.{op_at}
use Rattle.file_format.proofs.order_lines.calls_of.Given as goal

abbrev pub invariant-loop-number : goal.invariant-loop-number
invariant-loop-number l = l.order ≡ map op_at (take l.number-index l.numbers)
