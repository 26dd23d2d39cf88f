use Rattle.std.proofs.Common.{◌≡◌, ◌++◌, take}
use Rattle.file_format.proofs.orders.append.Given as goal

abbrev pub invariant-loop-call : goal.invariant-loop-call
invariant-loop-call l = l.order ≡ l.initial.order ++ take l.call-index l.calls
