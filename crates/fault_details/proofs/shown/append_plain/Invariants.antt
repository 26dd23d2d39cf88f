use Rattle.std.proofs.Common.{◌≡◌, ◌++◌, drop}
use Rattle.fault_details.specs.Shown.{plain_after}
use Rattle.fault_details.proofs.shown.append_plain.Given as goal

abbrev pub invariant-loop-byte : goal.invariant-loop-byte
invariant-loop-byte l = l.text.items ++ plain_after l.before (drop l.byte-index l.bytes)
    ≡ l.initial.text.items ++ plain_after 0 l.bytes
