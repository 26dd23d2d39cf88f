use Rattle.std.proofs.Common.{◌≡◌, drop}
use Rattle.fault_details.specs.ScriptFaults.{begins_script}
use Rattle.fault_details.proofs.script_given.begins_script.Given as goal

abbrev pub invariant-loop-byte : goal.invariant-loop-byte
invariant-loop-byte l = begins_script l.bytes ≡ begins_script (drop l.byte-index l.bytes)
