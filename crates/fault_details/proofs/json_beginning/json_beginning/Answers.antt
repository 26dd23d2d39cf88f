use Rattle.std.proofs.Common.{arith}
use Rattle.fault_details.proofs.Stops.{begins_any}
use Rattle.fault_details.proofs.json_beginning.json_beginning.Goals as goal

pub halves-init : goal.halves-init
halves-init c = record {
  order = omega arith;
  most = omega arith;
  begins = begins_any c.args.line.now;
}
