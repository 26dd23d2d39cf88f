use Rattle.std.proofs.Common.{arith}
use Rattle.growing_parts.proofs.Empty.{first_all_read}
use Rattle.growing_parts.proofs.laws.a_first_call_leaves_all_read.Goals as goal

pub returns : goal.returns
returns c = record {
  none = λ source read there reads done. absurd (omega (arith, there.1));
  first = λ after source place call b. first_all_read source place after call b;
}
