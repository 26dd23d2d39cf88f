use Rattle.std.proofs.Common.{refl}
use Rattle.fault_details.proofs.Scanning.{line_whole}
use Rattle.fault_details.proofs.found_line.Scan.line.Goals as goal

pub returns-clause-unended : goal.returns-clause-unended
returns-clause-unended c = λ unended bytes s. line_whole c.args.self _ c.requires refl refl refl refl bytes unended s
