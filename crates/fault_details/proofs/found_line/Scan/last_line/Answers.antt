use Rattle.std.proofs.Common.{sym, ◌∙◌}
use Rattle.fault_details.proofs.Scanning.{line_missing}
use Rattle.fault_details.proofs.found_line.Scan.last_line.Goals as goal

pub returns-else-is_there : goal.returns-else-is_there
returns-else-is_there c = λ bytes s. line_missing bytes c.args.self (sym c.is_there.ensures ∙ c.if-is_there.false) s
