use Rattle.std.proofs.Common.{sym}
use Rattle.fault_script.proofs.WordLemmas.{behind-boundary, space-boundary}
use Rattle.fault_script.proofs.words.cut_at_space.Goals as goal

pub range-requires-clause-end_boundary : goal.range-requires-clause-end_boundary
range-requires-clause-end_boundary c = space-boundary c.args.text.now c.in-Some.end (sym c.in-Some.ensures)

pub range_from-requires : goal.range_from-requires
range_from-requires c _ = behind-boundary c.args.text.now c.in-Some.end c.utf8.text (sym c.in-Some.ensures)
