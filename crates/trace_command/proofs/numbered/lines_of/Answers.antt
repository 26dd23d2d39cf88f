use Rattle.std.proofs.Common.{refl, arith, ap, ◌∙◌}
use Rattle.std.specs.List.{range_with_len}
use Rattle.trace_command.proofs.Numbering.{line_more}
use Rattle.trace_command.proofs.numbered.lines_of.Goals as goal

pub overflow_add-place : goal.overflow_add-place
overflow_add-place c = omega (arith, c.row_count-place-end.ensures.few, c.loop-place-test.true)

pub loop-place-preserved : goal.loop-place-preserved
loop-place-preserved c = line_more c.loop-place.place _ c.loop-place.lines c.push.new.self refl c.loop-place.invariant c.in_ok-push.ensures.ok

pub returns : goal.returns
returns c = c.loop-place.invariant ∙ ap (range_with_len 2) (omega (arith, c.row_count-place-end.ensures.count, c.loop-place-test.false, c.loop-place.auto.place-end))
