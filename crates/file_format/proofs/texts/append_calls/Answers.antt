use Rattle.std.proofs.Common.{arith}
use Rattle.std.proofs.lemmas.Grind.{common_steps}
use Rattle.file_format.specs.Ranges.{IsOp}
use Rattle.file_format.proofs.EachElement.{before_next, before_all, on_ok}
use Rattle.file_format.proofs.texts.append_calls.Goals as goal
use Rattle.file_format.proofs.texts.append_calls.Goals.{then-place-gt0+in_ok-append_number, else-place-gt0+in_ok-append_number-2}

pub loop-place-preserved : goal.loop-place-preserved
loop-place-preserved c =
    let at = c.loop-place in
    record {
      text = grind (arith, common_steps);
      range = elim c.if-place-gt0.branch [
        | then-place-gt0+in_ok-append_number w ↦
            before_next IsOp c.args.calls.now at.place _ w.in_ok-append_number.ensures.range at.invariant.range
        | else-place-gt0+in_ok-append_number-2 w ↦
            before_next IsOp c.args.calls.now at.place _ w.in_ok-append_number-2.ensures.range at.invariant.range
      ];
    }

pub returns-clause-range : goal.returns-clause-range
returns-clause-range c = on_ok c.append.result
    (before_all IsOp c.args.calls.now c.loop-place.place (omega arith) c.loop-place.invariant.range)
