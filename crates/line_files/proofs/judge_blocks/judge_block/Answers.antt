use Rattle.std.proofs.Common.{◌≡◌, ◌++◌, take, length-append, sym, ◌∙◌, subst, arith}
use Rattle.std.specs.Prelude.{Option}
use Rattle.line_files.specs.declared.judged_lines.JudgedLines.{JudgedLines}
use Rattle.line_files.specs.Ahead.{IsJudged}
use Rattle.line_files.proofs.Advancing.{nothing_judged, block_judged, judged_room}
use Rattle.line_files.proofs.judge_blocks.judge_block.Goals as goal

pub returns-in_default-clause-judged : goal.returns-in_default-clause-judged
returns-in_default-clause-judged g c = nothing_judged g.C.Contents.Shows c.args.context c.args.rest.items c.args.block.now c.of_no_line.result c.of_no_line.ensures.none c.of_no_line.ensures.rest (λ begun. begun c.in_default.is)

pub returns-in_default-first_end-clause-judged : goal.returns-in_default-first_end-clause-judged
returns-in_default-first_end-clause-judged g c =
    let judged = c.of_no_line-in_default-first_end in
    nothing_judged g.C.Contents.Shows c.args.context c.args.rest.items c.args.block.now judged.result judged.ensures.none judged.ensures.rest (λ begun. c.in_default-first_end.ensures)

pub returns-clause-judged : goal.returns-clause-judged
returns-clause-judged g c = λ partial begun.
    let judged : JudgedLines g.row.C-Item.Denot g.row.C-Fault.Denot = record { judgements = c.in_ok-judgements.judgements; rest = c.in_ok-from_slice.field-0 } in
    let end = c.in-Some-first_end in
    let first : c.as_slice.result.now ≡ c.args.rest.items ++ take end.end c.args.block.now = c.as_slice.ensures.value ∙ c.in_ok-extend_from_slice.ensures.items in
    let J : Option g.row.C-Context.Denot → Type 0 = λ o. IsJudged g.C.Contents.Shows o (c.args.rest.items ++ c.args.block.now) judged in
    subst J (sym c.in-Some.is) (block_judged g.C.Contents.Shows c.in-Some.under c.args.rest.items c.args.block.now end.end judged c.as_slice.result _ _ c.in_ok-found.found.rest.now end.ensures.0 end.ensures.2 first (sym (c.as_slice-2.ensures.value ∙ c.in_ok-insert.ensures.items)) c.in_ok-found.ensures c.in_ok-from_slice.ensures.items c.in_ok-judgements.ensures)

pub returns-clause-room : goal.returns-clause-room
returns-clause-room g c =
    let judged : JudgedLines g.row.C-Item.Denot g.row.C-Fault.Denot = record { judgements = c.in_ok-judgements.judgements; rest = c.in_ok-from_slice.field-0 } in
    let end = c.in-Some-first_end in
    let first : c.as_slice.result.now ≡ c.args.rest.items ++ take end.end c.args.block.now = c.as_slice.ensures.value ∙ c.in_ok-extend_from_slice.ensures.items in
    let j = block_judged g.C.Contents.Shows c.in-Some.under c.args.rest.items c.args.block.now end.end judged c.as_slice.result _ _ c.in_ok-found.found.rest.now end.ensures.0 end.ensures.2 first (sym (c.as_slice-2.ensures.value ∙ c.in_ok-insert.ensures.items)) c.in_ok-found.ensures c.in_ok-from_slice.ensures.items c.in_ok-judgements.ensures in
    omega (arith, length-append c.args.rest.items c.args.block.now, judged_room g.C.Contents.Shows c.in-Some.under (c.args.rest.items ++ c.args.block.now) judged j)
