use Rattle.std.proofs.Common.{decimal}
use Rattle.std.specs.Prelude.{codes}
use Rattle.std.proofs.lemmas.Result.{on_ok_weaker}
use Rattle.file_format.specs.Texts.{hall_text, line_member_text}
use Rattle.file_format.proofs.Spelling.{written_bytes, respond_bytes, then, both, spelled}
use Rattle.file_format.proofs.texts.append_respond.Goals as goal

pub returns-in-None-clause-text : goal.returns-in-None-clause-text
returns-in-None-clause-text c =
    let op = c.args.op in
    rw c.in-None.ensures.done (on_ok_weaker c.append.result (λ last. spelled _ _ _ _ (written_bytes c.args.marks op)
    (then _ _ _ (codes "{\"call\":") (decimal op.0) _ c.in_ok-append_number.ensures.text
    (then _ _ _ (codes "") (hall_text c.args.marks.hall) _ c.in_ok-append_hall.ensures
    (both _ _ _ (line_member_text c.args.marks.line) (codes ",\"row\":\"respond\"}\n") c.in_ok-append_line.ensures last))))
    c.append.ensures)

pub returns-in-Some-clause-text : goal.returns-in-Some-clause-text
returns-in-Some-clause-text c =
    let op = c.args.op in
    rw c.in-Some.ensures.read (on_ok_weaker c.append_answer.result (λ last. spelled _ _ _ _ (respond_bytes c.args.marks op c.in-Some.answer)
    (then _ _ _ (codes "{\"call\":") (decimal op.0) _ c.in_ok-append_number.ensures.text
    (then _ _ _ (codes "") (hall_text c.args.marks.hall) _ c.in_ok-append_hall.ensures
    (both _ _ _ (line_member_text c.args.marks.line) _ c.in_ok-append_line.ensures last)))) c.append_answer.ensures.text)
