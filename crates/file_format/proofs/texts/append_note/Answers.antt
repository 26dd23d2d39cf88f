use Rattle.std.proofs.Common.{decimal}
use Rattle.std.specs.Prelude.{codes}
use Rattle.std.proofs.lemmas.Result.{on_ok_weaker}
use Rattle.file_format.specs.Texts.{hall_text, line_member_text}
use Rattle.file_format.proofs.Spelling.{note_bytes, then, both, spelled, with_number}
use Rattle.file_format.proofs.texts.append_note.Goals as goal

pub returns-clause-text : goal.returns-clause-text
returns-clause-text c =
    let op = c.args.op in
    let tag = c.args.tag in
    on_ok_weaker c.append.result (λ last. spelled _ _ _ _ (note_bytes c.args.marks op tag)
    (then _ _ _ (codes "{\"call\":") (decimal op.0) _ c.in_ok-append_number.ensures.text
    (then _ _ _ (codes "") (hall_text c.args.marks.hall) _ c.in_ok-append_hall.ensures
    (both _ _ _ (line_member_text c.args.marks.line) _ c.in_ok-append_line.ensures
    (then _ _ _ (codes ",\"number\":") (decimal tag.number) _
    (with_number _ _ (codes ",\"number\":") c.number.result tag.number c.number.ensures.number c.in_ok-append_number-2.ensures.text)
    (then _ _ _ (codes ",\"row\":\"note\",\"writer\":") (decimal tag.writer) (codes "}\n")
    (with_number _ _ (codes ",\"row\":\"note\",\"writer\":") c.writer.result tag.writer c.writer.ensures.writer
    c.in_ok-append_number-3.ensures.text) last)))))) c.append.ensures
