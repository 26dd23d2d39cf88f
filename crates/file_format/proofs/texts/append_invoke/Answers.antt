use Rattle.std.proofs.Common.{decimal}
use Rattle.std.specs.Prelude.{codes}
use Rattle.std.proofs.lemmas.Result.{on_ok_weaker}
use Rattle.json.specs.Print.{quoted}
use Rattle.file_format.specs.Texts.{hall_text, line_member_text}
use Rattle.file_format.proofs.Spelling.{read_bytes, write_bytes, then, both, spelled, with_number, with_text}
use Rattle.file_format.proofs.texts.append_invoke.Goals as goal

pub returns-in_ok-append_line-in-None-clause-text : goal.returns-in_ok-append_line-in-None-clause-text
returns-in_ok-append_line-in-None-clause-text c =
    let op = c.args.op in
    let client = c.args.client in
    let key = c.args.key.now in
    let marks = c.args.marks in
    rw c.in-None.ensures.read (on_ok_weaker c.append.result (λ last. spelled _ _ _ _ (read_bytes marks op client key)
    (then _ _ _ (codes "{\"call\":") (decimal op.0) _ c.in_ok-append_number.ensures.text
    (then _ _ _ (codes ",\"client\":") (decimal client) _
    (with_number _ _ (codes ",\"client\":") c.get.result client c.get.ensures.name c.in_ok-append_number-2.ensures.text)
    (then _ _ _ (codes ",\"do\":\"read\"") (hall_text marks.hall) _ c.in_ok-append_hall-in-None.ensures
    (then _ _ _ (codes ",\"key\":") (quoted key) _ c.in_ok-append_quoted-in-None.ensures
    (both _ _ _ (line_member_text marks.line) (codes ",\"row\":\"invoke\"}\n") c.in_ok-append_line-in-None.ensures last))))))
    c.append.ensures)

pub returns-in_ok-append_quoted-in-Some-2-clause-text : goal.returns-in_ok-append_quoted-in-Some-2-clause-text
returns-in_ok-append_quoted-in-Some-2-clause-text c =
    let op = c.args.op in
    let client = c.args.client in
    let key = c.args.key.now in
    let marks = c.args.marks in
    let value = c.in-Some.value in
    rw c.in-Some.ensures.write (on_ok_weaker c.append-in-Some.result (λ last. spelled _ _ _ _ (write_bytes marks op client key value)
    (then _ _ _ (codes "{\"call\":") (decimal op.0) _ c.in_ok-append_number.ensures.text
    (then _ _ _ (codes ",\"client\":") (decimal client) _
    (with_number _ _ (codes ",\"client\":") c.get.result client c.get.ensures.name c.in_ok-append_number-2.ensures.text)
    (then _ _ _ (codes ",\"do\":\"write\"") (hall_text marks.hall) _ c.in_ok-append_hall-in-Some.ensures
    (then _ _ _ (codes ",\"key\":") (quoted key) _ c.in_ok-append_quoted-in-Some.ensures
    (both _ _ _ (line_member_text marks.line) _ c.in_ok-append_line-in-Some.ensures
    (then _ _ _ (codes ",\"row\":\"invoke\",\"value\":") (quoted value) (codes "}\n")
    (with_text _ _ (codes ",\"row\":\"invoke\",\"value\":") c.as_str.result.now value c.as_str.ensures.text
    c.in_ok-append_quoted-in-Some-2.ensures) last))))))) c.append-in-Some.ensures)
