use Rattle.std.proofs.lemmas.Result.{on_ok_weaker}
use Rattle.std.specs.Prelude.{codes}
use Rattle.json.specs.Print.{quoted}
use Rattle.file_format.proofs.Spelling.{absent_bytes, answered_bytes, then, spelled, with_text}
use Rattle.file_format.proofs.texts.append_answer.Goals as goal

pub returns-in-None-clause-text : goal.returns-in-None-clause-text
returns-in-None-clause-text c = rw c.in-None.is (on_ok_weaker c.append.result (λ last. spelled _ _ _ _ absent_bytes last) c.append.ensures)

pub returns-in_ok-append_quoted-in-Some-clause-text : goal.returns-in_ok-append_quoted-in-Some-clause-text
returns-in_ok-append_quoted-in-Some-clause-text c =
    let value = c.in-Some.value in
    rw c.in-Some.is (on_ok_weaker c.append-in-Some.result (λ last. spelled _ _ _ _ (answered_bytes value)
    (then _ _ _ (codes ",\"row\":\"respond\",\"value\":") (quoted value) (codes "}\n")
    (with_text _ _ (codes ",\"row\":\"respond\",\"value\":") c.as_str.result.now value c.as_str.ensures.text
    c.in_ok-append_quoted-in-Some.ensures) last)) c.append-in-Some.ensures)
