use Rattle.std.proofs.Common.{decimal, ◌∙◌}
use Rattle.std.specs.Prelude.{codes, false}
use Rattle.std.proofs.lemmas.Result.{on_ok_weaker}
use Rattle.serde_json.specs.Written.{items_text}
use Rattle.file_format.specs.Texts.{numbers_data}
use Rattle.file_format.proofs.Spelling.{quorums_bytes, then, spelled, with_number, both}
use Rattle.file_format.proofs.texts.append_quorums.Goals as goal

pub returns : goal.returns
returns c =
    let halls = c.args.halls in
    let quorums = c.args.quorums.now in
    on_ok_weaker c.append-2.result (λ last. spelled _ _ _ _ (quorums_bytes halls quorums)
    (then _ _ _ (codes "{\"abd\":\"history\",\"ask\":") (decimal quorums.ask) _
    (with_number _ _ (codes "{\"abd\":\"history\",\"ask\":") c.from.result quorums.ask (c.from.ensures ∙ c.ask.ensures)
    c.in_ok-append_number.ensures.text)
    (then _ _ _ (codes ",\"halls\":") (decimal halls) _
    (with_number _ _ (codes ",\"halls\":") c.from-2.result halls (c.from-2.ensures ∙ c.count.ensures.count)
    c.in_ok-append_number-2.ensures.text)
    (then _ _ _ (codes ",\"put\":") (decimal quorums.put) _
    (with_number _ _ (codes ",\"put\":") c.from-3.result quorums.put (c.from-3.ensures ∙ c.put.ensures)
    c.in_ok-append_number-3.ensures.text)
    (then _ _ _ (codes ",\"version\":2,\"votes\":[") (items_text false (numbers_data quorums.votes)) (codes "}\n")
    (both _ _ _ (codes ",\"version\":2,\"votes\":[") (items_text false (numbers_data quorums.votes)) c.in_ok-append.ensures
    c.in_ok-append_votes.ensures) last))))) c.append-2.ensures
