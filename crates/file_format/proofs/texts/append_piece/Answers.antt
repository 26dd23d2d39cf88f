use Rattle.std.specs.Prelude.{codes, false, refl}
use Rattle.std.proofs.lemmas.Result.{on_ok_weaker}
use Rattle.json.specs.Print.{quoted}
use Rattle.serde_json.specs.Written.{items_text}
use Rattle.file_format.specs.Texts.{calls_data}
use Rattle.file_format.proofs.Spelling.{piece_bytes, then, spelled, with_text, both}
use Rattle.file_format.proofs.texts.append_piece.Goals as goal

pub returns-clause-text : goal.returns-clause-text
returns-clause-text c =
    let key = c.args.key.now in
    let calls = c.args.calls.now in
    on_ok_weaker c.append-2.result (λ last. spelled _ _ _ _ (piece_bytes key calls)
    (then _ _ _ (codes "{\"key\":") (quoted key) _ (with_text _ _ (codes "{\"key\":") key key refl c.in_ok-append_quoted.ensures)
    (then _ _ _ (codes ",\"order\":[") (items_text false (calls_data calls)) (codes "}\n")
    (both _ _ _ (codes ",\"order\":[") (items_text false (calls_data calls)) c.in_ok-append.ensures
    c.in_ok-append_calls.ensures.text) last))) c.append-2.ensures
