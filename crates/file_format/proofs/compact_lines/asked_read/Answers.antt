use Rattle.std.proofs.Common.{ℕ, List, ◌++◌, codes, refl, ap, ◌∙◌}
use Rattle.tag.specs.declared.actions.Action.TheVariants.{Read}
use Rattle.file_format.specs.RowTexts.{after_client, after_key}
use Rattle.file_format.proofs.SaidRows.{asked, empty_serves}
use Rattle.file_format.proofs.compact_lines.asked_read.Goals as goal

pub returns : goal.returns
returns c =
    let none = empty_serves c.none.result.text.now c.none.ensures in
    let marks = c.in_ok-marks.marks in
    let key = c.in_ok-marks.key in
    let members = c.in_ok-marks.ensures.text
    ∙ ap (λ (s : List ℕ). after_key marks key.text.now s) (c.is_all.ensures c.if-not-is_all.false) in
    let client = c.get-name.ensures in
    asked _ marks c.args.op c.args.client c.get-name.result key c.none.result _ Read refl
    (ap (λ (s : List ℕ). after_client c.args.op c.args.client (codes ",\"do\":\"read\"" ++ s)) members) c.in_ok-marks.ensures.range
    c.in_ok-marks.ensures.lawful c.in_ok-marks.ensures.lawful c.call_in_range.ensures client.name client.least client.most tt none.value
    none.utf8
