use Rattle.std.proofs.Common.{ℕ, List, ◌++◌, codes, refl, ap, ◌∙◌}
use Rattle.tag.specs.declared.actions.Action.TheVariants.{Write}
use Rattle.file_format.specs.RowTexts.{after_client, after_key}
use Rattle.file_format.proofs.SaidRows.{asked}
use Rattle.file_format.proofs.compact_lines.asked_write.Goals as goal

pub returns : goal.returns
returns c =
    let marks = c.in_ok-marks.marks in
    let key = c.in_ok-marks.key in
    let valued = c.in_ok-value.ensures.lawful in
    let value = c.in_ok-rest.ensures
    ∙ ap (λ (s : List ℕ). codes ",\"row\":\"invoke\",\"value\":" ++ s) c.in_ok-value.ensures.text in
    let members = c.in_ok-marks.ensures.text ∙ ap (λ (s : List ℕ). after_key marks key.text.now s) value in
    let client = c.get-name.ensures in
    asked _ marks c.args.op c.args.client c.get-name.result key c.in_ok-value.value _ (Write c.in_ok-value.value.text.now) refl
    (ap (λ (s : List ℕ). after_client c.args.op c.args.client (codes ",\"do\":\"write\"" ++ s)) members) c.in_ok-marks.ensures.range
    c.in_ok-marks.ensures.lawful c.in_ok-marks.ensures.lawful c.call_in_range.ensures client.name client.least client.most valued
    valued.short valued.text
