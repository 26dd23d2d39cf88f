use Rattle.std.proofs.Common.{ℕ, ◌+◌, ◌≡◌, ◌≤◌, List, ◌++◌, drop, get_or, length, subst, sym, ap, ◌∙◌, arith}
use Rattle.std.specs.List.{flat_map}
use Rattle.std.proofs.lemmas.Option.{get_or_from_slice_get, slice_get_within}
use Rattle.file_format.specs.Ranges.{IsRowInRange}
use Rattle.file_format.specs.ReadAgain.{IsTextOf}
use Rattle.file_format.specs.Texts.{row_text}
use Rattle.counted_devices.proofs.Leaving.{ahead, none_ahead}
use Rattle.file_format.proofs.EachElement.{before_more, before_all}
use Rattle.file_format.proofs.WrittenHistories.{history_text_of}
use Rattle.file_format.proofs.writing.history_text.Goals as goal

pub loop-place-preserved : goal.loop-place-preserved
loop-place-preserved c =
    let at = c.loop-place in
    let rows = c.args.history.now.rows in
    let row = c.row.result in
    let is : row ≡ get_or rows at.place row = sym (get_or_from_slice_get rows at.place row row c.row.ensures) in
    record {
      text = ap (λ (s : List ℕ). s ++ flat_map row_text (drop (at.place + 1) rows)) c.in_ok-append_row.ensures.text
          ∙ sym (ahead row_text at.text.items rows at.place row (slice_get_within rows at.place row c.row.ensures) is) ∙ at.invariant.text;
      range = before_more IsRowInRange rows at.place row is c.in_ok-append_row.ensures.range at.invariant.range;
    }

pub returns-clause-read : goal.returns-clause-read
returns-clause-read c =
    let at = c.loop-place in
    let rows = c.args.history.now.rows in
    let end : length rows ≤ at.place = omega (arith, c.lawful_rows-place-end.ensures.count, c.loop-place-test.false) in
    let T : List ℕ → Type 0 = λ text. IsTextOf text rows in
    subst T (sym (sym (none_ahead row_text at.text.items rows at.place end) ∙ at.invariant.text))
    (history_text_of rows c.lawful_rows-place-end.ensures.lawful (before_all IsRowInRange rows at.place end at.invariant.range))
