use Rattle.std.proofs.Common.{ℕ, List, ◌≡◌, ◌≤◌, ◌++◌, get_or, length, subst, sym, ◌∙◌, arith}
use Rattle.std.specs.List.{flat_map}
use Rattle.std.proofs.lemmas.Option.{get_or_from_slice_get, slice_get_within}
use Rattle.counted_devices.specs.Sendings.{Leaves}
use Rattle.file_format.specs.Ranges.{IsRowInRange}
use Rattle.file_format.specs.Texts.{row_text_with}
use Rattle.counted_devices.proofs.Leaving.{Leaves-next, AppendsPrefix-next, none_ahead}
use Rattle.file_format.proofs.EachElement.{before_more, before_all}
use Rattle.file_format.proofs.WritingOn.{breaks_with}
use Rattle.file_format.proofs.writing.write_hall.Goals as goal

pub returns-in_err-write_row-clause-broken : goal.returns-in_err-write_row-clause-broken
returns-in_err-write_row-clause-broken g c =
    let at = c.loop-place in
    let contents = g.W.Write.contents in
    let rows = c.args.history.now.rows in
    let row = c.row.result in
    let is : row ≡ get_or rows at.place row = sym (get_or_from_slice_get rows at.place row row c.row.ensures) in
    breaks_with contents g.W.Counted.failures c.args.writer.now at.writer c.write_row.new.writer (c.args.batch.now.items
    ++ flat_map (row_text_with c.args.hall) rows) at.invariant.same c.from_residual.result (at.batch.items
    ++ row_text_with c.args.hall row) _
    (λ begun. AppendsPrefix-next (row_text_with c.args.hall) (contents c.args.writer.now) (contents at.writer)
    (contents c.write_row.new.writer) (c.args.batch.now.items ++ flat_map (row_text_with c.args.hall) rows)
    at.batch.items rows at.place row (slice_get_within rows at.place row c.row.ensures) is at.invariant.left begun)
    c.from_residual.ensures.1 c.in_err-write_row.ensures.broken

pub loop-place-preserved : goal.loop-place-preserved
loop-place-preserved g c =
    let at = c.loop-place in
    let contents = g.W.Write.contents in
    let rows = c.args.history.now.rows in
    let row = c.row.result in
    let is : row ≡ get_or rows at.place row = sym (get_or_from_slice_get rows at.place row row c.row.ensures) in
    record {
      left = Leaves-next (row_text_with c.args.hall) (contents c.args.writer.now) (contents at.writer) (contents c.write_row.new.writer)
          (c.args.batch.now.items ++ flat_map (row_text_with c.args.hall) rows) at.batch.items
          rows at.place row c.write_row.new.batch.items (slice_get_within rows at.place row c.row.ensures) is
          at.invariant.left c.in_ok-write_row.ensures.sent.sent;
      range = before_more IsRowInRange rows at.place row is c.in_ok-write_row.ensures.range at.invariant.range;
      same = c.in_ok-write_row.ensures.sent.counted ∙ at.invariant.same;
    }

pub returns-clause-sent : goal.returns-clause-sent
returns-clause-sent g c =
    let at = c.loop-place in
    let contents = g.W.Write.contents in
    let rows = c.args.history.now.rows in
    let P : List ℕ → Type 0 = λ r.
    Leaves (contents c.args.writer.now) (contents at.writer) (c.args.batch.now.items ++ flat_map (row_text_with c.args.hall) rows) r in
    let end : length rows ≤ at.place = omega (arith, c.row_count-place-end.ensures.count, c.loop-place-test.false) in
    record {
      sent = subst P (none_ahead (row_text_with c.args.hall) at.batch.items rows at.place end) at.invariant.left;
      counted = at.invariant.same;
    }

pub returns-clause-range : goal.returns-clause-range
returns-clause-range g c =
    let at = c.loop-place in
    let rows = c.args.history.now.rows in
    let end : length rows ≤ at.place = omega (arith, c.row_count-place-end.ensures.count, c.loop-place-test.false) in
    record { formed = c.row_count-place-end.ensures.formed; ranges = before_all IsRowInRange rows at.place end at.invariant.range }
