use Rattle.std.proofs.Common.{ℕ, Option, Some, ◌≡◌, ◌++◌, subst, sym, ◌∙◌}
use Rattle.std.specs.List.{flat_map, slice_get}
use Rattle.recorder.specs.Histories.{Recorded}
use Rattle.counted_devices.specs.Sendings.{AppendsPrefix, Leaves}
use Rattle.file_format.specs.Ranges.{IsWritten, HaveFormed, HasRowsInRange}
use Rattle.file_format.specs.Texts.{row_text_with, histories_text}
use Rattle.file_format.proofs.HallTexts.{Leaves-hall, AppendsPrefix-hall, none_ahead}
use Rattle.file_format.proofs.EachElement.{on_ok, before_more, before_all}
use Rattle.file_format.proofs.WrittenHalls.{histories_text_of}
use Rattle.file_format.proofs.WritingOn.{breaks_at_once, breaks_with, ended}
use Rattle.file_format.proofs.writing.write_histories.Goals as goal

pub returns-in_err-write_hall-clause-broken : goal.returns-in_err-write_hall-clause-broken
returns-in_err-write_hall-clause-broken g c =
    let at = c.loop-hall in
    let contents = g.W.Write.contents in
    let history = c.index-halls-hall.result in
    let P : Option ℕ → Type 0 = λ place.
    AppendsPrefix (contents at.writer) (contents c.write_hall.new.writer) (at.batch.items
    ++ flat_map (row_text_with place) history.rows) in
    breaks_with contents g.W.Counted.failures c.args.writer.now at.writer c.write_hall.new.writer (histories_text c.args.histories.now)
    at.invariant.same c.from_residual-in_err-write_hall.result (at.batch.items ++ flat_map (row_text_with c.place.result) history.rows)
    _
    (λ begun. AppendsPrefix-hall c.of-header.result (contents c.args.writer.now) (contents at.writer) (contents c.write_hall.new.writer)
    (histories_text c.args.histories.now) at.batch.items c.halls-halls.result.now at.hall history c.loop-hall-test.true
    c.index-halls-hall.is at.invariant.left (subst P c.place.ensures begun))
    c.from_residual-in_err-write_hall.ensures.1 c.in_err-write_hall.ensures.broken

pub loop-hall-preserved : goal.loop-hall-preserved
loop-hall-preserved g c =
    let at = c.loop-hall in
    let contents = g.W.Write.contents in
    let history = c.index-halls-hall.result in
    let P : Option ℕ → Type 0 = λ place.
    Leaves (contents at.writer) (contents c.write_hall.new.writer) (at.batch.items ++ flat_map (row_text_with place) history.rows)
    c.write_hall.new.batch.items in
    record {
      left = Leaves-hall c.of-header.result (contents c.args.writer.now) (contents at.writer) (contents c.write_hall.new.writer)
          (histories_text c.args.histories.now) at.batch.items c.halls-halls.result.now at.hall history c.write_hall.new.batch.items
          c.loop-hall-test.true c.index-halls-hall.is at.invariant.left (subst P c.place.ensures c.in_ok-write_hall.ensures.sent.sent);
      range = before_more IsWritten c.halls-halls.result.now at.hall history c.index-halls-hall.is c.in_ok-write_hall.ensures.range
          at.invariant.range;
      same = c.in_ok-write_hall.ensures.sent.counted ∙ at.invariant.same;
    }

pub returns : goal.returns
returns g c =
    let histories = c.args.histories.now in
    let halls = c.halls-halls.result.now in
    let at = c.loop-hall in
    let sent = c.write_text in
    let all : (k : ℕ) (history : Recorded) → slice_get halls k ≡ Some history → IsWritten history =
    before_all IsWritten halls at.hall c.loop-hall-test.false at.invariant.range in
    let formed : HaveFormed histories.halls =
    subst HaveFormed c.halls-halls.ensures.halls (λ k history e. (all k history e).formed) in
    let ranges : HasRowsInRange histories.halls =
    subst HasRowsInRange c.halls-halls.ensures.halls (λ k history e. (all k history e).ranges) in
    let out = ended g.W.Write.contents g.W.Counted.failures c.args.writer.now at.writer sent.new.writer (histories_text histories)
    at.invariant.same sent.result _ c.as_slice.result.now at.invariant.left
    (none_ahead c.of-header.result at.batch.items halls at.hall c.loop-hall-test.false ∙ sym c.as_slice.ensures.value)
    sent.ensures.written sent.ensures.counted sent.ensures.begun sent.ensures.device in
    record {
      written = out.0;
      broken = out.1;
      read =
          on_ok sent.result (histories_text_of histories c.of-header.ensures.halls c.of-header.ensures.lawful formed ranges);
    }

pub returns-in_err-append_file_header-clause-broken : goal.returns-in_err-append_file_header-clause-broken
returns-in_err-append_file_header-clause-broken g c =
    breaks_at_once g.W.Write.contents g.W.Counted.failures c.from_residual.result c.args.writer.now _ c.from_residual.ensures.1
