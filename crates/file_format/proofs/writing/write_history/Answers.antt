use Rattle.std.proofs.Common.{◌≡◌, ◌++◌, List, ℕ, refl, subst, sym, rules}
use Rattle.std.specs.List.{flat_map}
use Rattle.counted_devices.specs.Sendings.{AppendsPrefix, Leaves}
use Rattle.file_format.specs.Texts.{row_text, history_text}
use Rattle.file_format.proofs.EachElement.{on_ok}
use Rattle.file_format.proofs.WrittenHistories.{history_text_of}
use Rattle.file_format.proofs.WritingOn.{breaks_at_once, breaks_with, ended}
use Rattle.file_format.proofs.writing.write_history.Goals as goal

pub returns-in_err-append_header-clause-broken : goal.returns-in_err-append_header-clause-broken
returns-in_err-append_header-clause-broken g c =
    breaks_at_once g.W.Write.contents g.W.Counted.failures c.from_residual.result c.args.writer.now _ c.from_residual.ensures.1

pub returns-in_err-write_hall-clause-broken : goal.returns-in_err-write_hall-clause-broken
returns-in_err-write_hall-clause-broken g c =
    let contents = g.W.Write.contents in
    let old = c.args.writer.now in
    let new = c.write_hall.new.writer in
    let rows = c.args.history.now.rows in
    let P : List ℕ → Type 0 = λ text. AppendsPrefix (contents old) (contents new) text in
    let whole : c.append_header.new.out.items ++ flat_map row_text rows ≡ history_text rows = search rules in
    breaks_with contents g.W.Counted.failures old old new (history_text rows) refl c.from_residual-in_err-write_hall.result
    (c.append_header.new.out.items ++ flat_map row_text rows) _ (λ begun. subst P whole begun)
    c.from_residual-in_err-write_hall.ensures.1 c.in_err-write_hall.ensures.broken

pub returns : goal.returns
returns g c =
    let contents = g.W.Write.contents in
    let old = c.args.writer.now in
    let mid = c.write_hall.new.writer in
    let sent = c.write_text in
    let rows = c.args.history.now.rows in
    let waiting = c.write_hall.new.batch.items in
    let P : List ℕ → Type 0 = λ text. Leaves (contents old) (contents mid) text waiting in
    let whole : c.append_header.new.out.items ++ flat_map row_text rows ≡ history_text rows = search rules in
    let written = c.in_ok-write_hall.ensures.sent in
    let out = ended contents g.W.Counted.failures old mid sent.new.writer (history_text rows) written.counted sent.result
    waiting c.as_slice.result.now (subst P whole written.sent) (sym c.as_slice.ensures.value)
    sent.ensures.written sent.ensures.counted sent.ensures.begun sent.ensures.device in
    record {
      written = out.0;
      broken = out.1;
      read = on_ok sent.result (history_text_of rows c.lawful_rows-rows.ensures.lawful c.in_ok-write_hall.ensures.range.ranges);
    }
