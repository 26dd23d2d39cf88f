use Rattle.std.proofs.Common.{◌≡◌, ◌++◌, subst}
use Rattle.std.specs.Prelude.{OnOk}
use Rattle.std.proofs.lemmas.Result.{on_ok_weaker}
use Rattle.recorder.specs.declared.row.Row.TheVariants.{Respond}
use Rattle.file_format.specs.declared.marks.Marks.{Marks}
use Rattle.file_format.specs.NumberedRows.{NumberedRow}
use Rattle.file_format.specs.Ranges.{IsNumberedInRange}
use Rattle.file_format.specs.Texts.{marked_text}
use Rattle.file_format.proofs.WholeOrNothing.{added_kept, same_ok}
use Rattle.file_format.proofs.numbered_rows.append_numbered_respond.Goals as goal

pub returns-clause-text : goal.returns-clause-text
returns-clause-text c =
    let whole = c.whole_or_nothing.ensures in
    let P : Marks → Type 0 = λ marks. OnOk c.append_respond-added.result
    (c.append_respond-added.new.out.items ≡ c.args.out.now.items ++ marked_text marks (Respond c.args.op c.args.returned.now)) in
    added_kept c.whole_or_nothing.result c.append_respond-added.result c.args.out.now.items c.append_respond-added.new.out.items c.whole_or_nothing.new.out.items _
    whole.same whole.kept (subst P c.on_line.ensures.marks c.append_respond-added.ensures.text)

pub returns-clause-range : goal.returns-clause-range
returns-clause-range c =
    let numbered : NumberedRow = record { line = c.args.line; row = Respond c.args.op c.args.returned.now } in
    same_ok (IsNumberedInRange numbered) c.whole_or_nothing.result c.append_respond-added.result c.whole_or_nothing.ensures.same
    (on_ok_weaker c.append_respond-added.result (λ range. record { line = c.on_line.ensures.range; row = range }) c.append_respond-added.ensures.range)
