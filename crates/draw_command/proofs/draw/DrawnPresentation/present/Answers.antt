-- The page is that of the keys.
use Rattle.std.proofs.Common.{[], map}
use Rattle.parallel_keys.specs.KeysToCheck.{what_of}
use Rattle.judged_keys.specs.Notes.{judges_no_notes}
use Rattle.draw_command.specs.HistoryPictures.{IsJudgedContent}
use Rattle.draw_command.specs.Pages.{IsBelowHint, heading_words, hint_markup, styles_markup}
use Rattle.draw_command.proofs.Adding.{adds_after}
use Rattle.draw_command.proofs.Framing.{titled_page}
use Rattle.draw_command.proofs.draw.DrawnPresentation.present.Goals as goal

pub returns-clause-made : goal.returns-clause-made
returns-clause-made c =
    let all = map what_of c.args.keys.items in
    let drawn = c.args.self.now in
    let told = c.in_ok-told.told in
    let hinted = judges_no_notes drawn.selection.judged all in
    let Judged = IsJudgedContent c.args.numbered.now drawn all told in
    let hint = rw (c.judges_no_notes.ensures, c.as_slice.ensures.value, c.new-content.ensures.items) at c.in_ok-append_hint.ensures in
    let content = adds_after Judged (hint_markup hinted) [] c.append_hint.new.page.items c.add_keys.new.page.items hint c.in_ok-told.ensures in
    let page = titled_page (heading_words drawn.file.now told.refused told.count) styles_markup (IsBelowHint hinted Judged) c.add_keys.new.page.items c.in_ok-page.page.items content
    (rw c.as_slice-2.ensures.value at c.in_ok-page.ensures) in
    record { told = told; page = page.0; page_is = page.1; found = c.of_text.ensures.found; text = rw c.of_text.ensures.text page.2; quiet = c.of_text.ensures.notes }
