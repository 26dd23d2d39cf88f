-- What is said and shown of the run, and then the pictures, in the page's frame.
use Rattle.markup.specs.Markup.{both}
use Rattle.draw_command.specs.HistoryPictures.{IsContentOfHistory}
use Rattle.draw_command.specs.Pages.{IsFramed, title_words}
use Rattle.draw_command.proofs.Adding.{adds_after}
use Rattle.draw_command.proofs.Framing.{page_framed}
use Rattle.trace_command.specs.TracePages.{all_styles, run_markup}
use Rattle.trace_command.specs.declared.words.TheConstants.{TITLE}
use Rattle.trace_command.proofs.page.page_of.Goals as goal

pub returns : goal.returns
returns c =
    let shown = c.args.shown.now in
    let run = run_markup shown.scene.now shown.script.now shown.trace.now in
    let Pictures = IsContentOfHistory shown.numbered.now shown.drawn in
    let opened = c.begin_content.new.page.items in
    let drawn = c.add_history_pictures.new.page.items in
    let content = adds_after Pictures run opened c.append_run.new.page.items drawn c.in_ok-append_run.ensures c.in_ok-add_history_pictures.ensures in
    page_framed (title_words shown.drawn.file.now TITLE.now) all_styles (IsFramed (both run) Pictures) _ c.begin_page.new.page.items
    c.append_all_styles.new.page.items opened drawn c.end_page.new.page.items c.new-page.ensures.items
    (rw c.title_of-title.ensures at c.in_ok-begin_page.ensures) c.in_ok-append_all_styles.ensures (rw c.title_of-title.ensures at c.in_ok-begin_content.ensures)
    content c.in_ok-end_page.ensures
