use Rattle.std.proofs.lemmas.Result.{on_ok_weaker}
use Rattle.markup.specs.Markup.{both}
use Rattle.pictures.specs.Pictures.{picture_markup}
use Rattle.pictures.specs.Tables.{table_markup}
use Rattle.draw_command.specs.Pages.{around_line, shown_line}
use Rattle.draw_command.proofs.Adding.{both_added}
use Rattle.draw_command.proofs.showing.append_showing.Goals as goal

pub returns : goal.returns
returns c =
    let picture = c.args.picture.now in
    let line = around_line c.args.around picture.part.now in
    let shown = c.append_shown.new.page.items in
    let lined = c.append_around.new.page.items in
    let below = both (picture_markup picture) (table_markup picture) in
    on_ok_weaker c.append_call_table.result (λ added.
    both_added (shown_line picture) (both line below) c.args.page.now.items shown _ c.in_ok-append_shown.ensures
    (both_added line below shown lined _ c.in_ok-append_around.ensures
    (both_added (picture_markup picture) (table_markup picture) lined c.append_picture.new.page.items _ c.in_ok-append_picture.ensures added)))
    c.append_call_table.ensures
