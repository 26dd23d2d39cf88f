use Rattle.file_format.proofs.WholeOrNothing.{added_kept}
use Rattle.file_format.proofs.numbered_rows.append_history_header.Goals as goal

pub returns-clause-text : goal.returns-clause-text
returns-clause-text c =
    let whole = c.whole_or_nothing.ensures in
    added_kept c.whole_or_nothing.result c.append_header-added.result c.args.out.now.items c.append_header-added.new.out.items
    c.whole_or_nothing.new.out.items _ whole.same whole.kept c.append_header-added.ensures
