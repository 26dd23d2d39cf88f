use Rattle.history_file.proofs.TakenLines.{row_follows, row_stays}
use Rattle.history_file.proofs.taken_rows.LongHistoryContents.follow.Goals as goal

pub returns-clause-read : goal.returns-clause-read
returns-clause-read g c = λ before text under h told shown counted.
    row_follows g.T.TakesRows.HasTaken before c.args.self.now h text under c.args.row told shown c.hand_on.result c.hand_on.new.taker (c.hand_on.ensures h.made.rows h.made.they.fits h.made.taken)

pub returns-clause-kept : goal.returns-clause-kept
returns-clause-kept g c = λ before h.
    row_stays g.T.TakesRows.HasTaken before c.args.self.now h c.args.row c.hand_on.result c.hand_on.new.taker (c.hand_on.ensures h.made.rows h.made.they.fits h.made.taken)
