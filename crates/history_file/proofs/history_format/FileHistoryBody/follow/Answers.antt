use Rattle.std.proofs.Common.{sym, subst}
use Rattle.recorder.specs.Histories.{call_count}
use Rattle.file_format.specs.HistoryFormat.{MakesHistory}
use Rattle.history_file.proofs.Bodies.{kept_unchanged, refusal_keeps}
use Rattle.history_file.proofs.history_format.FileHistoryBody.follow.Goals as goal

pub returns-clause-kept : goal.returns-clause-kept
returns-clause-kept c = λ header items made fits.
    let old = c.self.inside.history in
    let new = c.follow.new.history in
    kept_unchanged (MakesHistory header items) c.follow.result old new
    (refusal_keeps (call_count old.rows) old c.args.row c.follow.result new c.follow.ensures.follows)
    (subst (MakesHistory header items) (sym c.self.view_is) made)
