use Rattle.history_file.proofs.history_format.FileHistoryBody.whole.Goals as goal

pub returns : goal.returns
returns c = λ bytes r. rw c.into_history.ensures r
