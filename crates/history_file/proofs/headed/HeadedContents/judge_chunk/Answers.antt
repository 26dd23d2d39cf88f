use Rattle.std.proofs.Common.{[], ◌∷◌, sym}
use Rattle.file_format.specs.Lines.{LineShows}
use Rattle.history_file.proofs.Bodies.{shown_alike}
use Rattle.history_file.proofs.headed.HeadedContents.judge_chunk.Goals as goal

pub returns : goal.returns
returns g c = shown_alike (λ meaning. LineShows meaning) _ _ (sym (g.met.B.Body.says c.args.under)) (c.args.chunk.now ∷ []) c.judge.result c.judge.ensures
