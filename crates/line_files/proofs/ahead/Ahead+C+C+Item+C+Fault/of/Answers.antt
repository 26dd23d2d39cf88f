use Rattle.line_files.proofs.FeedLemmas.{read_by}
use Rattle.line_files.proofs.Advancing.{nothing_waits}
use Rattle.line_files.proofs.ahead.Ahead+C+C+Item+C+Fault.of.Goals as goal

pub returns-clause-stands : goal.returns-clause-stands
returns-clause-stands g c = λ bytes s. (
  record {
    at = nothing_waits g.C.Contents.Shows g.C.Contents.Reads g.C.Contents.context bytes c.args.feed.progress _ (read_by g.C.Contents.Reads bytes c.args.feed s) c.new-judgements.ensures;
    fed = s.fed;
  },
  s.short,
)
