use Rattle.file_format.proofs.judge_lines.judge.Goals as goal

pub returns : goal.returns
returns g c = c.judged.ensures (g.T.LineItem.meaning c.args.header) c.args.line.now c.read.ensures
