use Rattle.file_format.proofs.WritingOn.{breaks_at_once, breaks_off, writes_but}
use Rattle.file_format.proofs.writing.write_row.Goals as goal

pub returns-in_err-append_row-clause-broken : goal.returns-in_err-append_row-clause-broken
returns-in_err-append_row-clause-broken g c =
    breaks_at_once g.W.Write.contents g.W.Counted.failures c.from_residual.result c.args.writer.now _ c.from_residual.ensures.1

pub returns-clause-sent : goal.returns-clause-sent
returns-clause-sent g c =
    rw (← c.in_ok-append_row.ensures.text)
    (writes_but g.W.Write.contents g.W.Counted.failures c.relieve.result c.args.writer.now c.relieve.new.writer
    c.append_row.new.out.items c.relieve.new.batch.items c.relieve.ensures.sent c.relieve.ensures.counted)

pub returns-clause-broken : goal.returns-clause-broken
returns-clause-broken g c =
    rw (← c.in_ok-append_row.ensures.text)
    (breaks_off g.W.Write.contents g.W.Counted.failures c.relieve.result c.args.writer.now c.relieve.new.writer
    c.append_row.new.out.items c.relieve.ensures.begun c.relieve.ensures.device)
