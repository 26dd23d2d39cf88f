use Rattle.std.proofs.Common.{[]}
use Rattle.counted_devices.proofs.Leaving.{Leaves-none, Leaves-kept}
use Rattle.counted_devices.proofs.sending.write_text.Goals as goal

pub returns-in-Err-clause-begun : goal.returns-in-Err-clause-begun
returns-in-Err-clause-begun g c =
    let old = g.W.Write.contents c.args.writer.now in
    let sent = g.W.Write.contents c.write_all.new.writer in
    ([], Leaves-kept old sent (g.W.Write.contents c.flush_counted.new.self) c.args.text.now [] (Leaves-none old sent c.args.text.now c.in_ok-write_all.ensures.sent) c.in-Err.ensures.bytes)
