use Rattle.std.proofs.Common.{arith}
use Rattle.tag.proofs.Lists.{item_at}
use Rattle.split_command.proofs.Filling.{ok_then, relieved}
use Rattle.split_command.proofs.piece_files.PieceFiles.relieve.Goals as goal

pub returns-clause-texts : goal.returns-clause-texts
returns-clause-texts g c =
    let old = c.args.self.now in
    let p = c.args.piece in
    let one = old.one in
    let at_v = item_at old.waiting.items p c.index_mut.result.now (omega (arith, c.requires, one)) c.index_mut.ensures.value in
    let at_w = item_at old.writers.items p c.index_mut-2.result.now (omega (arith, c.requires)) c.index_mut-2.ensures.value in
    ok_then c.relieve.result
    (λ sent texts are. relieved g.W.Write.contents texts old.writers.items old.waiting.items p c.index_mut-2.result.now c.relieve.new.writer
    c.index_mut.result.now c.relieve.new.batch at_w at_v sent are) c.relieve.ensures.sent
