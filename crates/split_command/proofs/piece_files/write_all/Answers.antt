use Rattle.std.proofs.Common.{◌<◌, get_or, length, arith}
use Rattle.std.proofs.lemmas.Option.{slice_get-get_or}
use Rattle.tag.proofs.Lists.{item_at}
use Rattle.split_command.proofs.Filling.{all_sent_to, one_more_sent}
use Rattle.split_command.proofs.piece_files.write_all.Goals as goal

pub loop-piece-preserved : goal.loop-piece-preserved
loop-piece-preserved g c = λ pieces are.
    let now = c.loop-piece.writers in
    let p = c.loop-piece.piece in
    let at_v = item_at c.args.texts.now p c.index-texts-piece.result (omega (arith, c.loop-piece-test.true)) c.index-texts-piece.is in
    let within : p < length now = omega (arith, c.loop-piece-test.true, c.loop-piece.auto.writers, c.requires) in
    let w = get_or now p c.index-writers-piece.result in
    let at_w = slice_get-get_or now p c.index-writers-piece.result within in
    one_more_sent g.W.Write.contents pieces c.args.texts.now c.args.writers.now now p w c.write_text.new.writer
    c.index-texts-piece.result at_w at_v (rw c.as_slice.ensures.value at c.in_ok-write_text.ensures.written) are
    (c.loop-piece.invariant pieces are)

pub returns-clause-texts : goal.returns-clause-texts
returns-clause-texts g c = λ pieces are.
    all_sent_to g.W.Write.contents pieces c.args.writers.now c.loop-piece.writers c.loop-piece.piece
    (omega (arith, c.loop-piece-test.false, c.loop-piece.auto.writers, c.requires)) (c.loop-piece.invariant pieces are)
