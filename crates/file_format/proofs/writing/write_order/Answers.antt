use Rattle.std.proofs.Common.{◌++◌, ◌∙◌, arith, length-take-le}
use Rattle.std.proofs.lemmas.List.{take_rest}
use Rattle.file_format.specs.Texts.{order_text}
use Rattle.file_format.proofs.OrderPieces.{Leaves-piece, AppendsPrefix-piece, Leaves-last, AppendsPrefix-last}
use Rattle.file_format.proofs.EachElement.{ops_both}
use Rattle.file_format.proofs.WritingOn.{breaks_behind, breaks_with, writes_behind}
use Rattle.file_format.proofs.writing.write_order.Goals as goal

pub slice_bounds-write_piece-end : goal.slice_bounds-write_piece-end
slice_bounds-write_piece-end g c = omega (arith, length-take-le 1000 c.loop-rest.rest.now (omega arith))

pub returns-in_err-write_piece-clause-broken : goal.returns-in_err-write_piece-clause-broken
returns-in_err-write_piece-clause-broken g c =
    let at = c.loop-rest in
    let contents = g.W.Write.contents in
    breaks_with contents g.W.Counted.failures c.args.writer.now at.writer c.write_piece.new.writer (c.args.batch.now.items
    ++ order_text c.args.order.now) at.invariant.same c.from_residual.result _ _
    (λ begun. AppendsPrefix-piece (contents c.args.writer.now) (contents at.writer) (contents c.write_piece.new.writer)
    (c.args.batch.now.items ++ order_text c.args.order.now) at.batch.items c.args.order.now.key at.rest.now c.loop-rest-test.true
    at.invariant.left begun)
    c.from_residual.ensures.1 c.in_err-write_piece.ensures.broken

pub loop-rest-preserved : goal.loop-rest-preserved
loop-rest-preserved g c =
    let at = c.loop-rest in
    let contents = g.W.Write.contents in
    record {
      left = rw (take_rest at.rest.now 1000)
          (Leaves-piece (contents c.args.writer.now) (contents at.writer) (contents c.write_piece.new.writer) (c.args.batch.now.items
          ++ order_text c.args.order.now) at.batch.items c.args.order.now.key at.rest.now c.write_piece.new.batch.items
          c.loop-rest-test.true at.invariant.left c.in_ok-write_piece.ensures.sent.sent);
      range = rw (take_rest at.rest.now 1000)
          (λ behind. at.invariant.range (ops_both 1000 at.rest.now c.in_ok-write_piece.ensures.range.calls behind));
      same = c.in_ok-write_piece.ensures.sent.counted ∙ at.invariant.same;
    }

pub returns-clause-sent : goal.returns-clause-sent
returns-clause-sent g c =
    let at = c.loop-rest in
    let contents = g.W.Write.contents in
    writes_behind contents g.W.Counted.failures c.args.writer.now at.writer c.write_piece-2.new.writer (c.args.batch.now.items
    ++ order_text c.args.order.now) at.invariant.same c.write_piece-2.result _ c.write_piece-2.new.batch.items _
    (Leaves-last (contents c.args.writer.now) (contents at.writer) (contents c.write_piece-2.new.writer) (c.args.batch.now.items
    ++ order_text c.args.order.now) at.batch.items c.args.order.now.key at.rest.now c.write_piece-2.new.batch.items (omega arith)
    at.invariant.left)
    c.write_piece-2.ensures.sent

pub returns-clause-broken : goal.returns-clause-broken
returns-clause-broken g c =
    let at = c.loop-rest in
    let contents = g.W.Write.contents in
    breaks_behind contents g.W.Counted.failures c.args.writer.now at.writer c.write_piece-2.new.writer (c.args.batch.now.items
    ++ order_text c.args.order.now) at.invariant.same c.write_piece-2.result _
    (AppendsPrefix-last (contents c.args.writer.now) (contents at.writer) (contents c.write_piece-2.new.writer) (c.args.batch.now.items
    ++ order_text c.args.order.now) at.batch.items c.args.order.now.key at.rest.now (omega arith) at.invariant.left)
    c.write_piece-2.ensures.broken
