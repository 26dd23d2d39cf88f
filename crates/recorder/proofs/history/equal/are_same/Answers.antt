use Rattle.std.proofs.Common.{sym, arith}
use Rattle.std.proofs.lemmas.Bool.{not-true}
use Rattle.std.proofs.lemmas.Option.{slice_get_within}
use Rattle.recorder.specs.contracts.row.RowPartialEq.TheImpl as row
use Rattle.recorder.proofs.Pairs.{pair-differs, pairs-same}
use Rattle.recorder.proofs.history.equal.are_same.Goals as goal

pub returns-then-ne : goal.returns-then-ne
returns-then-ne c = sym (pair-differs row.eq-value.it c.args.rows.now.rows c.args.others.now.rows c.loop-place.place _ _ c.row.ensures c.row-in-loop-place.ensures (not-true _ (sym c.if-ne.ensures)))

pub returns : goal.returns
returns c = sym (pairs-same row.eq-value.it c.args.rows.now.rows c.args.others.now.rows (omega (arith, c.len.ensures.count, c.len-2.ensures.count, c.if-len.false)) (λ k x y at_x at_y. c.loop-place.invariant k x y (omega (arith, slice_get_within c.args.rows.now.rows k x at_x, c.len-place-end.ensures.count, c.loop-place-test.false, c.loop-place.auto.place-end)) at_x at_y))
