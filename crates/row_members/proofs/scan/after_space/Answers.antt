use Rattle.std.proofs.Common.{sym, ◌∙◌, arith}
use Rattle.row_members.proofs.Pieces.{space_at}
use Rattle.row_members.proofs.scan.after_space.Goals as goal

pub loop-at-preserved : goal.loop-at-preserved
loop-at-preserved c =
    let so_far = c.loop-at.invariant in
    record {
      ahead = omega (arith, so_far.ahead);
      within = omega (arith, c.loop-at-test.true);
      lexed = so_far.lexed
          ∙ space_at c.args.line.now c.loop-at.at c.loop-at-test.true (sym c.is_space.ensures ∙ c.if-is_space.true);
    }
