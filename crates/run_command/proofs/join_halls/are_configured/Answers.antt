use Rattle.std.proofs.Common.{◌<◌, length, refl, arith}
use Rattle.std.proofs.lemmas.Option.{slice_get_within}
use Rattle.run_command.specs.Records.{AreEqual}
use Rattle.tag.proofs.Lists.{each_next, item_at}
use Rattle.run_command.proofs.join_halls.are_configured.Goals as goal

pub loop-closed-preserved : goal.loop-closed-preserved
loop-closed-preserved c =
    let l = c.loop-closed in
    each_next (λ _ one. AreEqual one.config c.args.config) c.args.halls.now l.closed-index c.closed-item.result l.invariant
    (item_at c.args.halls.now l.closed-index c.closed-item.result c.loop-closed-test.true c.closed-item.is)
    (c.if-not-is_configured.ensures refl)

pub returns : goal.returns
returns c = λ _ hall closed at.
    let lt : hall < length c.args.halls.now = slice_get_within c.args.halls.now hall closed at in
    let done = c.loop-closed-test.false in
    c.loop-closed.invariant hall closed (omega (arith, lt, done)) at
