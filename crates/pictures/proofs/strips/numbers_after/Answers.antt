use Rattle.pictures.proofs.Heads.{numbers_last, numbers_step}
use Rattle.pictures.proofs.strips.numbers_after.Goals as goal

pub loop-index-preserved : goal.loop-index-preserved
loop-index-preserved c =
    numbers_step c.args.before.now c.args.clients.now c.loop-index.index c.index-clients-index.result c.loop-index.words.items _ _ c.loop-index-test.true
    c.index-clients-index.is c.loop-index.invariant c.in_ok-say_client.ensures

pub returns : goal.returns
returns c =
    numbers_last c.args.before.now c.args.clients.now c.loop-index.index c.loop-index.words.items _ c.loop-index-test.false c.loop-index.invariant
