use Rattle.value_order.proofs.KnownFirsts.{firsts_read}
use Rattle.value_order.proofs.classes.class_of_write.Goals as goal

pub returns-in-None-clause-kept : goal.returns-in-None-clause-kept
returns-in-None-clause-kept c = firsts_read c.args.part.now c.args.i c.args.firsts.now.slots.items c.args.firsts.now.others c.requires.firsts c.call.result c.call.ensures c.in-None.ensures.read
