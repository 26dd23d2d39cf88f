use Rattle.scenes.proofs.Around.{none_asked}
use Rattle.scenes.proofs.windows.index_of.Goals as goal

pub returns-in-Some-clause-none : goal.returns-in-Some-clause-none
returns-in-Some-clause-none c =
    none_asked c.args.part.now c.args.op c.in-Some.op c.find_call.result c.in-Some.is c.find_call.ensures.none
