use Rattle.std.proofs.lemmas.Option.{slice_get_within}
use Rattle.reasons.proofs.ListedCalls.{found_at}
use Rattle.reasons.proofs.find.find.Goals as goal

pub call-requires : goal.call-requires
call-requires c = slice_get_within c.args.part.now c.in-Some.k c.in-Some.ensures.found.0 c.in-Some.ensures.found.1

pub returns-in-Some-clause-found : goal.returns-in-Some-clause-found
returns-in-Some-clause-found c = found_at c.args.part.now c.in-Some.k c.args.op c.call.result c.call.ensures c.in-Some.ensures.found

pub returns-in-None-clause-none : goal.returns-in-None-clause-none
returns-in-None-clause-none c = λ call found. c.in-None.ensures.none call found.0 found.1
