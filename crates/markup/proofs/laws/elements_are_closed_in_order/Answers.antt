use Rattle.std.proofs.Common.{[]}
use Rattle.markup.proofs.Nesting.{nested}
use Rattle.markup.proofs.laws.elements_are_closed_in_order.Goals as goal

pub returns : goal.returns
returns c = λ page. nested page []
