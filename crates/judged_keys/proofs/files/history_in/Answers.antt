use Rattle.std.proofs.Common.{List, subst, sym}
use Rattle.tag.proofs.Options.{none_some}
use Rattle.recorder.specs.declared.order.KeyOrder.{KeyOrder}
use Rattle.parallel_keys.specs.CheckedKeys.{AreDistinct}
use Rattle.judged_keys.proofs.Ending.{lines_of_each}
use Rattle.judged_keys.proofs.files.history_in.Goals as goal

pub returns-in-Ok-clause-judged : goal.returns-in-Ok-clause-judged
returns-in-Ok-clause-judged g c =
    let read = c.in-Ok.ensures.read.fact.1 in
    record {
      lines = lines_of_each read.header read.items c.in-Ok.numbered read.made;
      distinct = subst (λ (orders : List KeyOrder). AreDistinct orders) (sym c.new.ensures.items) (λ i j a b lt at_i at_j same. none_some at_i);
    }
