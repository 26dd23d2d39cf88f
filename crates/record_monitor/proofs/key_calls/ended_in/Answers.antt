use Rattle.std.proofs.Common.{rules, tests}
use Rattle.std.proofs.lemmas.Iterator.{YieldsList-from_slice}
use Rattle.std.proofs.lemmas.Iterator.Search.{find_from_yields_List}
use Rattle.record_monitor.specs.KeyCalls.{is_ended_at}
use Rattle.record_monitor.proofs.key_calls.ended_in.Goals as goal

pub returns : goal.returns
returns c = find_from_yields_List (is_ended_at c.args.place) _ _ _ c.find.ensures.ran (YieldsList-from_slice c.args.calls.now cc)
    (λ x b q k. search (rules, tests))
