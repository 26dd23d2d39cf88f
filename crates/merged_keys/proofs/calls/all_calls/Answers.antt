use Rattle.std.proofs.Common.{List, sym, subst, ◌∙◌}
use Rattle.recorder.specs.declared.part.Call.{Call}
use Rattle.store_orders.specs.Turns.{AreCallsOf}
use Rattle.merged_keys.specs.MergedKeys.{merged_key}
use Rattle.merged_keys.proofs.SameRows.{no_part, only_part}
use Rattle.merged_keys.proofs.calls.all_calls.Goals as goal

pub returns-then-len-eq0 : goal.returns-then-len-eq0
returns-then-len-eq0 c history are =
    subst (λ (calls : List Call). AreCallsOf history.rows calls) (sym c.empty.ensures)
    (no_part merged_key history.rows c.args.parts.now.entries are (sym c.len.ensures ∙ c.if-len-eq0.true))

pub returns : goal.returns
returns c history are = only_part merged_key history.rows c.args.parts.now.entries are c.entry-key.result.0 c.entry-key.result.1 c.entry-key.ensures
