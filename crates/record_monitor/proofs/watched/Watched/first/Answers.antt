use Rattle.std.proofs.Common.{◌++◌, ◌∷◌, []}
use Rattle.recorder.specs.declared.row.Row.TheVariants.{Invoke}
use Rattle.record_monitor.proofs.Steps.{first_step}
use Rattle.record_monitor.proofs.ToldRows.{told_now}
use Rattle.record_monitor.proofs.watched.Watched.first.Goals as goal

pub returns-clause-follows : goal.returns-clause-follows
returns-clause-follows c = λ rows key gone formed e may are unseen.
    let call = c.args.call.now in
    let action = c.args.action.now in
    let after = rows ++ Invoke call.op call.client key action ∷ [] in (
      first_step rows key gone call.client c.args.place call.op action c.begin_call.new.state
          (c.in_ok-begin_call.ensures.first c.new-state.ensures.nothing) c.in_ok-begin_call.ensures.next c.in_ok-begin_call.ensures.number
          c.in_ok-begin_call.ensures.kept formed
          e may are unseen,
      record {
        calls = c.in_ok-begin.ensures.knows after key (c.new-calls.ensures after key)
            (told_now rows key call action c.args.place c.requires.bare e);
        told = tt;
      },
    )
