use Rattle.record_monitor.proofs.Steps.{begin_step, if_some, on_ok_four}
use Rattle.record_monitor.proofs.watched.Watched.begin_state.Goals as goal

pub returns-in-Some-clause-follows : goal.returns-in-Some-clause-follows
returns-in-Some-clause-follows c =
    on_ok_four c.begin_call.result (λ follow next number kept rows key gone client formed e may are f.
    begin_step rows key gone client c.args.place c.args.op c.args.action.now c.args.self.now.is_doubtful c.in-Some.state
    c.begin_call.new.state follow next number kept formed e may are (if_some _ c.args.self.now.state c.in-Some.state c.in-Some.is f))
    c.begin_call.ensures.follows c.begin_call.ensures.next c.begin_call.ensures.number
    c.begin_call.ensures.kept
