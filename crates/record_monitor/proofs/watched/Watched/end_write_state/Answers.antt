use Rattle.record_monitor.proofs.Steps.{if_some, on_ok_three, write_step}
use Rattle.record_monitor.proofs.watched.Watched.end_write_state.Goals as goal

pub returns-in-Some-clause-follows : goal.returns-in-Some-clause-follows
returns-in-Some-clause-follows c =
    on_ok_three c.end_write.result (λ follow held kept rows key gone value client formed e begun may stays f.
    write_step rows key gone value client c.args.place c.args.op c.args.self.now.is_doubtful c.in-Some.state c.end_write.new.self
    follow held kept formed e begun may stays (if_some _ c.args.self.now.state c.in-Some.state c.in-Some.is f))
    c.end_write.ensures.follows c.end_write.ensures.held c.end_write.ensures.kept
