use Rattle.record_monitor.proofs.Steps.{given_up_step, if_some}
use Rattle.record_monitor.proofs.watched.Watched.give_up_state.Goals as goal

pub returns-in-Some-clause-follows : goal.returns-in-Some-clause-follows
returns-in-Some-clause-follows c = λ rows key gone op client formed at pending stays f.
    given_up_step rows key gone op client c.args.begin c.args.self.now.is_doubtful c.in-Some.state c.give_up.new.self
    c.give_up.ensures.follows c.give_up.ensures.held c.give_up.ensures.lost formed at pending stays
    (if_some _ c.args.self.now.state c.in-Some.state c.in-Some.is f)
