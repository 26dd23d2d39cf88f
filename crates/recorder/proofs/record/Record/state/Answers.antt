use Rattle.tag.proofs.Lists.{item_at}
use Rattle.recorder.proofs.States.{IsStateOf-there}
use Rattle.recorder.proofs.record.Record.state.Goals as goal

pub returns : goal.returns
returns c =
    let s = c.args.self.now in
    let state = c.index.result.now in
    let at = item_at s.states.items c.args.op.0 state c.requires.begun c.index.ensures in
    IsStateOf-there s.rows s.states.items c.args.op state at (c.requires.states.each c.args.op state at) (c.requires.kept c.args.op state at)
