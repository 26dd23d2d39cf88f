use Rattle.open_calls.proofs.Answers.{busy_test}
use Rattle.open_calls.proofs.open_calls.OpenCalls.is_busy.Goals as goal

pub returns : goal.returns
returns g c = λ rows formed keeps. busy_test rows c.args.self.now keeps formed c.args.client c.call_of.result c.call_of.ensures c.is_some.result c.is_some.ensures
