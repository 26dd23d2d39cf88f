use Rattle.std.proofs.Common.{◌∙◌, ap, is_some}
use Rattle.open_calls.proofs.Answers.{pending_test}
use Rattle.open_calls.proofs.Views.{copied_some}
use Rattle.open_calls.proofs.open_calls.OpenCalls.is_pending.Goals as goal

pub returns : goal.returns
returns g c = λ rows keeps. pending_test rows c.args.self.now keeps c.args.op c.is_some.result (c.is_some.ensures ∙ (copied_some c.call.result ∙ ap is_some c.call.ensures))
