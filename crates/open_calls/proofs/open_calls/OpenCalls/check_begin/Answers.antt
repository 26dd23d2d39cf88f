use Rattle.std.proofs.Common.{◌≡◌, arith, sym, ◌∙◌}
use Rattle.open_calls.proofs.Views.{found_one}
use Rattle.open_calls.proofs.open_calls.OpenCalls.check_begin.Goals as goal

pub returns-then-is_some-clause-err : goal.returns-then-is_some-clause-err
returns-then-is_some-clause-err g c =
    let next : c.args.op.0 ≡ c.self.inside.begun = omega (arith, c.from.ensures, c.if-from-self.false) in
    (rw (← c.self.view_is) next, found_one c.args.self.now c.args.client c.call_of.result c.call_of.ensures (sym c.is_some.ensures ∙ c.if-is_some.true))
