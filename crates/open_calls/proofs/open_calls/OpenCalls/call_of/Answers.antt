use Rattle.std.proofs.Common.{◌≡◌, Some, None, sym}
use Rattle.open_calls.specs.Numbered.{value_in}
use Rattle.open_calls.proofs.Views.{call_found, no_call}
use Rattle.open_calls.proofs.open_calls.OpenCalls.call_of.Goals as goal

pub returns-in-Some : goal.returns-in-Some
returns-in-Some g c =
    let i = c.self.inside in
    let kept = c.self.invariant in
    let at : Some c.in-Some.number.now ≡ value_in i.clients c.args.client = rw (c.from.ensures, c.get.ensures.name) at c.in-Some.ensures in
    rw (← c.self.view_is) (call_found i.begun i.calls kept.calls_fit (value_in i.clients) kept.indexed c.args.client c.in-Some.number.now (sym at))

pub returns-in-None : goal.returns-in-None
returns-in-None g c =
    let i = c.self.inside in
    let kept = c.self.invariant in
    let none : None ≡ value_in i.clients c.args.client = rw (c.from.ensures, c.get.ensures.name) at c.in-None.ensures in
    rw (← c.self.view_is) (no_call i.begun i.calls kept.calls_fit (value_in i.clients) kept.indexed c.args.client none)
