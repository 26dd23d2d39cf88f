use Rattle.std.proofs.Common.{arith, ◌≡◌, ◌≤◌, Some, sym, ap, ◌∙◌, length, ltb-true}
use Rattle.std.specs.List.{slice_get}
use Rattle.std.proofs.lemmas.Option.{slice_get-get_or}
use Rattle.recorder.proofs.Callers.{caller_of_state, caller_missing}
use Rattle.recorder.proofs.history.History.caller.Goals as goal

pub returns-in-Some : goal.returns-in-Some
returns-in-Some c =
    let h = c.self.inside in
    let items = h.record.states.items in
    let state = c.in-Some.state.now in
    let found = rw c.deref.ensures.value at c.in-Some.ensures.lookup in
    let at : slice_get items c.args.op.0 ≡ Some state = slice_get-get_or items c.args.op.0 state (ltb-true c.args.op.0 (length items) (sym found.0)) ∙ ap Some (sym found.1) in
    rw (← c.self.view_is) (sym (caller_of_state h.record.rows.rows c.self.invariant.formed items c.self.invariant.states c.args.op state at))

pub returns-in-None : goal.returns-in-None
returns-in-None c =
    let h = c.self.inside in
    let missed = rw c.deref.ensures.value at c.in-None.ensures.lookup in
    let above : length h.record.states.items ≤ c.args.op.0 = missed.3 in
    rw (← c.self.view_is) (sym (caller_missing h.record.rows.rows c.self.invariant.formed c.args.op (λ below. omega (arith, above, below, c.self.invariant.states.all))))
