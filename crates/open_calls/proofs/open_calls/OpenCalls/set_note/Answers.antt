use Rattle.std.proofs.Common.{◌≡◌, IsSome, Some, sym, ◌∙◌}
use Rattle.open_calls.specs.Numbered.{noted_call, value_in}
use Rattle.open_calls.proofs.Keeping.{there_is}
use Rattle.open_calls.proofs.KeptCalls.{kept_noted}
use Rattle.open_calls.proofs.Mapped.{count_again, get_map}
use Rattle.open_calls.proofs.Views.{view_noted}
use Rattle.open_calls.proofs.open_calls.OpenCalls.set_note.Goals as goal

pub note-requires-clause-fit : goal.note-requires-clause-fit
note-requires-clause-fit g c = c.self.invariant.calls_fit

pub note-requires-clause-there : goal.note-requires-clause-there
note-requires-clause-there g c =
    let some : IsSome (value_in c.self.inside.calls c.args.op.0) = rw (get_map c.self.inside.calls c.self.invariant.calls_fit) at (rw (← c.self.view_is) at c.requires) in
    rw c.from.ensures some

pub invariant_of-self : goal.invariant_of-self
invariant_of-self g c =
    let i = c.self.inside in
    let kept = c.self.invariant in
    let some : IsSome (value_in i.calls c.args.op.0) = rw (get_map i.calls kept.calls_fit) at (rw (← c.self.view_is) at c.requires) in
    let t = there_is (value_in i.calls c.args.op.0) some in
    let sets = rw c.from.ensures at c.note.ensures.noted in
    kept_noted i.begun i.count i.calls i.clients kept c.args.op.0 t.0 c.note.new.self t.1 c.note.ensures.fit (sets t.0 t.1)
    (count_again i.calls c.note.new.self kept.calls_fit c.note.ensures.fit c.args.op.0 (noted_call t.0) t.0 t.1 (sets t.0 t.1))

pub returns : goal.returns
returns g c = λ call is.
    let i = c.self.inside in
    let kept = c.self.invariant in
    let at : value_in i.calls c.args.op.0 ≡ Some call = sym (get_map i.calls kept.calls_fit c.args.op.0) ∙ (rw (← c.self.view_is) at is) in
    let sets = rw c.from.ensures at c.note.ensures.noted in
    rw (← c.self.view_is) (view_noted i.calls c.note.new.self kept.calls_fit c.note.ensures.fit i.begun c.args.op.0 call (sets call at))
