use Rattle.std.proofs.Common.{◌≡◌, Some, IfSome, sym, ◌∙◌, subst}
use Rattle.tag.specs.declared.numbers.OpId.{OpId}
use Rattle.tag.proofs.SameTags.{same_op}
use Rattle.record_monitor.specs.Placed.{call_in}
use Rattle.record_monitor.specs.Told.{HasNoteAt}
use Rattle.record_monitor.proofs.PlacedCalls.{stays_lack, told_lack}
use Rattle.record_monitor.proofs.key_calls.take_write.Goals as goal

pub returns-in-Some-clause-note : goal.returns-in-Some-clause-note
returns-in-Some-clause-note c = λ rows key told.
    let call = c.in-Some.call in
    let at : call_in c.args.writes.now c.args.begin ≡ Some call = sym c.take.ensures.value ∙ c.in-Some.is in
    subst (λ (o : OpId). IfSome call.noted (HasNoteAt rows o)) (same_op call.op c.args.op c.if-call-op.true)
    (told c.args.begin call at).0.noted

pub returns-in-Some-clause-told : goal.returns-in-Some-clause-told
returns-in-Some-clause-told c = λ rows key told.
    told_lack rows key c.args.writes.now c.take.new.self c.args.begin
    c.take.ensures.gone told

pub returns-in_default-clause-told : goal.returns-in_default-clause-told
returns-in_default-clause-told c = λ rows key told.
    told_lack rows key c.args.writes.now c.take.new.self c.args.begin
    c.take.ensures.gone told

pub returns-in-Some-clause-stays : goal.returns-in-Some-clause-stays
returns-in-Some-clause-stays c = stays_lack (call_in c.args.writes.now) (call_in c.take.new.self) c.args.begin c.take.ensures.gone

pub returns-in_default-clause-stays : goal.returns-in_default-clause-stays
returns-in_default-clause-stays c = stays_lack (call_in c.args.writes.now) (call_in c.take.new.self) c.args.begin c.take.ensures.gone
