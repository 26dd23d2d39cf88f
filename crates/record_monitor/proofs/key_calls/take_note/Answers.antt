use Rattle.std.proofs.Common.{◌≡◌, Some, sym, ◌∙◌, subst}
use Rattle.tag.specs.declared.numbers.OpId.{OpId}
use Rattle.tag.proofs.SameTags.{same_op}
use Rattle.monitored_key.specs.Maps.{entry_at}
use Rattle.record_monitor.specs.Told.{HasNoteAt}
use Rattle.record_monitor.proofs.key_calls.take_note.Goals as goal

pub returns-in-Some-clause-note : goal.returns-in-Some-clause-note
returns-in-Some-clause-note c = λ rows notes.
    let noted = c.in-Some.noted in
    let at : entry_at c.args.notes.now.entries c.args.begin ≡ Some noted = sym c.remove.ensures.value ∙ c.in-Some.is in
    subst (λ (o : OpId). HasNoteAt rows o noted.note) (same_op noted.op c.args.op c.if-noted-op.true) (notes c.args.begin noted at)
