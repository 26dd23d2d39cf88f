use Rattle.std.proofs.Common.{◌≡◌, List, arith, false, subst, sym, ◌∙◌}
use Rattle.std.proofs.lemmas.List.{take_all}
use Rattle.cli.specs.Hints.{has_note, have_notes}
use Rattle.cli.specs.Justifications.{KeyPart}
use Rattle.cli.proofs.AnyNote.{none_more, one_at}
use Rattle.cli.proofs.notes.hall_has_note.Goals as goal

pub loop-place-preserved : goal.loop-place-preserved
loop-place-preserved c =
    none_more (λ (entry : KeyPart). has_note entry.1) c.args.own.now.entries c.loop-place.place c.entry-part.result c.entry-part.ensures
    (sym c.has_note.ensures ∙ c.if-has_note.false) c.loop-place.invariant

pub returns-then-has_note : goal.returns-then-has_note
returns-then-has_note c =
    sym (one_at (λ (entry : KeyPart). has_note entry.1) c.args.own.now.entries c.loop-place.place c.entry-part.result c.entry-part.ensures
    (sym c.has_note.ensures ∙ c.if-has_note.true))

pub returns : goal.returns
returns c =
    sym (subst (λ (l : List KeyPart). have_notes l ≡ false) (take_all c.loop-place.place c.args.own.now.entries (omega (arith, c.len-place-end.ensures, c.loop-place-test.false, c.loop-place.auto.place-end)))
    c.loop-place.invariant)
