use Rattle.std.proofs.Common.{[], sym, refl, arith}
use Rattle.std.proofs.lemmas.List.{append-nil}
use Rattle.recorder.proofs.Tables.{pushed, seen-other, room, extends}
use Rattle.recorder.proofs.row_table.RowTable.push_note.Goals as goal

pub invariant_of-self-2 : goal.invariant_of-self-2
invariant_of-self-2 c =
    let t = c.self.inside in
    pushed t _ c.self.invariant _ [] [] c.in_ok-push.ensures.items (sym (append-nil t.keys)) (sym (append-nil t.texts.items))
    (room t c.args.self.now c.self.view_is c.requires) tt (omega (arith)) (omega (arith, c.self.invariant.keys))
    (seen-other t (record { rows = c.push.new.self; texts = t.texts; keys = t.keys }) c.self.invariant _ [] [] c.in_ok-push.ensures.items (sym (append-nil t.keys)) (sym (append-nil t.texts.items)) _ refl refl (λ key b. let e = b.3 in absurd (cc)))

pub returns-clause-grows : goal.returns-clause-grows
returns-clause-grows c =
    let t = c.self.inside in
    extends t (record { rows = c.push.new.self; texts = t.texts; keys = t.keys }) c.args.self.now c.self.view_is [] [] (sym (append-nil t.keys)) (sym (append-nil t.texts.items))
