use Rattle.std.proofs.Common.{[], sym, refl, arith}
use Rattle.std.proofs.lemmas.List.{append-nil}
use Rattle.tag.proofs.Lists.{same_push}
use Rattle.recorder.proofs.Tables.{kept-same, pushed, seen-other, shown-pushed, room, extends, same-table}
use Rattle.recorder.proofs.row_table.RowTable.push_respond.Goals as goal

pub invariant_of-self-in_err-row : goal.invariant_of-self-in_err-row
invariant_of-self-in_err-row c = kept-same c.self.inside _ c.self.invariant c.in_ok-reserve.ensures.items c.in_err-row.ensures.err refl

pub invariant_of-self-2 : goal.invariant_of-self-2
invariant_of-self-2 c =
    let t = c.self.inside in
    let k = c.in_ok-row.ensures.ok in
    pushed t _ c.self.invariant _ [] k.more (same_push t.rows.items _ _ _ c.in_ok-reserve.ensures.items c.in_ok-push.ensures.items) (sym (append-nil t.keys)) k.texts
    (room t c.args.self.now c.self.view_is c.requires) (k.there t.keys) k.short (omega (arith, c.self.invariant.keys))
    (seen-other t (record { rows = c.push.new.self; texts = c.keep_answer.new.texts; keys = t.keys }) c.self.invariant _ [] k.more (same_push t.rows.items _ _ _ c.in_ok-reserve.ensures.items c.in_ok-push.ensures.items) (sym (append-nil t.keys)) k.texts _ (k.shown t.keys) refl (λ key b. let e = b.3 in absurd (cc)))

pub returns-clause-ok : goal.returns-clause-ok
returns-clause-ok c =
    let t = c.self.inside in
    let k = c.in_ok-row.ensures.ok in
    shown-pushed t (record { rows = c.push.new.self; texts = c.keep_answer.new.texts; keys = t.keys }) c.args.self.now c.self.view_is c.self.invariant _ [] k.more
    (same_push t.rows.items _ _ _ c.in_ok-reserve.ensures.items c.in_ok-push.ensures.items) (sym (append-nil t.keys)) k.texts _ (k.shown t.keys)

pub returns-clause-grows : goal.returns-clause-grows
returns-clause-grows c =
    let t = c.self.inside in
    let k = c.in_ok-row.ensures.ok in
    extends t (record { rows = c.push.new.self; texts = c.keep_answer.new.texts; keys = t.keys }) c.args.self.now c.self.view_is [] k.more (sym (append-nil t.keys)) k.texts

pub returns-clause-value : goal.returns-clause-value
returns-clause-value c = rw c.span_of.ensures c.in_ok-row.ensures.ok.value

pub returns-in_err-row-clause-err : goal.returns-in_err-row-clause-err
returns-in_err-row-clause-err c =
    let t = c.self.inside in
    same-table _ t (record { rows = c.reserve.new.self; texts = c.keep_answer.new.texts; keys = t.keys }) c.args.self.now c.self.view_is c.in_ok-reserve.ensures.items c.in_err-row.ensures.err refl
