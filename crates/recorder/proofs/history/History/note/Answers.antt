use Rattle.std.proofs.Common.{arith, ◌≡◌, [], ◌∷◌, Some, ap, sym, ◌∙◌, refl, None, length-append}
use Rattle.std.proofs.lemmas.Option.{slice_get_within}
use Rattle.recorder.specs.declared.record.CallState.{CallState}
use Rattle.std.proofs.lemmas.Result.{err_from_is_err_and}
use Rattle.recorder.specs.Histories.{MayFollow, call_count}
use Rattle.recorder.specs.States.{rows_of}
use Rattle.recorder.proofs.RowCounts.{room-more, row_count-set, rows_of-noted}
use Rattle.recorder.specs.declared.row.Row.TheVariants.{Note}
use Rattle.tag.proofs.Options.{none_from_is_some}
use Rattle.recorder.proofs.Numbers.{count_push, IsWellFormed-push}
use Rattle.recorder.proofs.States.{not_pending, pending_from, has_note, may_note, state_there, states_note, waits_from}
use Rattle.recorder.proofs.Keeps.{IsKept-same}
use Rattle.recorder.proofs.KeptCalls.{kept_note}
use Rattle.recorder.proofs.Busy.{busy_note, busy_note_back}
use Rattle.recorder.proofs.history.History.note.Goals as goal

pub returns-in_default : goal.returns-in_default
returns-in_default c = rw (← c.self.view_is) (not_pending c.self.inside.record.rows.rows c.self.inside.record.states.items c.self.invariant.formed c.self.invariant.states c.args.op (rw c.deref.ensures.value at c.in_default.ensures.none), refl)

pub returns-then-is_some : goal.returns-then-is_some
returns-then-is_some c =
    let w = waits_from c.self.invariant.states c.args.op c.in-Some.state (rw c.deref.ensures.value at c.in-Some.ensures.some) in
    rw (← c.self.view_is) (((c.in-Some.state.client, w.0.action, pending_from c.self.inside.record.rows.rows c.args.op c.in-Some.state w.0 w.1), has_note c.self.inside.record.rows.rows c.args.op c.in-Some.state w.0 (sym c.is_some.ensures ∙ c.if-is_some.true)), refl)

pub index_mut-requires : goal.index_mut-requires
index_mut-requires c = omega (arith, slice_get_within c.self.inside.record.states.items c.args.op.0 c.in-Some.state (rw c.deref.ensures.value at c.in-Some.ensures.some).0, c.self.inside.record.states.ok.0)

pub returns-in_err-push_note : goal.returns-in_err-push_note
returns-in_err-push_note c =
    let w = waits_from c.self.invariant.states c.args.op c.in-Some.state (rw c.deref.ensures.value at c.in-Some.ensures.some) in
    let none : c.in-Some.state.note ≡ None = none_from_is_some c.in-Some.state.note (sym c.is_some.ensures ∙ c.if-is_some.false) in
    let p = err_from_is_err_and c.from_residual.result c.from_residual.ensures.1 in
    rw (p.1, p.2) (rw (← c.self.view_is) (may_note c.self.inside.record.rows.rows c.args.op c.in-Some.state w.0 c.args.tag w.1 none, rw c.in_err-push_note.ensures.err refl))

pub push_note-requires : goal.push_note-requires
push_note-requires c =
    let h = c.self.inside in
    let some = rw c.deref.ensures.value at c.in-Some.ensures.some in
    let none : c.in-Some.state.note ≡ None = none_from_is_some c.in-Some.state.note (sym c.is_some.ensures ∙ c.if-is_some.false) in
    room-more h.record.states.items _ c.args.op.0 h.limit (call_count h.record.rows.rows) c.in-Some.state (record c.in-Some.state { note = Some c.args.tag }) some.0 (rows_of-noted c.in-Some.state c.args.tag none) c.self.invariant.few c.self.invariant.states.all c.self.invariant.room c.self.invariant.limit

pub invariant_of-self : goal.invariant_of-self
invariant_of-self c = IsKept-same c.self.inside _ c.self.invariant c.in_err-push_note.ensures.err refl (λ client. refl) refl

pub invariant_of-self-2 : goal.invariant_of-self-2
invariant_of-self-2 c =
    let rows = c.self.inside.record.rows.rows in
    let some = rw c.deref.ensures.value at c.in-Some.ensures.some in
    let none : c.in-Some.state.note ≡ None = none_from_is_some c.in-Some.state.note (sym c.is_some.ensures ∙ c.if-is_some.false) in
    let same = state_there c.self.inside.record.states.items c.args.op.0 c.in-Some.state c.index_mut.result.now some.0 c.index_mut.ensures.value in
    let may : MayFollow rows (Note c.args.op c.args.tag) = may_note rows c.args.op c.in-Some.state (c.self.invariant.states.each c.args.op c.in-Some.state some.0) c.args.tag some.1 none in
    record {
      formed = rw c.in_ok-push_note.ensures.ok (IsWellFormed-push rows (Note c.args.op c.args.tag) c.self.invariant.formed may);
      states = rw c.in_ok-push_note.ensures.ok (states_note rows c.args.op c.args.tag c.self.inside.record.states.items c.in-Some.state _ c.self.invariant.states some.0 none (ap (λ (s : CallState). record s { note = Some c.args.tag }) same));
      kept = kept_note c.self.inside.record.rows _ c.args.op c.args.tag c.in_ok-push_note.ensures.ok c.in_ok-push_note.ensures.grows c.self.inside.record.states.items c.in-Some.state _ c.self.invariant.states c.self.invariant.kept some.0 (ap (λ (s : CallState). record s { note = Some c.args.tag }) same);
      busy = λ client b. rw c.in_ok-push_note.ensures.ok (busy_note rows c.args.op c.args.tag client (c.self.invariant.busy client b));
      not_busy = λ client b busy. c.self.invariant.not_busy client b (busy_note_back rows c.args.op c.args.tag client (rw c.in_ok-push_note.ensures.ok at busy));
      room = rw c.in_ok-push_note.ensures.ok (omega (arith, count_push rows (Note c.args.op c.args.tag), c.self.invariant.room));
      few = rw c.in_ok-push_note.ensures.ok (omega (arith, c.self.invariant.few, length-append rows (Note c.args.op c.args.tag ∷ []), row_count-set c.self.inside.record.states.items c.args.op.0 c.in-Some.state (record c.index_mut.result.now { note = Some c.args.tag }) some.0, ap (λ (s : CallState). rows_of (record s { note = Some c.args.tag })) same, rows_of-noted c.in-Some.state c.args.tag none));
      limit = c.self.invariant.limit;
    }

pub returns : goal.returns
returns c =
    let w = waits_from c.self.invariant.states c.args.op c.in-Some.state (rw c.deref.ensures.value at c.in-Some.ensures.some) in
    let none : c.in-Some.state.note ≡ None = none_from_is_some c.in-Some.state.note (sym c.is_some.ensures ∙ c.if-is_some.false) in
    rw (← c.self.view_is) (may_note c.self.inside.record.rows.rows c.args.op c.in-Some.state w.0 c.args.tag w.1 none, rw c.in_ok-push_note.ensures.ok refl)
