use Rattle.std.proofs.Common.{arith, ◌≡◌, [], ◌∷◌, None, Some, cond, ap, ◌∙◌, refl, length, length-append, ℕ}
use Rattle.std.proofs.lemmas.Option.{slice_get_within}
use Rattle.std.proofs.lemmas.Result.{err_from_is_err_and}
use Rattle.recorder.specs.Histories.{MayFollow, call_count}
use Rattle.recorder.specs.States.{rows_of}
use Rattle.recorder.proofs.RowCounts.{room-more, row_count-set, rows_of-answered}
use Rattle.recorder.specs.declared.row.Row.TheVariants.{Respond}
use Rattle.recorder.proofs.Numbers.{count_push, IsWellFormed-push}
use Rattle.recorder.proofs.States.{not_pending, pending_from, states_respond, waits_from}
use Rattle.recorder.proofs.Keeps.{IsKept-same}
use Rattle.recorder.proofs.KeptCalls.{kept_respond}
use Rattle.recorder.proofs.Busy.{busy_respond, not_busy_respond}
use Rattle.recorder.proofs.Answering.{kind_differs, kind_fits, may_respond, is_done}
use Rattle.recorder.proofs.history.History.respond_text.Goals as goal

pub returns-in_default : goal.returns-in_default
returns-in_default c = rw (← c.self.view_is) (not_pending c.self.inside.record.rows.rows c.self.inside.record.states.items c.self.invariant.formed c.self.invariant.states c.args.op (rw c.deref.ensures.value at c.in_default.ensures.none), refl)

pub returns-then-state-is_none : goal.returns-then-state-is_none
returns-then-state-is_none c =
    let w = waits_from c.self.invariant.states c.args.op c.in-Some.state (rw c.deref.ensures.value at c.in-Some.ensures.some) in
    rw (← c.self.view_is) ((c.in-Some.state.client, w.0.action, pending_from c.self.inside.record.rows.rows c.args.op c.in-Some.state w.0 w.1, kind_differs w.0.action c.args.returned.now c.in-Some.state.is_write c.is_none.result w.0.kind (is_done c.args.returned.now c.answered.result c.is_none.result c.is_none.ensures c.answered.ensures.done c.answered.ensures.read) c.if-state-is_none.true), refl)

pub index_mut-requires : goal.index_mut-requires
index_mut-requires c = omega (arith, slice_get_within c.self.inside.record.states.items c.args.op.0 c.in-Some.state (rw c.deref.ensures.value at c.in-Some.ensures.some).0, c.self.inside.record.states.ok.0)

pub returns-in_err-value : goal.returns-in_err-value
returns-in_err-value c =
    let w = waits_from c.self.invariant.states c.args.op c.in-Some.state (rw c.deref.ensures.value at c.in-Some.ensures.some) in
    let p = err_from_is_err_and c.from_residual.result c.from_residual.ensures.1 in
    rw (p.1, p.2) (rw (← c.self.view_is) (may_respond c.self.inside.record.rows.rows c.args.op c.in-Some.state w.0 c.args.returned.now c.is_none.result w.1 (is_done c.args.returned.now c.answered.result c.is_none.result c.is_none.ensures c.answered.ensures.done c.answered.ensures.read) c.if-state-is_none.false, rw c.in_err-value.ensures.err refl))

pub push_respond-requires : goal.push_respond-requires
push_respond-requires c =
    let h = c.self.inside in
    let some = rw c.deref.ensures.value at c.in-Some.ensures.some in
    room-more h.record.states.items _ c.args.op.0 h.limit (call_count h.record.rows.rows) c.in-Some.state (record c.in-Some.state { response = Some 0; value = None }) some.0 (rows_of-answered c.in-Some.state 0 None some.1) c.self.invariant.few c.self.invariant.states.all c.self.invariant.room c.self.invariant.limit

pub invariant_of-self : goal.invariant_of-self
invariant_of-self c = IsKept-same c.self.inside _ c.self.invariant c.in_err-value.ensures.err refl (λ client. refl) refl

pub invariant_of-self-2 : goal.invariant_of-self-2
invariant_of-self-2 c =
    let rows = c.self.inside.record.rows.rows in
    let some = rw c.deref.ensures.value at c.in-Some.ensures.some in
    let d = c.self.invariant.states.each c.args.op c.in-Some.state some.0 in
    let place : c.len-place.result ≡ length rows = c.len-place.ensures.count in
    let pending = pending_from rows c.args.op c.in-Some.state d some.1 in
    let may : MayFollow rows (Respond c.args.op c.args.returned.now) = may_respond rows c.args.op c.in-Some.state d c.args.returned.now c.is_none.result some.1 (is_done c.args.returned.now c.answered.result c.is_none.result c.is_none.ensures c.answered.ensures.done c.answered.ensures.read) c.if-state-is_none.false in
    let fits = kind_fits d.action c.args.returned.now c.in-Some.state.is_write c.is_none.result d.kind (is_done c.args.returned.now c.answered.result c.is_none.result c.is_none.ensures c.answered.ensures.done c.answered.ensures.read) c.if-state-is_none.false in
    let value = cond c.in-Some.state.is_write c.in-Some.state.value c.in_ok-value.value in
    let is = c.with_response.ensures ∙ ap (λ (k : ℕ). record c.in-Some.state { response = Some k; value = value }) place in
    record {
      formed = rw c.in_ok-value.ensures.ok (IsWellFormed-push rows (Respond c.args.op c.args.returned.now) c.self.invariant.formed may);
      states = rw c.in_ok-value.ensures.ok (states_respond rows c.args.op c.args.returned.now c.self.inside.record.states.items c.in-Some.state _ value c.self.invariant.states some.0 some.1 is);
      kept = kept_respond c.self.inside.record.rows _ c.args.op c.args.returned.now c.in_ok-value.ensures.ok c.in_ok-value.ensures.grows c.in-Some.state some.1 d c.in_ok-value.value c.in_ok-value.ensures.value fits c.self.inside.record.states.items _ c.self.invariant.states c.self.invariant.kept some.0 is;
      busy = λ client b. rw c.in_ok-value.ensures.ok (busy_respond rows c.self.invariant.formed c.args.op c.args.returned.now c.in-Some.state.client d.action pending client _ _ _ refl (c.remove.ensures client) (c.self.invariant.busy client) b);
      not_busy = λ client b busy. not_busy_respond rows c.self.invariant.formed c.args.op c.args.returned.now c.in-Some.state.client d.action pending client _ _ _ refl (c.remove.ensures client) (c.self.invariant.not_busy client) b (rw c.in_ok-value.ensures.ok at busy);
      room = rw c.in_ok-value.ensures.ok (omega (arith, count_push rows (Respond c.args.op c.args.returned.now), c.self.invariant.room));
      few = rw c.in_ok-value.ensures.ok (omega (arith, c.self.invariant.few, length-append rows (Respond c.args.op c.args.returned.now ∷ []), row_count-set c.self.inside.record.states.items c.args.op.0 c.in-Some.state c.with_response.result some.0, ap rows_of is, rows_of-answered c.in-Some.state (length rows) value some.1));
      limit = c.self.invariant.limit;
    }

pub returns : goal.returns
returns c =
    let w = waits_from c.self.invariant.states c.args.op c.in-Some.state (rw c.deref.ensures.value at c.in-Some.ensures.some) in
    rw (← c.self.view_is) (may_respond c.self.inside.record.rows.rows c.args.op c.in-Some.state w.0 c.args.returned.now c.is_none.result w.1 (is_done c.args.returned.now c.answered.result c.is_none.result c.is_none.ensures c.answered.ensures.done c.answered.ensures.read) c.if-state-is_none.false, rw c.in_ok-value.ensures.ok refl)
