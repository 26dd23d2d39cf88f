use Rattle.std.proofs.Common.{ℕ, Bool, None, ap₂, ◌∙◌, refl}
use Rattle.recorder.specs.Histories.{call_count}
use Rattle.recorder.proofs.Keeps.{IsKept-same, IsKept-begun, idle-again, written-kind}
use Rattle.recorder.proofs.RowCounts.{room-begin}
use Rattle.recorder.proofs.history.History.begin.Goals as goal

pub push_invoke-requires-clause-few : goal.push_invoke-requires-clause-few
push_invoke-requires-clause-few c =
    let h = c.self.inside in
    let may = rw (← c.self.view_is) at c.requires.may in
    room-begin h.record.states.items _ h.limit (call_count h.record.rows.rows) c.self.invariant.few c.self.invariant.states.all may.0 c.self.invariant.limit

pub invariant_of-self : goal.invariant_of-self
invariant_of-self c = IsKept-same c.self.inside _ c.self.invariant refl c.in_err-reserve.ensures.items (λ client. refl) refl

pub invariant_of-self-in_err-insert : goal.invariant_of-self-in_err-insert
invariant_of-self-in_err-insert c = IsKept-same c.self.inside _ c.self.invariant refl c.in_ok-reserve.ensures.items c.in_err-insert.ensures.err refl

pub invariant_of-self-in_default : goal.invariant_of-self-in_default
invariant_of-self-in_default c =
    let may = rw (← c.self.view_is) at c.requires.may in
    IsKept-same c.self.inside _ c.self.invariant c.in_default.ensures.err c.in_ok-reserve.ensures.items
    (idle-again c.self.inside c.self.invariant c.args.client may.1 _ _ c.in_ok-insert.ensures.ok c.remove.ensures) refl

pub invariant_of-self-2 : goal.invariant_of-self-2
invariant_of-self-2 c =
    let fresh = rw (← c.self.view_is) at c.requires.next in
    let may = rw (← c.self.view_is) at c.requires.may in
    let kept = c.in-Ok.ensures in
    let kind = c.is_some-is_write.ensures ∙ written-kind c.args.action.now c.written.result c.written.ensures.read c.written.ensures.write in
    let is = ap₂ (λ (b : Bool) (k : ℕ). record { client = c.args.client; note = None; key = c.in-Ok.key; is_write = b; invoked = k; response = None; value = c.in-Ok.value }) kind c.len-invoked.ensures.count in
    IsKept-begun c.self.inside _ c.self.invariant c.args.op c.args.client c.args.key.now c.args.action.now _ _ _ fresh may.0 may.1 is kept.ok kept.grows kept.key kept.value (rw c.in_ok-reserve.ensures.items at c.in_ok-push.ensures.items) c.in_ok-insert.ensures.ok refl
