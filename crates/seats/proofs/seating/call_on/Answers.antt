use Rattle.std.proofs.Common.{◌≡◌, ◌++◌, ◌∷◌, [], ℕ, List, ap, ◌∙◌, Some}
use Rattle.std.proofs.lemmas.Result.{err_from_is_err_and}
use Rattle.tag.proofs.Lists.{same_push}
use Rattle.tag.specs.declared.actions.Action.{Action}
use Rattle.tag.specs.declared.numbers.OpId.{OpId}
use Rattle.recorder.specs.declared.part.Response.{Response}
use Rattle.recorder.specs.declared.log_entry.Entry.{Entry}
use Rattle.seats.specs.SeatFields.{seat_of}
use Rattle.seats.specs.Seats.{Seat, value_of}
use Rattle.seats.proofs.CallLeaving.{answered_leaves, found, no_memory, no_room, pending_leaves, unbegun_leaves}
use Rattle.seats.proofs.SeatChanges.{answered_is, kept_seat, pending_is, same_log}
use Rattle.seats.proofs.seating.call_on.Goals as goal
use Rattle.seats.proofs.seating.call_on.Goals.{in-Long-6, in-Short-6}

abbrev answered_entry : ℕ → OpId → List ℕ → Action → ℕ → Response → Entry
answered_entry hall op key action invoked response = record { hall = hall; op = op; key = key; action = action; invoked = invoked; response = Some response }

pub invariant_of-seat-in-Refused : goal.invariant_of-seat-in-Refused
invariant_of-seat-in-Refused g c =
    let s = seat_of c.seat.inside in
    let f = found s _ c.from-at.result c.args.transport.now.hall c.index_mut.result.now c.index-seen.result.now c.seat.invariant c.seat.view_is c.from-at.ensures c.requires.there c.index_mut.ensures.value c.index-seen.ensures in
    same_log s c.reserve.new.self.items _ c.reserve.ensures.items (kept_seat s c.from-at.result c.index_mut.result.now c.make_call.new.pass c.seat.invariant f.there c.in-Refused.ensures.outcome.1)

pub invariant_of-seat-in-Refused-2 : goal.invariant_of-seat-in-Refused-2
invariant_of-seat-in-Refused-2 g c =
    let s = seat_of c.seat.inside in
    let f = found s _ c.from-at.result c.args.transport.now.hall c.index_mut.result.now c.index-seen.result.now c.seat.invariant c.seat.view_is c.from-at.ensures c.requires.there c.index_mut.ensures.value c.index-seen.ensures in
    same_log s c.reserve.new.self.items _ c.reserve.ensures.items (kept_seat s c.from-at.result c.index_mut.result.now c.make_call.new.pass c.seat.invariant f.there c.in-Refused.ensures.outcome.1)

pub returns-in-Refused : goal.returns-in-Refused
returns-in-Refused g c =
    let s = seat_of c.seat.inside in
    let f = found s _ c.from-at.result c.args.transport.now.hall c.index_mut.result.now c.index-seen.result.now c.seat.invariant c.seat.view_is c.from-at.ensures c.requires.there c.index_mut.ensures.value c.index-seen.ensures in
    let leaves = unbegun_leaves s c.reserve.new.self.items c.from-at.result c.args.transport.now.hall c.index_mut.result.now c.make_call.new.pass c.args.key c.args.action c.index-seen.result.now c.in-Refused.error
    c.reserve.ensures.items f c.in-Refused.ensures.outcome.0 c.in-Refused.ensures.outcome.1 in
    elim c.match-kept_key-3.branch [
      | in-Long-6 w ↦ rw (w.seat-is, ← c.seat.view_is) leaves
      | in-Short-6 w ↦ rw (w.seat-is, ← c.seat.view_is) leaves
    ]

pub invariant_of-seat-in-Pending : goal.invariant_of-seat-in-Pending
invariant_of-seat-in-Pending g c =
    let s = seat_of c.seat.inside in
    let f = found s _ c.from-at.result c.args.transport.now.hall c.index_mut.result.now c.index-seen.result.now c.seat.invariant c.seat.view_is c.from-at.ensures c.requires.there c.index_mut.ensures.value c.index-seen.ensures in
    let call = c.in-Pending.ensures.outcome in
    let logged = same_push c.seat.inside.log.items c.reserve.new.self.items c.push_reserved.new.self.items _ c.reserve.ensures.items c.push_reserved.ensures.items ∙ ap (λ (e : Entry). c.seat.inside.log.items ++ e ∷ []) c.entry.ensures in
    pending_is s c.from-at.result c.args.transport.now.hall c.index_mut.result.now c.make_call.new.pass c.args.key c.in_ok-kept_key.kept_key c.args.action c.in_ok-kept_action.kept_action c.in-Pending.begun.op c.in-Pending.begun.place c.index-seen.result.now
    c.seat.invariant f.there f.saw f.same c.in_ok-kept_key.ensures.copy c.in_ok-kept_action.ensures call.began.later c.push_reserved.new.self.items logged call.middle call.began.begins call.kept

pub returns-in-Pending : goal.returns-in-Pending
returns-in-Pending g c =
    let s = seat_of c.seat.inside in
    let f = found s _ c.from-at.result c.args.transport.now.hall c.index_mut.result.now c.index-seen.result.now c.seat.invariant c.seat.view_is c.from-at.ensures c.requires.there c.index_mut.ensures.value c.index-seen.ensures in
    let logged = same_push c.seat.inside.log.items c.reserve.new.self.items c.push_reserved.new.self.items _ c.reserve.ensures.items c.push_reserved.ensures.items ∙ ap (λ (e : Entry). c.seat.inside.log.items ++ e ∷ []) c.entry.ensures in
    rw (← c.seat.view_is) (pending_leaves s c.push_reserved.new.self.items c.from-at.result c.args.transport.now.hall c.index_mut.result.now c.make_call.new.pass c.args.key c.in_ok-kept_key.kept_key c.args.action c.in_ok-kept_action.kept_action c.in-Pending.begun c.index-seen.result.now c.in-Pending.error
    c.seat.invariant f c.in_ok-kept_key.ensures.copy c.in_ok-kept_action.ensures logged c.in-Pending.ensures.outcome)

pub invariant_of-seat-in-Done : goal.invariant_of-seat-in-Done
invariant_of-seat-in-Done g c =
    let s = seat_of c.seat.inside in
    let f = found s _ c.from-at.result c.args.transport.now.hall c.index_mut.result.now c.index-seen.result.now c.seat.invariant c.seat.view_is c.from-at.ensures c.requires.there c.index_mut.ensures.value c.index-seen.ensures in
    let call = c.in-Done.ensures.outcome in
    let logged = same_push c.seat.inside.log.items c.reserve.new.self.items c.push_reserved-in-Done.new.self.items _ c.reserve.ensures.items c.push_reserved-in-Done.ensures.items
    ∙ ap (λ (e : Entry). c.seat.inside.log.items ++ e ∷ []) (c.entry-in-Done.ensures ∙ ap (answered_entry c.args.transport.now.hall c.in-Done.begun.op c.in_ok-kept_key.kept_key c.in_ok-kept_action.kept_action c.in-Done.begun.place) c.response_of-response.ensures.response) in
    answered_is s c.from-at.result c.args.transport.now.hall c.index_mut.result.now c.make_call.new.pass c.args.key c.in_ok-kept_key.kept_key c.args.action c.in_ok-kept_action.kept_action c.in-Done.begun.op c.in-Done.begun.place c.index-seen.result.now
    c.seat.invariant f.there f.saw f.same c.in_ok-kept_key.ensures.copy c.in_ok-kept_action.ensures call.began.later c.in-Done.ended.op c.in-Done.ended.returned c.in-Done.ended.place c.push_reserved-in-Done.new.self.items logged
    (ap (λ (s : Seat). s.is_spent) c.seat.view_is ∙ c.requires.unspent) call.middle call.began.begins call.ends

pub returns-in-Done : goal.returns-in-Done
returns-in-Done g c =
    let s = seat_of c.seat.inside in
    let f = found s _ c.from-at.result c.args.transport.now.hall c.index_mut.result.now c.index-seen.result.now c.seat.invariant c.seat.view_is c.from-at.ensures c.requires.there c.index_mut.ensures.value c.index-seen.ensures in
    let logged = same_push c.seat.inside.log.items c.reserve.new.self.items c.push_reserved-in-Done.new.self.items _ c.reserve.ensures.items c.push_reserved-in-Done.ensures.items
    ∙ ap (λ (e : Entry). c.seat.inside.log.items ++ e ∷ []) (c.entry-in-Done.ensures ∙ ap (answered_entry c.args.transport.now.hall c.in-Done.begun.op c.in_ok-kept_key.kept_key c.in_ok-kept_action.kept_action c.in-Done.begun.place) c.response_of-response.ensures.response) in
    rw (← c.seat.view_is) (answered_leaves s c.push_reserved-in-Done.new.self.items c.from-at.result c.args.transport.now.hall c.index_mut.result.now c.make_call.new.pass c.args.key c.in_ok-kept_key.kept_key c.args.action c.in_ok-kept_action.kept_action c.in-Done.begun c.in-Done.ended c.index-seen.result.now
    (record { value = c.response_of-response.result.1; receipt = c.new-receipt.result }) c.seat.invariant (ap (λ (s : Seat). s.is_spent) c.seat.view_is ∙ c.requires.unspent)
    f c.in_ok-kept_key.ensures.copy c.in_ok-kept_action.ensures logged c.in-Done.ensures.outcome (c.response_of-response.ensures.value ∙ ap value_of c.in-Done.ensures.placed.2) c.new-receipt.ensures)

pub returns-in_err-kept_key : goal.returns-in_err-kept_key
returns-in_err-kept_key g c =
    let p = err_from_is_err_and c.from_residual.result c.from_residual.ensures.1 in
    rw (p.1, p.2) (no_memory _ _ _ _)

pub returns-in_err-kept_action : goal.returns-in_err-kept_action
returns-in_err-kept_action g c =
    let p = err_from_is_err_and c.from_residual-in_err-kept_action.result c.from_residual-in_err-kept_action.ensures.1 in
    rw (p.1, p.2) (no_memory _ _ _ _)

pub returns-in_err-reserve : goal.returns-in_err-reserve
returns-in_err-reserve g c =
    let p = err_from_is_err_and c.from_residual-in_err-reserve.result c.from_residual-in_err-reserve.ensures.1 in
    rw (p.1, p.2, ← c.seat.view_is) (no_room (seat_of c.seat.inside) c.reserve.new.self.items _ _ _ c.reserve.ensures.items)
