-- A call that finds fewer rows than were seen.
use Rattle.std.proofs.Common.{◌≡◌, ◌<◌, ◌≤◌, ℕ, List, [], ◌∷◌, ◌++◌, length, refl, sym, ap, ◌∙◌, subst, arith, length-append}
use Rattle.tag.specs.declared.actions.Action.{Action}
use Rattle.tag.specs.declared.actions.Returned.{Returned}
use Rattle.tag.specs.declared.numbers.OpId.{OpId}
use Rattle.recorder.specs.declared.row.Row.{Row}
use Rattle.recorder.specs.declared.row.Row.TheVariants.{Respond}
use Rattle.world_steps.specs.Lasting.{Grows}
use Rattle.world_steps.specs.declared.step.Step.{Step}
use Rattle.hall_lock.specs.declared.client_pass.Delay.{Delay}
use Rattle.hall_lock.specs.declared.client_pass.Delay.TheVariants as delay
use Rattle.hall_lock.specs.Turns.{AddsRow, ClientView, IsDelayed}
use Rattle.seats.specs.declared.errors.CallError.{CallError}
use Rattle.seats.specs.declared.errors.CallError.TheVariants as fault
use Rattle.seats.specs.Calls.{BeginsCall, EndsCall}
use Rattle.seats.specs.Reasons.{IsHeldBack, delay_error}
use Rattle.hall_lock.proofs.Rows.{grown_then}

-- rows that go on are no fewer
longer : (a b : List Row) → Grows a b → length a ≤ length b
longer a b grown = subst (λ l. length a ≤ length l) (sym grown.1) (omega (arith, length-append a grown.0))

-- a row stands below the end of the rows that it ends
added_within : (old new : ClientView) (row : Row) (place : ℕ) → AddsRow old row place new → place < length new.rows
added_within old new row place added =
    let rows : new.rows ≡ added.before ++ row ∷ [] = ap (λ (s : ClientView). s.rows) added.is in
    subst (λ l. place < length l) (sym rows) (omega (arith, length-append added.before (row ∷ []), added.at))

-- a call that began found as many rows as were seen
pub begun_has : (old mid new : ClientView) (key : List ℕ) (action : Action) (op : OpId) (place seen : ℕ) → seen ≤ place → BeginsCall old key action op place mid → Grows mid.rows new.rows → length new.rows < seen → ⊥
begun_has old mid new key action op place seen later call grown short =
    let there : place < length mid.rows = added_within old mid _ place call.added in
    let more : length mid.rows ≤ length new.rows = longer mid.rows new.rows grown in
    absurd (omega arith)

-- the rows after a call that was answered
pub ended_grown : (mid new : ClientView) (op : OpId) (returned : Returned) (place : ℕ) → EndsCall mid op returned place new → Grows mid.rows new.rows
ended_grown mid new op returned place call =
    let added = call.answered in
    let rows : new.rows ≡ added.before ++ Respond op returned ∷ [] = ap (λ (s : ClientView). s.rows) added.is in
    grown_then mid.rows call.middle.rows new.rows call.kept.grown
    (grown_then call.middle.rows added.before new.rows added.others.grown (Respond op returned ∷ [], rows))

-- a call that was held back is foreign, where it found fewer rows
stale_delay : (old new : ClientView) (step : Step) (seen : ℕ) (d : Delay) → IsDelayed old step seen d new → length new.rows < seen → delay_error d ≡ fault.Foreign
stale_delay old new step seen delay.Foreign turn short = refl
stale_delay old new step seen (delay.Refused why) turn short = absurd (let enough : seen ≤ length new.rows = turn.0 in omega arith)

pub held_stale : (old new : ClientView) (key : List ℕ) (action : Action) (seen : ℕ) (error : CallError) → IsHeldBack old key action seen error new → length new.rows < seen → error ≡ fault.Foreign
held_stale old new key action seen error held short = held.told ∙ stale_delay old new _ seen held.delay held.turn short
