-- What each fault says of the calls that are found for it, and that a reason refutes an order.
use Rattle.std.proofs.Common.{ℕ, ◌≡◌, ◌<◌, inl, List, Option, length, sym, ◌∙◌, ap, subst}
use Rattle.std.proofs.lemmas.Option.{slice_get_within}
use Rattle.tag.specs.declared.actions.Returned.TheVariants.{Value}
use Rattle.tag.specs.declared.numbers.OpId.{OpId}
use Rattle.recorder.specs.declared.part.Call.{Call}
use Rattle.recorder.specs.Parts.{IsSequence, IsCompleted, IsPending, Precedes}
use Rattle.recorder.specs.Orders.{StandsAt, IsOrder}
use Rattle.recorder.specs.Sound.{IsRead}
use Rattle.recorder.proofs.Sequences.{same_at, same_call}
use Rattle.certificate_check.specs.Numbers.{order_fault_number}
use Rattle.certificate_check.specs.Verdicts.{IsFault, IsUnknown, IsMissing, IsPendingRead, IsWrongAnswer, BreaksPrecedence}
use Rattle.certificate_check.specs.declared.verdict.Fault.{Fault}
use Rattle.certificate_check.specs.declared.verdict.Fault.TheVariants as fault
use Rattle.certificate_check.proofs.Stands.{same_last}
use Rattle.reasons.specs.Calls.{IsCallOf, AnswersNot}
use Rattle.reasons.specs.OrderReasons.{ShowsNoOrder, IsLastWriteBefore, last_value}
use Rattle.reasons.specs.declared.order_reasons.OrderReason.{OrderReason}
use Rattle.reasons.specs.declared.order_reasons.OrderReason.TheVariants as reason
use Rattle.reasons.specs.declared.order_reasons.PlacedCall.{PlacedCall}
use Rattle.reasons.proofs.ListedCalls.{last_written}

module _ (part : List Call) (order : List OpId) where
  -- every place is known where another fault is the lowest
  pub known : (named : Fault) → IsFault part order named → 1 < order_fault_number named → (i : ℕ) → IsUnknown part order i → ⊥
  known named is more i unknown = is.lowest (fault.UnknownCall i) unknown (inl more)

  -- a call stands below the length
  pub within : (i : ℕ) (call : Call) → StandsAt part order i call → i < length order
  within i call there = slice_get_within order i call.op there.listed

  module _ (sequence : IsSequence part) where
    -- what is said of a call is said of the call that was found
    pub missing_found : (op : OpId) (call : Call) → IsMissing part order op.0 → IsCallOf part op call → IsCompleted call × ((k : ℕ) → StandsAt part order k call → ⊥)
    missing_found op call missing found =
        let number : missing.0.op.0 ≡ call.op.0 = missing.2 ∙ sym (ap (λ (o : OpId). o.0) found.1) in
        let same : missing.0 ≡ call = same_call part sequence missing.0 call missing.1 found.0 number in
        subst (λ (x : Call). IsCompleted x × ((k : ℕ) → StandsAt part order k x → ⊥)) same (missing.3, missing.4)

    pub pending_found : (i : ℕ) (call : Call) → IsPendingRead part order i → StandsAt part order i call → IsPending call × IsRead call
    pending_found i call pending there =
        let same : pending.0 ≡ call = same_at part order sequence i pending.0 call pending.1 there in
        subst (λ (x : Call). IsPending x × IsRead x) same (pending.2, pending.3)

    pub wrong_found : (i : ℕ) (call : Call) (last : Option PlacedCall) → IsWrongAnswer part order i → StandsAt part order i call → IsLastWriteBefore part order i last → AnswersNot call (last_value last)
    wrong_found i call last wrong there before =
        let same : wrong.0 ≡ call = same_at part order sequence i wrong.0 call wrong.2 there in
        let value : wrong.1.returned ≡ Value (last_value last) → ⊥ = λ e. wrong.5 (last_value last, e, last_written part order i last before) in
        subst (λ (x : Call). AnswersNot x (last_value last)) same (wrong.3, (wrong.1, wrong.4, value))

    pub broken_found : (i j : ℕ) (a b : Call) → BreaksPrecedence part order j i → StandsAt part order i a → StandsAt part order j b → Precedes b a
    broken_found i j a b broken first second =
        let one : broken.0 ≡ a = same_at part order sequence i broken.0 a broken.3 first in
        let other : broken.1 ≡ b = same_at part order sequence j broken.1 b broken.4 second in
        subst (λ (x : Call). Precedes b x) one (subst (λ (x : Call). Precedes x broken.0) other broken.5)

    -- a list that has a reason is no order
    pub no_order : (reason : OrderReason) → ShowsNoOrder part order reason → IsOrder part order → ⊥
    no_order (reason.UnknownCall place op) shows good =
        let there = good.known place (slice_get_within order place op shows.0) in
        shows.1 there.0 (there.1.recorded, cc (there.1.listed, shows.0))
    no_order (reason.CallTwice earlier place call) shows good =
        good.once earlier place shows.0 (within place call shows.1) (shows.2.0.listed ∙ sym shows.1.listed)
    no_order (reason.MissingCall call) shows good =
        let there = good.complete call shows.0 shows.1 in
        shows.2 there.0 there.1
    no_order (reason.PendingRead read) shows good = good.writes read.place read.call shows.0 shows.1 shows.2
    no_order (reason.WrongAnswer read last unnoted) shows good =
        let wrong = shows.2 in
        let right = good.legal read.place read.call wrong.1.0 shows.0 wrong.0 wrong.1.1 in
        let same : right.0 ≡ last_value last = same_last part order sequence read.place right.0 (last_value last) right.2 (last_written part order read.place last shows.1) in
        wrong.1.2 (right.1 ∙ ap Value same)
    no_order (reason.OrderBroken earlier later) shows good =
        good.precedence earlier.place later.place earlier.call later.call shows.0 shows.1 shows.2 shows.3
