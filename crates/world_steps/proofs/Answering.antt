-- The answer of a call that is ready is of the call's kind.
use Rattle.std.proofs.Common.{◌≡◌, ℕ, List, subst}
use Rattle.tag.specs.declared.actions.Action.{Action}
use Rattle.tag.specs.declared.actions.Returned.{Returned}
use Rattle.tag.specs.declared.numbers.OpId.{OpId}
use Rattle.recorder.specs.Histories.{FitsAction, IsPendingCall, MayFollow}
use Rattle.recorder.specs.declared.row.Row.{Row}
use Rattle.recorder.specs.declared.row.Row.TheVariants.{Invoke, Respond}
use Rattle.world_steps.specs.Sound.{At, RowsSound}
use Rattle.tag.proofs.Lists.{place_of}

-- a response that may follow fits every pending call of its number, which is one
pub response_fits : (R : List Row) → RowsSound R → (op : OpId) (returned : Returned) → MayFollow R (Respond op returned) → (client : ℕ) (action : Action) → IsPendingCall R op client action → FitsAction action returned
response_fits R rows op returned (other, whose, pending, fits) client action call =
    let (p, at_p) = place_of R (Invoke op other pending.key whose) pending.invoked in
    let (q, at_q) = place_of R (Invoke op client call.key action) call.invoked in
    let same : p ≡ q = rows.once p q op other client pending.key call.key whose action at_p at_q in
    let here : At R q (Invoke op other pending.key whose) = subst (λ n. At R n (Invoke op other pending.key whose)) same at_p in
    let there : At R q (Invoke op client call.key action) = at_q in
    let actions : whose ≡ action = cc in
    subst (λ a. FitsAction a returned) actions fits
