-- A response that may follow is refused for want of memory alone.
use Rattle.std.proofs.Common.{◌≡◌, ℕ, refl}
use Rattle.tag.specs.declared.actions.Action.{Action}
use Rattle.tag.specs.declared.actions.Returned.{Returned}
use Rattle.tag.specs.declared.numbers.OpId.{OpId}
use Rattle.recorder.specs.Answers.{IsRefused}
use Rattle.recorder.specs.Histories.{FitsAction, IsPendingCall, MayFollow, Recorded}
use Rattle.recorder.specs.declared.row.Row.TheVariants.{Respond}
use Rattle.recorder.specs.declared.row.RowRefusal.{RowRefusal}
use Rattle.recorder.specs.declared.row.RowRefusal.TheVariants.{OpsFull, ClientBusy, NotPending, WrongKind, NoteTwice, Memory}

pub respond_not_refused : (h : Recorded) (op : OpId) (returned : Returned) → MayFollow h.rows (Respond op returned)
    → ((client : ℕ) (action : Action) → IsPendingCall h.rows op client action → FitsAction action returned) → (why : RowRefusal) → IsRefused h (Respond op returned) why → why ≡ Memory
respond_not_refused h op returned may fits NotPending refused = absurd (refused (may.0, may.1, may.2))
respond_not_refused h op returned may fits WrongKind refused = absurd (refused.3 (fits refused.0 refused.1 refused.2))
respond_not_refused h op returned may fits Memory refused = refl
respond_not_refused h op returned may fits OpsFull refused = absurd refused
respond_not_refused h op returned may fits ClientBusy refused = absurd refused
respond_not_refused h op returned may fits NoteTwice refused = absurd refused
