-- A history refuses what is refused here.
use Rattle.std.proofs.Common.{◌<◌, ◌↔◌, arith}
use Rattle.recorder.specs.declared.row.Row.{Row}
use Rattle.recorder.specs.declared.row.Row.TheVariants.{Invoke, Note, Respond}
use Rattle.recorder.specs.declared.row.RowRefusal.{RowRefusal}
use Rattle.recorder.specs.declared.row.RowRefusal.TheVariants as refusal
use Rattle.recorder.specs.Histories.{Recorded, call_count}
use Rattle.recorder.specs.Answers.{IsRefused}
use Rattle.open_calls.specs.Reasons.{IsInTurn, reason_of}
use Rattle.open_calls.specs.Rows.{IsRefusedAfter}

same_reason : {A : Type 0} → A ↔ A
same_reason = (λ x. x, λ x. x)

module _ (h : Recorded) (room : call_count h.rows < h.limit) where
  pub alike : (row : Row) (r : RowRefusal) → IsInTurn h.rows row → IsRefused h row r ↔ IsRefusedAfter h.rows row (reason_of r)
  alike (Invoke op client key action) refusal.OpsFull turn = (λ x. absurd (omega arith), λ x. absurd (x turn))
  alike (Invoke op client key action) refusal.ClientBusy turn = (λ x. (turn, x.1), λ x. (room, x.1))
  alike (Invoke op client key action) refusal.NotPending turn = same_reason
  alike (Invoke op client key action) refusal.WrongKind turn = same_reason
  alike (Invoke op client key action) refusal.NoteTwice turn = same_reason
  alike (Invoke op client key action) refusal.Memory turn = (λ x. (turn, x.1), λ x. (room, x.1))
  alike (Note op tag) refusal.OpsFull turn = same_reason
  alike (Note op tag) refusal.ClientBusy turn = same_reason
  alike (Note op tag) refusal.NotPending turn = same_reason
  alike (Note op tag) refusal.WrongKind turn = same_reason
  alike (Note op tag) refusal.NoteTwice turn = same_reason
  alike (Note op tag) refusal.Memory turn = same_reason
  alike (Respond op returned) refusal.OpsFull turn = same_reason
  alike (Respond op returned) refusal.ClientBusy turn = same_reason
  alike (Respond op returned) refusal.NotPending turn = same_reason
  alike (Respond op returned) refusal.WrongKind turn = same_reason
  alike (Respond op returned) refusal.NoteTwice turn = same_reason
  alike (Respond op returned) refusal.Memory turn = same_reason
