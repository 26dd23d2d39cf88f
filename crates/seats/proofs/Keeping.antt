-- Turns that leave a client's log as it was.
use Rattle.std.proofs.Common.{◌≡◌, ℕ, List, [], ◌∷◌, ◌++◌, refl, sym, ap, ◌∙◌, subst}
use Rattle.tag.specs.Tags.{Tag}
use Rattle.tag.specs.declared.numbers.OpId.{OpId}
use Rattle.recorder.specs.declared.row.Row.{Row}
use Rattle.recorder.specs.declared.row.Row.TheVariants.{Note}
use Rattle.world_steps.specs.Lasting.{Grows}
use Rattle.hall_lock.specs.Turns.{AddsRow, AreRecorded, AddsNoRow, ClientView, TakesReply}
use Rattle.hall_lock.specs.Turns.TakesReply.{WithNote, WithoutNote}
use Rattle.hall_lock.proofs.Rows.{grown_not, grown_then}
use Rattle.seats.specs.Calls.{KeepsLog}
use Rattle.recorder.specs.Logs.{IsLog}
use Rattle.seats.proofs.Logs.{log_grown, log_noted, rows_sound}

pub keeps_same : (s : ClientView) → KeepsLog s s
keeps_same s = record { client = refl; grown = grown_not s.rows; recorded = λ r. r; log = λ log is. is }

pub keeps_then : (a b c : ClientView) → KeepsLog a b → KeepsLog b c → KeepsLog a c
keeps_then a b c x y = record {
  client = y.client ∙ x.client;
  grown = grown_then a.rows b.rows c.rows x.grown y.grown;
  recorded = λ r. y.recorded (x.recorded r);
  log = λ log is. y.log log (x.log log is);
}

pub keeps_rowless : (old new : ClientView) → AddsNoRow old new → AreRecorded new.rows → KeepsLog old new
keeps_rowless old new looked recorded = record {
  client = looked.client;
  grown = looked.others.grown;
  recorded = λ _. recorded;
  log = λ log is. subst (λ c. IsLog new.rows c log) (sym looked.client) (log_grown old.client old.rows new.rows new.rows (rows_sound new.rows recorded) (grown_not new.rows) looked.others log is);
}

pub keeps_noted : (old new : ClientView) (op : OpId) (tag : Tag) (place : ℕ) → AddsRow old (Note op tag) place new → AreRecorded new.rows → KeepsLog old new
keeps_noted old new op tag place added recorded =
    let rows : new.rows ≡ added.before ++ Note op tag ∷ [] = ap (λ (s : ClientView). s.rows) added.is in
    let within : Grows added.before new.rows = (Note op tag ∷ [], rows) in
    record {
      client = ap (λ (s : ClientView). s.client) added.is;
      grown = grown_then old.rows added.before new.rows added.others.grown within;
      recorded = λ _. recorded;
      log = λ log is. subst (λ (s : ClientView). IsLog s.rows s.client log) (sym added.is)
          (log_noted old.client added.before op tag log (log_grown old.client old.rows added.before new.rows (rows_sound new.rows recorded) within added.others log is));
    }

pub keeps_reply : (old new : ClientView) → TakesReply old new → AreRecorded new.rows → KeepsLog old new
keeps_reply old new (WithoutNote looked) recorded = keeps_rowless old new looked recorded
keeps_reply old new (WithNote op tag place added) recorded = keeps_noted old new op tag place added recorded
