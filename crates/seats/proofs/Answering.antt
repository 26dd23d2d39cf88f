-- The log of a client's pass after a call.
use Rattle.std.proofs.Common.{◌≡◌, ◌<◌, ℕ, List, [], ◌∷◌, ◌++◌, None, length, refl, sym, ap, ◌∙◌, subst}
use Rattle.std.proofs.lemmas.Option.{slice_get_within}
use Rattle.tag.proofs.Lists.{slice_get-push_last}
use Rattle.tag.specs.declared.actions.Action.{Action}
use Rattle.tag.specs.declared.actions.Returned.{Returned}
use Rattle.tag.specs.declared.numbers.OpId.{OpId}
use Rattle.recorder.specs.declared.row.Row.{Row}
use Rattle.recorder.specs.declared.row.Row.TheVariants.{Invoke, Respond}
use Rattle.world_steps.specs.Lasting.{Began, Grows}
use Rattle.world_steps.specs.Sound.{RowsSound}
use Rattle.hall_lock.specs.Turns.{AreRecorded, ClientView}
use Rattle.recorder.specs.declared.log_entry.Entry.{Entry}
use Rattle.seats.specs.Calls.{BeginsCall, EndsCall, KeepsLog}
use Rattle.recorder.specs.Logs.{AreAnswered, IsLog}
use Rattle.seats.specs.Seats.{EndsWith}
use Rattle.hall_lock.proofs.Rows.{grown_then}
use Rattle.seats.proofs.Logs.{answers_last, begun_entry, ended_entry, log_grown, log_invoked, log_responded, rows_sound}

-- what a pass has of a call that began
pub record HasBegun (old new : ClientView) (earlier : List Entry) (entry : Entry) : Type 0 where
  pub client : new.client ≡ old.client
  pub grown : Grows old.rows new.rows
  pub recorded : AreRecorded new.rows
  pub log : IsLog new.rows old.client (earlier ++ entry ∷ [])

pub begins : (hall : ℕ) (old new : ClientView) (key : List ℕ) (action : Action) (op : OpId) (place : ℕ) (log : List Entry) → IsLog old.rows old.client log → BeginsCall old key action op place new → HasBegun old new log (begun_entry hall op key action place)
begins hall old new key action op place log is call =
    let added = call.added in
    let rows : new.rows ≡ added.before ++ Invoke op old.client key action ∷ [] = ap (λ (s : ClientView). s.rows) added.is in
    let recorded : AreRecorded (added.before ++ Invoke op old.client key action ∷ []) = subst AreRecorded rows call.recorded in
    let within_all : Grows added.before (added.before ++ Invoke op old.client key action ∷ []) = (Invoke op old.client key action ∷ [], refl) in
    let before : IsLog added.before old.client log = log_grown old.client old.rows added.before (added.before ++ Invoke op old.client key action ∷ []) (rows_sound _ recorded) within_all added.others log is in
    let after : IsLog (added.before ++ Invoke op old.client key action ∷ []) old.client (log ++ begun_entry hall op key action (length added.before) ∷ []) = log_invoked old.client added.before op key action log hall recorded before in
    record {
      client = ap (λ (s : ClientView). s.client) added.is;
      grown = grown_then old.rows added.before new.rows added.others.grown (Invoke op old.client key action ∷ [], rows);
      recorded = call.recorded;
      log = subst (λ (y : List Row × ℕ). IsLog y.0 old.client (log ++ begun_entry hall op key action y.1 ∷ [])) (λ i. (sym rows i, added.at i)) after;
    }

pub still_begun : (old mid new : ClientView) (log : List Entry) (entry : Entry) → HasBegun old mid log entry → KeepsLog mid new → HasBegun old new log entry
still_begun old mid new log entry begun kept = record {
  client = kept.client ∙ begun.client;
  grown = grown_then old.rows mid.rows new.rows begun.grown kept.grown;
  recorded = kept.recorded begun.recorded;
  log = subst (λ c. IsLog new.rows c (log ++ entry ∷ [])) (kept.client ∙ begun.client) (kept.log (log ++ entry ∷ []) (subst (λ c. IsLog mid.rows c (log ++ entry ∷ [])) (sym begun.client) begun.log));
}

-- what a pass has of a call that was answered
pub record HasEnded (old new : ClientView) (earlier : List Entry) (entry : Entry) (op : OpId) (returned : Returned) (place : ℕ) : Type 0 where
  pub client : new.client ≡ old.client
  pub grown : Grows old.rows new.rows
  pub recorded : AreRecorded new.rows
  pub number : entry.op ≡ op
  pub log : IsLog new.rows old.client (earlier ++ ended_entry entry place returned ∷ [])
  pub ordered : entry.invoked < place
  pub last : EndsWith new.rows (Respond op returned)

pub ends : (old mid new : ClientView) (log : List Entry) (entry : Entry) (op : OpId) (returned : Returned) (place : ℕ) → HasBegun old mid log entry → entry.response ≡ None → AreAnswered log → EndsCall mid op returned place new
    → HasEnded old new log entry op returned place
ends old mid new log entry op returned place begun pending answered call =
    let c = call.middle.client in
    let kept = still_begun old mid call.middle log entry begun call.kept in
    let added = call.answered in
    let rows : new.rows ≡ added.before ++ Respond op returned ∷ [] = ap (λ (s : ClientView). s.rows) added.is in
    let recorded : AreRecorded (added.before ++ Respond op returned ∷ []) = subst AreRecorded rows call.recorded in
    let sound : RowsSound (added.before ++ Respond op returned ∷ []) = rows_sound _ recorded in
    let within_all : Grows added.before (added.before ++ Respond op returned ∷ []) = (Respond op returned ∷ [], refl) in
    let mine : IsLog call.middle.rows c (log ++ entry ∷ []) = subst (λ d. IsLog call.middle.rows d (log ++ entry ∷ [])) (sym kept.client) kept.log in
    let before : IsLog added.before c (log ++ entry ∷ []) = log_grown c call.middle.rows added.before (added.before ++ Respond op returned ∷ []) sound within_all added.others (log ++ entry ∷ []) mine in
    let own : Began added.before c op = added.own in
    let number : entry.op ≡ op = answers_last c added.before entry op returned log recorded before answered own in
    let after : IsLog (added.before ++ Respond op returned ∷ []) c (log ++ ended_entry entry (length added.before) returned ∷ []) = log_responded c added.before entry op returned log sound before pending number in
    record {
      client = ap (λ (s : ClientView). s.client) added.is ∙ kept.client;
      grown = grown_then old.rows call.middle.rows new.rows kept.grown (grown_then call.middle.rows added.before new.rows added.others.grown (Respond op returned ∷ [], rows));
      recorded = call.recorded;
      number = number;
      log = subst (λ (y : List Row × ℕ × ℕ). IsLog y.0 y.1 (log ++ ended_entry entry y.2 returned ∷ [])) (λ i. (sym rows i, kept.client i, added.at i)) after;
      ordered = subst (λ n. entry.invoked < n) added.at (slice_get_within added.before entry.invoked _ (before.each (length log) entry (slice_get-push_last log entry)).begun);
      last = (added.before, rows);
    }
