-- Copies of records, beside the log of a seat.
use Rattle.std.proofs.Common.{◌≡◌, ◌≤◌, ℕ, List, [], length, map, refl, ap, ◌∙◌, subst}
use Rattle.recorder.specs.Histories.{Recorded}
use Rattle.recorder.specs.Records.{IsPart}
use Rattle.recorder.specs.Sound.{TagSound}
use Rattle.recorder.specs.declared.part.Call.{Call}
use Rattle.recorder.specs.declared.row.Row.{Row}
use Rattle.hall_lock.specs.Turns.{IsCopied}
use Rattle.world_steps.specs.SoundSystems.{IsSound}
use Rattle.world_steps.specs.declared.system.System.{System}
use Rattle.recorder.specs.declared.log_entry.Entry.{Entry}
use Rattle.recorder.specs.Logs.{IsLog, of_hall}
use Rattle.seats.specs.Seats.{Seat, seen_in}
use Rattle.node_threads.specs.Snapshots.{IsSnapshotFor}

-- whatever rows were seen, the record is a hall's
from_start : (seen : List Row) (history : Recorded) → IsCopied seen history → IsCopied [] history
from_start seen history copied = record {
  hall = copied.hall;
  replay = copied.replay;
  sound = copied.sound;
  grown = (history.rows, refl);
  is = copied.is;
}

-- the tags of each part of a sound system's record are sound
abbrev pub HaveSoundParts : Type 0
HaveSoundParts = (s : System) (key : List ℕ) (part : List Call) → IsSound s → IsPart s.history.rows key part → TagSound part

sound_parts : HaveSoundParts → (seen : List Row) (history : Recorded) → IsCopied seen history → (key : List ℕ) (part : List Call)
    → IsPart history.rows key part → TagSound part
sound_parts law seen history copied key part is = law copied.hall.world key part copied.sound
    (subst (λ (h : Recorded). IsPart h.rows key part) copied.is is)

pub shows : HaveSoundParts → (seen : List Row) (history : Recorded) (s : Seat) (hall : ℕ) (log : List Entry) → IsCopied seen history
    → seen_in s hall ≤ length history.rows
    → log ≡ of_hall hall s.log → IsLog history.rows s.client log → IsSnapshotFor history s hall
shows law seen history s hall log copied enough same is = record {
  copied = from_start seen history copied;
  parts = sound_parts law seen history copied;
  seen = enough;
  log = subst (IsLog history.rows s.client) same is;
}

-- the same of what the calls gave
pub shown_by : {Item : Type 0} → HaveSoundParts
    → (look : Item → Entry) (seen : List Row) (history : Recorded) (s : Seat) (hall count rows client : ℕ) (items given : List Item)
    (log : List Entry)
    → IsCopied seen history → rows ≡ length history.rows → count ≡ seen_in s hall → count ≤ rows → log ≡ s.log → map look items ≡ of_hall
    hall log → given ≡ items → client ≡ s.client
    → IsLog history.rows client (map look given) → IsSnapshotFor history s hall
shown_by law look seen history s hall count rows client items given log copied rows_are count_is enough log_is found given_are client_is
    is =
    shows law seen history s hall (map look given) copied
    (subst (λ n. seen_in s hall ≤ n) rows_are (subst (λ n. n ≤ rows) count_is enough))
    (ap (map look) given_are ∙ found ∙ ap (of_hall hall) log_is)
    (subst (λ n. IsLog history.rows n (map look given)) client_is is)
