-- What reports say of the file.
use Rattle.std.proofs.Common.{ℕ, ◌≡◌, List, [], ◌∷◌, Option, inl, inr, refl}
use Rattle.history_file.specs.TakenRows.{HasTakenFile, HasTakenLines, HasTakenLinesBefore}
use Rattle.record_monitor.specs.declared.taken.Taken.{Taken}
use Rattle.record_monitor.specs.Monitored.{HasTaken}
use Rattle.monitor_command.specs.Files.{HasDoubtsAlone, HasNoRefusalFrom, HasSeen}
use Rattle.record_monitor.specs.declared.report.Report.{Report}

-- the first of the reports, of which none is a refusal
pub doubts_alone : (reports : List Report) → (reports ≡ [] → ⊥) → HasNoRefusalFrom 0 reports → HasDoubtsAlone reports
doubts_alone [] some none = absurd (some refl)
doubts_alone (report ∷ reports) some none = record { first = report; there = refl; none = none }

module _ (bytes : List ℕ) (monitor : Option Taken) where
  -- the rows of the whole lines are some first rows; so are those before a line with a fault, and those of a file
  pub seen_lines : HasTakenLines HasTaken bytes monitor → HasSeen bytes monitor
  seen_lines h = record { rows = h.rows; they = inl h.they; taken = h.taken }

  pub seen_before : (number : ℕ) → HasTakenLinesBefore HasTaken bytes number monitor → HasSeen bytes monitor
  seen_before number h = record { rows = h.rows; they = inr (inl (number, h.they)); taken = h.taken }

  pub seen_file : HasTakenFile HasTaken bytes monitor → HasSeen bytes monitor
  seen_file h = record { rows = h.rows; they = inr (inr h.they); taken = h.taken }
