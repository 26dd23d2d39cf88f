-- What a monitor of a record has taken, and what it shows.
use Rattle.std.specs.Prelude.{ℕ, ◌≡◌, List, [], ◌∷◌, ◌++◌, Option, Some, None, Result, Ok}
use Rattle.std.specs.Prelude.{Err, ⊤}
use Rattle.recorder.specs.declared.row.Row.{Row}
use Rattle.recorder.specs.Histories.{MayFollow}
use Rattle.open_calls.specs.declared.refusal.CallRefusal.{CallRefusal}
use Rattle.open_calls.specs.declared.refusal.CallRefusal.TheVariants.{Memory}
use Rattle.open_calls.specs.Rows.{IsRefusedAfter}
use Rattle.record_monitor.specs.declared.report.Report.{Report}
use Rattle.record_monitor.specs.declared.taken.Taken.{Taken}
use Rattle.record_monitor.specs.declared.watched.Watched.{Watched}
use Rattle.record_monitor.specs.Taken.{KeepsRows}

-- an allocation was refused: nothing is known any more
abbrev pub IsLost : Option Taken → Type 0
IsLost monitor = monitor ≡ None

-- the monitor has taken those rows
abbrev pub HasTaken : List Row → Option Taken → Type 0
HasTaken rows None = ⊥
HasTaken rows (Some taken) = KeepsRows rows taken

-- for how many rows a read may be pending
abbrev pub give_up_of : Option Taken → ℕ
give_up_of None = 0
give_up_of (Some taken) = taken.give_up

-- the row is taken after those rows, and a read may be pending for as many rows as before; or it is
-- refused: for want of memory all is lost, else nothing changes
abbrev pub Takes : List Row → Option Taken → Row → Result ⊤ CallRefusal → Option Taken → Type 0
Takes rows old row (Ok done) new = MayFollow rows row × HasTaken (rows ++ row ∷ []) new
    × (give_up_of new ≡ give_up_of old)
Takes rows old row (Err Memory) new = IsRefusedAfter rows row Memory × IsLost new
Takes rows old row (Err refusal) new = IsRefusedAfter rows row refusal × (new ≡ old)

-- what the monitor has found
abbrev pub reports_of : Option Taken → List Report
reports_of None = []
reports_of (Some taken) = taken.keys.reports.items

-- the keys, by number
abbrev pub keys_of : Option Taken → List (List ℕ)
keys_of None = []
keys_of (Some taken) = taken.keys.numbers

-- how many calls were begun
abbrev pub begun_of : Option Taken → ℕ
begun_of None = 0
begun_of (Some taken) = taken.calls.begun

-- what is known of each key
abbrev pub watched_of : Option Taken → List Watched
watched_of None = []
watched_of (Some taken) = taken.keys.watched.items

-- what is left of what was kept, after a row
abbrev pub left_of : Option Taken → Result ⊤ CallRefusal → Option Taken
left_of kept (Err Memory) = None
left_of kept answer = kept
