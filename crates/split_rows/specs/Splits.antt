-- What a splitter of rows has taken, and what it shows.
use Rattle.std.specs.Prelude.{ℕ, ◌≡◌, ◌<◌, List, [], ◌∷◌, ◌++◌, Option, Some, None, Result, Ok}
use Rattle.std.specs.Prelude.{Err, length}
use Rattle.recorder.specs.declared.row.Row.{Row}
use Rattle.recorder.specs.Histories.{MayFollow}
use Rattle.open_calls.specs.declared.refusal.CallRefusal.{CallRefusal}
use Rattle.open_calls.specs.declared.refusal.CallRefusal.TheVariants.{Memory}
use Rattle.open_calls.specs.Rows.{IsRefusedAfter}
use Rattle.split_rows.specs.declared.moved.Moved.{Moved}
use Rattle.split_rows.specs.declared.taken.Taken.{Taken}
use Rattle.split_rows.specs.Pieces.{with_op, with_row}
use Rattle.split_rows.specs.Taken.{KeepsRows}

-- an allocation was refused: nothing is known any more
abbrev pub IsLost : Option Taken → Type 0
IsLost splitter = splitter ≡ None

-- the answer is that there is no memory, and all stays lost
abbrev pub StaysLost : Result Moved CallRefusal → Option Taken → Type 0
StaysLost answer new = (answer ≡ Err Memory) × IsLost new

-- the splitter has taken those rows, and these are their pieces, so many
abbrev pub HasSplit : ℕ → List Row → (ℕ → List Row) → Option Taken → Type 0
HasSplit parts rows pieces None = ⊥
HasSplit parts rows pieces (Some taken) = KeepsRows parts rows pieces taken

-- the row is taken after those rows, and stands at the end of the piece that is answered, under the
-- number that is; or it is refused: for want of memory all is lost, else nothing changes
abbrev pub SplitsRow : ℕ → List Row → (ℕ → List Row) → Option Taken → Row
    → Result Moved CallRefusal → Option Taken → Type 0
SplitsRow parts rows pieces old row (Ok moved) new = MayFollow rows row × (moved.piece < parts)
    × HasSplit parts (rows ++ row ∷ []) (with_row pieces moved.piece (with_op row moved.op)) new
SplitsRow parts rows pieces old row (Err Memory) new = IsRefusedAfter rows row Memory × IsLost new
SplitsRow parts rows pieces old row (Err refusal) new =
    IsRefusedAfter rows row refusal × (new ≡ old)

-- how many calls were begun
abbrev pub begun_of : Option Taken → ℕ
begun_of None = 0
begun_of (Some taken) = taken.calls.begun

-- how many keys were seen
abbrev pub key_count_of : Option Taken → ℕ
key_count_of None = 0
key_count_of (Some taken) = length taken.keys

-- what is left of what was kept, after a row
abbrev pub left_of : Taken → Result Moved CallRefusal → Option Taken
left_of taken (Err Memory) = None
left_of taken answer = Some taken
