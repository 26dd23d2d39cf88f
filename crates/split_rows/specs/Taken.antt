-- What is kept of the rows that were taken.
use Rattle.std.specs.Prelude.{ℕ, ◌≡◌, ◌≢◌, ◌<◌, ◌≤◌, ◌⊎◌, List, [], ◌∷◌, ◌++◌, Option, Some, None}
use Rattle.std.specs.Prelude.{Result, Ok, Err}
use Rattle.std.specs.Prelude.{length, slice_get, Contains}
use Rattle.tag.specs.declared.numbers.OpId.{OpId}
use Rattle.recorder.specs.declared.row.Row.{Row}
use Rattle.recorder.specs.Histories.{call_count, IsWellFormed, MayFollow}
use Rattle.open_calls.specs.declared.open_call.OpenCall.{OpenCall}
use Rattle.open_calls.specs.declared.refusal.CallRefusal.{CallRefusal}
use Rattle.open_calls.specs.declared.refusal.CallRefusal.TheVariants.{Memory}
use Rattle.open_calls.specs.Open.{Open, call_at}
use Rattle.open_calls.specs.Rows.{IsRefusedAfter, KeepsOpen}
use Rattle.split_rows.specs.declared.moved.Moved.{Moved}
use Rattle.split_rows.specs.declared.taken.Taken.{Taken}
use Rattle.split_rows.specs.Pieces.{ArePieces, IsCallOf, IsKeyOf, with_op, with_row}

-- the key has that number: its place among the keys that were seen, or the place after them
abbrev pub IsNext : List (List ℕ) → List ℕ → ℕ → Type 0
IsNext keys key number = (slice_get keys number ≡ Some key)
    ⊎ ((Contains keys key → ⊥) × (number ≡ length keys))

-- where the rows of a call go, if it is there
abbrev pub moved_in : Option (OpenCall Moved) → Option Moved
moved_in None = None
moved_in (Some call) = Some call.payload

-- of each pending call its piece and its number there are kept
abbrev pub AreMoved : ℕ → List Row → List (List ℕ) → (OpId → OpId) → Open Moved → Type 0
AreMoved parts rows keys number calls = (op : OpId) (call : OpenCall Moved)
    → call_at calls op.0 ≡ Some call
    → IsCallOf rows (IsKeyOf parts keys call.payload.piece) op × (call.payload.op ≡ number op)

-- of each piece is kept how many calls it has: at most as many as the history
pub record AreCounts (parts : ℕ) (rows : List Row) (pieces : ℕ → List Row) (counts : List ℕ) :
    Type 0 where
  pub one : length counts ≡ parts
  pub each : (p n : ℕ) → slice_get counts p ≡ Some n → n ≡ call_count (pieces p)
  pub few : (p n : ℕ) → slice_get counts p ≡ Some n → n ≤ call_count rows

-- what is kept is that of the rows, of which these are the pieces
pub record KeepsRows (parts : ℕ) (rows : List Row) (pieces : ℕ → List Row) (taken : Taken) : Type 0
  where
    pub number : OpId → OpId
    pub some : 0 < parts
    pub are : ArePieces parts rows taken.keys number pieces
    pub opens : KeepsOpen rows taken.calls
    pub moved : AreMoved parts rows taken.keys number taken.calls
    pub counts : AreCounts parts rows pieces taken.counts.items

-- it is that of some rows
pub record KeepsSome (taken : Taken) : Type 0 where
  pub parts : ℕ
  pub rows : List Row
  pub pieces : ℕ → List Row
  pub formed : IsWellFormed rows
  pub keeps : KeepsRows parts rows pieces taken

-- the row is taken after those rows, and stands at the end of the piece that is answered, under the
-- number that is; or it is refused, and only for want of memory anything changed
abbrev pub TakesNext : ℕ → List Row → (ℕ → List Row) → Taken → Row → Result Moved CallRefusal
    → Taken → Type 0
TakesNext parts rows pieces old row (Ok moved) new = MayFollow rows row × (moved.piece < parts)
    × KeepsRows parts (rows ++ row ∷ []) (with_row pieces moved.piece (with_op row moved.op)) new
TakesNext parts rows pieces old row (Err refusal) new =
    IsRefusedAfter rows row refusal × (refusal ≢ Memory → new ≡ old)
