-- Pieces of a history: in each the rows of the calls on some keys, with its calls numbered anew.
use Rattle.std.specs.Prelude.{ℕ, ◌≡◌, ◌<◌, ◌%◌, List, [], ◌∷◌, ◌++◌, Some, nat_eq, length, take}
use Rattle.std.specs.Prelude.{slice_get, Contains, if◌then◌else◌}
use Rattle.tag.specs.declared.actions.Action.{Action}
use Rattle.tag.specs.declared.numbers.OpId.{OpId}
use Rattle.recorder.specs.declared.row.Row.{Row}
use Rattle.recorder.specs.declared.row.Row.TheVariants.{Invoke, Note, Respond}
use Rattle.recorder.specs.Histories.{call_count}
use Rattle.recorder.specs.Records.{AreFirstSeen}

-- the number of a row's call
abbrev pub op_of : Row → OpId
op_of (Invoke op client key action) = op
op_of (Note op tag) = op
op_of (Respond op returned) = op

-- the row with another number for its call
abbrev pub with_op : Row → OpId → Row
with_op (Invoke op client key action) new = Invoke new client key action
with_op (Note op tag) new = Note new tag
with_op (Respond op returned) new = Respond new returned

module _ (rows : List Row) where
  -- the rows begin the call on that key
  abbrev pub IsCallOn : List ℕ → OpId → Type 0
  IsCallOn key op = (client : ℕ) × (action : Action) × Contains rows (Invoke op client key action)

  -- the call is on one of these keys
  abbrev pub IsCallOf : (List ℕ → Type 0) → OpId → Type 0
  IsCallOf mine op = (key : List ℕ) × mine key × IsCallOn key op

  -- the row is the one at that place of the history, with its call's number in the piece
  pub record IsFrom (mine : List ℕ → Type 0) (number : OpId → OpId) (place : ℕ) (row : Row) : Type 0
    where
      pub source : Row
      pub stands : slice_get rows place ≡ Some source
      pub of : IsCallOf mine (op_of source)
      pub is : row ≡ with_op source (number (op_of source))

  -- the piece that has these keys: the rows of the calls on them, in their order, and as the number
  -- of a call how many calls of the piece began before it
  pub record IsPiece (mine : List ℕ → Type 0) (number : OpId → OpId) (piece : List Row) : Type 0
    where
      pub place : ℕ → ℕ
      pub each : (k : ℕ) (row : Row) → slice_get piece k ≡ Some row
          → IsFrom mine number (place k) row
      pub all : (at : ℕ) (row : Row) → slice_get rows at ≡ Some row → IsCallOf mine (op_of row)
          → (k : ℕ) × (k < length piece) × (place k ≡ at)
      pub rises : (j k : ℕ) → j < k → k < length piece → place j < place k
      pub anew : (k : ℕ) (op : OpId) (client : ℕ) (key : List ℕ) (action : Action)
          → slice_get piece k ≡ Some (Invoke op client key action)
          → op.0 ≡ call_count (take k piece)

-- the key is one of piece p's, if the keys are dealt to so many pieces in turn
abbrev pub IsKeyOf : ℕ → List (List ℕ) → ℕ → List ℕ → Type 0
IsKeyOf parts keys p key = (n : ℕ) × (slice_get keys n ≡ Some key) × (n % parts ≡ p)

-- the pieces of a history, so many: its keys are dealt to them in turn, as they are first seen, and
-- each call has its number in its piece
pub record ArePieces (parts : ℕ) (rows : List Row) (keys : List (List ℕ)) (number : OpId → OpId)
    (pieces : ℕ → List Row) : Type 0 where
  pub seen : AreFirstSeen rows keys
  pub each : (p : ℕ) → IsPiece rows (IsKeyOf parts keys p) number (pieces p)

-- no piece has a row
abbrev pub all_empty : ℕ → List Row
all_empty p = []

-- the pieces, with one row more at the end of piece p
abbrev pub with_row : (ℕ → List Row) → ℕ → Row → ℕ → List Row
with_row pieces p row q = if nat_eq q p then pieces q ++ row ∷ [] else pieces q
