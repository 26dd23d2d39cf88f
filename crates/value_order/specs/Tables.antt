-- Families by any relation of writes to reads, as by a table of reads to writes.
use Rattle.std.specs.Prelude.{ℕ, ◌≡◌, ◌≤◌, ◌+◌, List, Option, Some, Contains}
use Rattle.tag.specs.declared.numbers.OpId.{OpId}
use Rattle.recorder.specs.declared.part.Call.{Call}
use Rattle.recorder.specs.Orders.{StandsAt, NoWriteFrom, IsOrder}
use Rattle.recorder.specs.Parts.{IsCompleted}

-- the table says that the read has read the write; both are of the part
pub record ReadsBy (part : List Call) (source : ℕ → Option ℕ) (write read : Call) : Type 0 where
  pub written : Contains part write
  pub recorded : Contains part read
  pub is : source read.op.0 ≡ Some write.op.0

-- what stands at place i stands in the piece of the write: at its place or after it, with no write
-- between
pub record InPiece (part : List Call) (order : List OpId) (i : ℕ) (write : Call) : Type 0 where
  pub k : ℕ
  pub below : k ≤ i
  pub stands : StandsAt part order k write
  pub none : NoWriteFrom part order (k + 1) i

-- each read was answered, and stands in the piece of its write in each order of the part
pub record StandInPieces (part : List Call) (Reads : Call → Call → Type 0) : Type 0 where
  pub answered : (write read : Call) → Reads write read → IsCompleted read
  pub piece : (order : List OpId) → IsOrder part order → (write read : Call) (i : ℕ)
      → Reads write read → StandsAt part order i read → InPiece part order i write
