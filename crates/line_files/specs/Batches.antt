-- Blocks of a reader that are judged together.
use Rattle.std.specs.Prelude.{ℕ, ◌≡◌, ◌<◌, ◌≤◌, ◌+◌, List, Option, length, take}
use Rattle.std.specs.Io.KnownBytes.{Consumes, IsAtEnd}
use Rattle.line_files.specs.declared.batches.Batch.{Batch}
use Rattle.line_files.specs.declared.batches.Behind.{Behind}
use Rattle.line_files.specs.declared.batches.Behind.TheVariants as behind
use Rattle.counted_devices.specs.Counts.{IsOneMore}

-- after a batch of so many bytes the reader has that left: more may come, or it is at its end, or
-- it failed, as its count of failures before and after tells
abbrev pub IsBehind : ℕ → Behind → Option (List ℕ) → ℕ → ℕ → Type 0
IsBehind count behind.More left old new = (0 < count) × (new ≡ old)
IsBehind count behind.End left old new = IsAtEnd left × (new ≡ old)
IsBehind count behind.Failure left old new = IsOneMore old new

-- the reader gave the bytes of the batch, which are the first of the room, and then had left what is
-- behind the batch
pub record IsBatch {D : Type 0} (remaining : D → Option (List ℕ)) (given failures : D → ℕ)
    (old new : D) (room : List ℕ) (batch : Batch) : Type 0 where
  pub bound : batch.count ≤ length room
  pub bytes : Consumes (remaining old) (remaining new) (take batch.count room)
  pub more : given new ≡ given old + batch.count
  pub behind : IsBehind batch.count batch.behind (remaining new) (failures old) (failures new)
