-- How a split ends.
use Rattle.std.specs.Prelude.{ℕ, ◌≡◌, List, Option, Result, Ok, Err, length}
use Rattle.std.specs.Io.KnownBytes.{IsAtEnd}
use Rattle.cli.specs.Devices.{FileStates, ReceivesOrFails}
use Rattle.cli.specs.FailureLines.{fault_line, file_words}
use Rattle.counted_devices.specs.Deliveries.{Delivers, HoldsAll}
use Rattle.counted_devices.specs.DeviceStates.{DeviceStates}
use Rattle.counted_devices.specs.FirstFaults.{FaultInAll, FaultSoFar, StopsFrom}
use Rattle.recorder.specs.declared.row.Row.{Row}
use Rattle.recorder.specs.Histories.{call_count}
use Rattle.tag.specs.declared.numbers.OpId.{OpId}
use Rattle.file_format.specs.declared.fault.LineFault.{LineFault}
use Rattle.file_format.specs.Faults.{FileFault}
use Rattle.file_format.specs.Files.{file_faults}
use Rattle.file_format.specs.LongHistories.{long_history_format}
use Rattle.file_format.specs.NumberedRows.{NumberedRow}
use Rattle.file_format.specs.Texts.{numbered_history_text}
use Rattle.line_files.specs.Feeds.{StandsForLines}
use Rattle.line_files.specs.declared.feed.Feed.{Feed}
use Rattle.history_file.specs.TakenRows.{AreRowsOfFile, MakesLongHistory}
use Rattle.history_file.specs.declared.taken_rows.LongHistory.{LongHistory}
use Rattle.split_rows.specs.Pieces.{ArePieces}
use Rattle.split_command.specs.declared.pieces.Pieces.{Pieces}
use Rattle.split_command.specs.declared.splitting.Split.{Split}
use Rattle.split_command.specs.declared.splitting.Stopped.{Stopped}
use Rattle.split_command.specs.declared.splitting.Stopped.TheVariants as stopped
use Rattle.split_command.specs.PieceTexts.{AreOnLines, HaveTexts}
use Rattle.split_command.specs.Written.{HasWritten}

module _ {W : Type 0} (contents : W → Option (List ℕ)) where
  -- the files have the pieces of the rows, so many, each row with its line in the file of the rows
  pub record HasPieces (parts : ℕ) (rows : List Row) (split : Split W) : Type 0 where
    pub keys : List (List ℕ)
    pub number : OpId → OpId
    pub pieces : ℕ → List Row
    pub are : ArePieces parts rows keys number pieces
    pub numbered : ℕ → List NumberedRow
    pub on_lines : (p : ℕ) → AreOnLines (are.each p).place (pieces p) (numbered p)
    pub count : length split.files.items ≡ parts
    pub texts : HaveTexts contents (λ p. numbered_history_text (numbered p)) split.files.items
    pub calls : split.calls ≡ call_count rows
    pub key_count : split.keys ≡ length keys

  -- the bytes are a history, and the files have its pieces
  pub record IsSplitOf (parts : ℕ) (bytes : List ℕ) (split : Split W) : Type 0 where
    pub rows : List Row
    pub all : AreRowsOfFile bytes rows
    pub has : HasPieces parts rows split

  -- the feed stands for the bytes, and the pieces of the rows of their whole lines are written
  abbrev pub Stands : List ℕ → Feed (LongHistory (Pieces W)) LineFault → Type 0
  Stands bytes feed = StandsForLines (MakesLongHistory (HasWritten contents)) bytes feed

  -- after a block the feed stands for all bytes; or the first fault of the lines so far is answered
  abbrev pub GoesOn : List ℕ → Result (Unit {0}) Stopped → Feed (LongHistory (Pieces W)) LineFault
      → Type 0
  GoesOn bytes (Ok done) feed = Stands bytes feed
  GoesOn bytes (Err (stopped.Fault fault)) feed =
      FaultSoFar (file_faults long_history_format) bytes fault.line fault.kind
  GoesOn bytes (Err stopped.Memory) feed = Unit {0}
  GoesOn bytes (Err stopped.Output) feed = Unit {0}

  -- the reader is at its end, and the feed stands for all that it gave; or the first fault is
  -- answered
  abbrev pub IsFedBy : DeviceStates → Result (Unit {0}) Stopped
      → Feed (LongHistory (Pieces W)) LineFault → Type 0
  IsFedBy reader (Ok done) feed = HoldsAll Stands reader feed
  IsFedBy reader (Err (stopped.Fault fault)) feed =
      StopsFrom (file_faults long_history_format) reader fault
  IsFedBy reader (Err stopped.Memory) feed = Unit {0}
  IsFedBy reader (Err stopped.Output) feed = Unit {0}

  -- at the end of the file it is split; or its first fault is answered
  abbrev pub EndsAs : ℕ → List ℕ → Result (Split W) Stopped → Type 0
  EndsAs parts bytes (Ok split) = IsSplitOf parts bytes split
  EndsAs parts bytes (Err (stopped.Fault fault)) =
      FaultInAll (file_faults long_history_format) bytes fault.line fault.kind
  EndsAs parts bytes (Err stopped.Memory) = Unit {0}
  EndsAs parts bytes (Err stopped.Output) = Unit {0}

  -- the reader gave all of a history, and it is split
  abbrev pub IsSplitIn : ℕ → DeviceStates → Split W → Type 0
  IsSplitIn parts reader split = Delivers reader.old reader.new
      (λ bytes. IsAtEnd reader.new × IsSplitOf parts bytes split)

  -- what the reader gave is split; or the first fault is answered
  abbrev pub EndsIn : ℕ → DeviceStates → Result (Split W) Stopped → Type 0
  EndsIn parts reader (Ok split) = IsSplitIn parts reader split
  EndsIn parts reader (Err (stopped.Fault fault)) =
      StopsFrom (file_faults long_history_format) reader fault
  EndsIn parts reader (Err stopped.Memory) = Unit {0}
  EndsIn parts reader (Err stopped.Output) = Unit {0}

-- the file has that first fault, and that is said on standard error
pub record IsFaultSaid (file : FileStates) (errors : DeviceStates) : Type 0 where
  pub fault : FileFault
  pub first : StopsFrom (file_faults long_history_format) file.reader fault
  pub said : ReceivesOrFails errors (fault_line file_words file.name fault)
