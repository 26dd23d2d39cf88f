-- A history that is split block by block.
use Rattle.std.proofs.Common.{ℕ, ◌≡◌, ◌<◌, ◌≤◌, ◌+◌, ◌++◌, ◌^◌, List, [], None, Option, Result, Ok, Err, IfErr, IfOk, length}
use Rattle.std.specs.Io.KnownBytes.{Consumes, Keeps}
use Rattle.counted_devices.specs.DeviceStates.{DeviceStates}
use Rattle.counted_devices.specs.Deliveries.{Delivers, Holds, HoldsAll}
use Rattle.counted_devices.specs.FirstFaults.{IsUnderWay}
use Rattle.counted_devices.proofs.Consuming.{Consumes-keeps}
use Rattle.counted_devices.proofs.Delivering.{Delivers-more, finish_fault, stops_now}
use Rattle.recorder.specs.declared.row.Row.{Row}
use Rattle.file_format.specs.declared.fault.LineFault.{LineFault}
use Rattle.file_format.specs.Files.{AreSound, file_faults, file_rules}
use Rattle.file_format.specs.LongHistories.{long_history_format}
use Rattle.history_file.specs.TakenRows.{HasTakenFile, MakesLongHistory}
use Rattle.history_file.specs.declared.taken_rows.LongHistory.{LongHistory}
use Rattle.line_files.specs.declared.feed.Feed.{Feed}
use Rattle.line_files.proofs.Consuming.{Holds-device}
use Rattle.line_files.proofs.Filling.{keeps_of_none}
use Rattle.split_command.specs.declared.pieces.Pieces.{Pieces}
use Rattle.split_command.specs.declared.splitting.Split.{Split}
use Rattle.split_command.specs.declared.splitting.Stopped.{Stopped}
use Rattle.split_command.specs.declared.splitting.Stopped.TheVariants as stopped
use Rattle.split_command.specs.Endings.{EndsAs, EndsIn, GoesOn, HasPieces, IsFedBy, Stands}
use Rattle.split_command.specs.Written.{HasWritten}
use Rattle.split_command.proofs.Counting.{few_rows}

module _ {W : Type 0} (contents : W → Option (List ℕ)) where
  abbrev pub Fed : Type 0
  Fed = Feed (LongHistory (Pieces W)) LineFault

  -- what the pieces of a whole file end as
  pub ended : (parts : ℕ) (bytes : List ℕ) (pieces : Pieces W) (result : Result (Split W) Stopped) → length bytes ≤ 2 ^ 62
      → HasTakenFile (HasWritten contents) bytes pieces
      → IfOk result (λ split. (rows : List Row) → length rows < 2 ^ 62 → HasWritten contents rows pieces → HasPieces contents parts rows split)
      → IfErr result (λ why. why ≡ stopped.Output) → EndsAs contents parts bytes result
  ended parts bytes pieces (Ok split) few file okay failed = record {
    rows = file.rows;
    all = file.they;
    has = okay file.rows (few_rows bytes file.rows file.they few) file.taken;
  }
  ended parts bytes pieces (Err (stopped.Fault fault)) few file okay failed = absurd (cc failed)
  ended parts bytes pieces (Err stopped.Memory) few file okay failed = tt
  ended parts bytes pieces (Err stopped.Output) few file okay failed = tt

  -- a block more
  pub stands_more : (a b c : Option (List ℕ)) (block : List ℕ) (old new : Fed) (done : Unit {0}) → Holds (Stands contents) a b old
      → Consumes b c block → ((bytes : List ℕ) → Stands contents bytes old → GoesOn contents (bytes ++ block) (Ok done) new)
      → Holds (Stands contents) a c new
  stands_more a b c block old new done h k goes =
      let P : List ℕ → Type 0 = λ bytes. Stands contents bytes old in
      let Q : List ℕ → Type 0 = λ bytes. Stands contents bytes new in
      Delivers-more P Q a b c block h k goes

  -- no byte more
  pub stands_still : (a b c : Option (List ℕ)) (feed : Fed) → Holds (Stands contents) a b feed → Consumes b c [] → Holds (Stands contents) a c feed
  stands_still a b c feed h none = record { bytes = h.bytes; given = Consumes-keeps a b c h.bytes h.given (keeps_of_none b c none); fact = h.fact }

  -- the lines that were read have no fault
  sound : (lines : List (List ℕ)) (history : LongHistory (Pieces W)) → MakesLongHistory (HasWritten contents) lines history
      → AreSound long_history_format lines
  sound lines history h = record { header = tt; items = h.made.rows; read = h.made.they }

  -- the reader failed at the line under way
  pub device_fails : (a b c : Option (List ℕ)) (feed : Fed) (line : ℕ) → Holds (Stands contents) a b feed → Keeps b c
      → (feed.fault ≡ None → line ≡ feed.progress.lines + 1) → Delivers a c (λ bytes. IsUnderWay (file_faults long_history_format) bytes line)
  device_fails a b c feed line h keeps told =
      Holds-device (file_rules long_history_format) (MakesLongHistory (HasWritten contents)) sound a c feed line
      (record { bytes = h.bytes; given = Consumes-keeps a b c h.bytes h.given keeps; fact = h.fact }) told

  module _ (reader : DeviceStates) (feed : Fed) where
    -- the block has a fault, or the command stopped at it
    pub stops_at : (before : Option (List ℕ)) (block : List ℕ) (new : Fed) (why : Stopped) → Holds (Stands contents) reader.old before feed
        → Consumes before reader.new block
        → ((bytes : List ℕ) → Stands contents bytes feed → GoesOn contents (bytes ++ block) (Err why) new)
        → IsFedBy contents reader (Err why) new
    stops_at before block new (stopped.Fault fault) h k goes =
        let P : List ℕ → Type 0 = λ bytes. Stands contents bytes feed in
        (stops_now (file_faults long_history_format) reader fault P before block h k goes).0
    stops_at before block new stopped.Memory h k goes = tt
    stops_at before block new stopped.Output h k goes = tt

    -- what was stopped is not split
    pub not_split : (parts : ℕ) (why : Stopped) → IsFedBy contents reader (Err why) feed → EndsIn contents parts reader (Err why)
    not_split parts (stopped.Fault fault) h = h
    not_split parts stopped.Memory h = tt
    not_split parts stopped.Output h = tt

    -- the reader is at its end
    pub ends_in : (parts : ℕ) (result : Result (Split W) Stopped) → HoldsAll (Stands contents) reader feed
        → ((bytes : List ℕ) → Stands contents bytes feed → EndsAs contents parts bytes result) → EndsIn contents parts reader result
    ends_in parts (Ok split) h ends = record { bytes = h.0.bytes; given = h.0.given; fact = (h.1, ends h.0.bytes h.0.fact) }
    ends_in parts (Err (stopped.Fault fault)) h ends =
        finish_fault (file_faults long_history_format) (Stands contents) (λ (_ : List ℕ) (_ : Unit {0}). Unit {0}) reader feed (Err fault) h ends
    ends_in parts (Err stopped.Memory) h ends = tt
    ends_in parts (Err stopped.Output) h ends = tt
