-- How a monitored file ends.
use Rattle.std.specs.Prelude.{ℕ, ◌≡◌, ◌++◌, List, Bool, true, false, Option, Result, Ok, Err}
use Rattle.std.specs.Io.KnownBytes.{Appends, IsAtEnd}
use Rattle.cli.specs.Devices.{FileStates, ReceivesOrFails}
use Rattle.cli.specs.FailureLines.{fault_line, file_words}
use Rattle.cli.specs.declared.outcome.Found.{Found}
use Rattle.cli.specs.declared.outcome.Found.TheVariants.{Good, Refused, Undecided}
use Rattle.command_line.specs.declared.lines.Lines.{Lines}
use Rattle.counted_devices.specs.Deliveries.{Delivers, HoldsAll}
use Rattle.counted_devices.specs.DeviceStates.{DeviceStates}
use Rattle.counted_devices.specs.FirstFaults.{FaultInAll, FaultSoFar, StopsFrom}
use Rattle.counted_devices.specs.declared.read_fault.FaultKind.TheVariants as kind
use Rattle.file_format.specs.Faults.{FaultKind, FileFault}
use Rattle.file_format.specs.Files.{file_faults}
use Rattle.file_format.specs.LongHistories.{long_history_format}
use Rattle.history_file.specs.TakenRows.{MakesLongHistory}
use Rattle.history_file.specs.declared.taken_rows.LongHistory.{LongHistory}
use Rattle.file_format.specs.declared.fault.LineFault.{LineFault}
use Rattle.line_files.specs.Feeds.{StandsForLines}
use Rattle.line_files.specs.declared.feed.Feed.{Feed}
use Rattle.monitor_sentences.specs.declared.counts.Counts.{Counts}
use Rattle.record_monitor.specs.declared.taken.Taken.{Taken}
use Rattle.record_monitor.specs.Monitored.{HasTaken, keys_of}
use Rattle.recorder.specs.declared.row.Row.{Row}
use Rattle.recorder.specs.Histories.{call_count}
use Rattle.recorder.specs.Records.{AreFirstSeen}
use Rattle.history_file.specs.TakenRows.{AreRowsOfFile}
use Rattle.monitor_command.specs.Countings.{AreCountsOf, counts_text}
use Rattle.monitor_command.specs.declared.monitoring.Monitoring.{Monitoring}
use Rattle.monitor_command.specs.declared.session.Stopped.{Stopped}
use Rattle.monitor_command.specs.declared.session.Stopped.TheVariants as stopped
use Rattle.monitor_command.specs.Files.{HasSeen, IsAtomicFile, IsRefuted, IsUndecidedFile}
use Rattle.monitor_command.specs.Tellings.{EndsWithRefusal}

-- the feed stands for the bytes, and its monitor has taken the rows of their whole lines
abbrev pub Stands : List ℕ → Feed (LongHistory (Option Taken)) LineFault → Type 0
Stands bytes feed = StandsForLines (MakesLongHistory HasTaken) bytes feed

-- whether an allocation was refused
abbrev pub is_memory : FaultKind → Bool
is_memory kind.Memory = true
is_memory k = false

-- the file isn't at fault
abbrev pub IsNoFault : Stopped → Type 0
IsNoFault (stopped.Fault fault) = ⊥
IsNoFault stopped.Memory = Unit {0}
IsNoFault stopped.Output = Unit {0}

-- what went out between two states of a writer
module _ (old new : Option (List ℕ)) where
  -- some text, and nothing failed
  pub record HasSent : Type 0 where
    pub text : List ℕ
    pub sent : Appends old new text

  -- it ends with what is told of a refusal by the monitor
  pub record TellsRefusal (form : Lines) (monitor : Option Taken) : Type 0 where
    pub text : List ℕ
    pub ends : EndsWithRefusal form monitor text
    pub sent : Appends old new text

  -- a key is refused by what has seen the bytes, and what went out ends with what is told of that
  pub record IsRefusedAndTold (form : Lines) (bytes : List ℕ) : Type 0 where
    pub refuted : IsRefuted bytes
    pub monitor : Option Taken
    pub seen : HasSeen bytes monitor
    pub told : TellsRefusal form monitor

  -- it ends with the counts of what the monitor took
  pub record TellsCountsOf (form : Lines) (monitor : Option Taken) : Type 0 where
    pub counts : Counts
    pub are : AreCountsOf monitor counts
    pub before : List ℕ
    pub sent : Appends old new (before ++ counts_text form counts)

  -- what went out ends with the counts of the file's rows: of their calls, of the keys that they
  -- begin calls on, and of what the monitor that took them found
  pub record TellsCounts (form : Lines) (bytes : List ℕ) : Type 0 where
    pub rows : List Row
    pub all : AreRowsOfFile bytes rows
    pub monitor : Option Taken
    pub taken : HasTaken rows monitor
    pub told : TellsCountsOf form monitor
    pub calls : told.counts.calls ≡ call_count rows
    pub keys : AreFirstSeen rows (keys_of monitor)

  -- after a block the feed stands for all bytes; or a key is refused, and the command ends; or the
  -- first fault of the lines so far is answered
  abbrev pub GoesOn : Lines → List ℕ → Result Bool Stopped
      → Feed (LongHistory (Option Taken)) LineFault → Type 0
  GoesOn form bytes (Ok false) feed = Stands bytes feed
  GoesOn form bytes (Ok true) feed = IsRefusedAndTold form bytes
  GoesOn form bytes (Err (stopped.Fault fault)) feed =
      FaultSoFar (file_faults long_history_format) bytes fault.line fault.kind
  GoesOn form bytes (Err stopped.Memory) feed = Unit {0}
  GoesOn form bytes (Err stopped.Output) feed = Unit {0}

  -- that a key is refused was told last, unless all keys are judged on; then the counts were
  abbrev pub TellsLast : Bool → Lines → List ℕ → Type 0
  TellsLast false form bytes = IsRefusedAndTold form bytes
  TellsLast true form bytes = TellsCounts form bytes

  -- what is found of all the bytes, and told
  abbrev pub IsFoundOf : Monitoring → List ℕ → Found → Type 0
  IsFoundOf asked bytes Good = IsAtomicFile bytes × TellsCounts asked.form bytes
  IsFoundOf asked bytes Refused = IsRefuted bytes × TellsLast asked.all asked.form bytes
  IsFoundOf asked bytes Undecided = IsUndecidedFile bytes × TellsCounts asked.form bytes

  -- at the end of the file that is found; or its first fault is answered
  abbrev pub EndsAs : Monitoring → List ℕ → Result Found Stopped → Type 0
  EndsAs asked bytes (Ok found) = IsFoundOf asked bytes found
  EndsAs asked bytes (Err (stopped.Fault fault)) =
      FaultInAll (file_faults long_history_format) bytes fault.line fault.kind
  EndsAs asked bytes (Err stopped.Memory) = Unit {0}
  EndsAs asked bytes (Err stopped.Output) = Unit {0}

-- a reader and a writer, before and after
module _ (reader writer : DeviceStates) (asked : Monitoring) where
  -- the reader gave all bytes, and that is found of them
  abbrev pub IsFoundIn : Found → Type 0
  IsFoundIn found = Delivers reader.old reader.new
      (λ bytes. IsAtEnd reader.new × IsFoundOf writer.old writer.new asked bytes found)

  -- it gave all of a history, and each key is atomic
  abbrev pub IsAtomicIn : Type 0
  IsAtomicIn = IsFoundIn Good

  -- it gave all of a history, no key is refused, and one isn't decided
  abbrev pub IsUndecidedIn : Type 0
  IsUndecidedIn = IsFoundIn Undecided

  -- of what the reader gave, a key is refused
  abbrev pub IsRefutedIn : Type 0
  IsRefutedIn = Delivers reader.old reader.new
      (λ bytes. IsFoundOf writer.old writer.new asked bytes Refused)

  -- that is found of what the reader gave; or the first fault is answered
  abbrev pub EndsIn : Result Found Stopped → Type 0
  EndsIn (Ok Good) = IsAtomicIn
  EndsIn (Ok Refused) = IsRefutedIn
  EndsIn (Ok Undecided) = IsUndecidedIn
  EndsIn (Err (stopped.Fault fault)) = StopsFrom (file_faults long_history_format) reader fault
  EndsIn (Err stopped.Memory) = Unit {0}
  EndsIn (Err stopped.Output) = Unit {0}

  -- to the reader's end no key is refused that would end the command; or one is; or the first fault
  -- is answered
  abbrev pub IsJudgedTo : Result Bool Stopped → Feed (LongHistory (Option Taken)) LineFault → Type 0
  IsJudgedTo (Ok false) feed = HoldsAll Stands reader feed × HasSent writer.old writer.new
  IsJudgedTo (Ok true) feed = IsRefutedIn
  IsJudgedTo (Err (stopped.Fault fault)) feed =
      StopsFrom (file_faults long_history_format) reader fault
  IsJudgedTo (Err stopped.Memory) feed = Unit {0}
  IsJudgedTo (Err stopped.Output) feed = Unit {0}

-- the file has that first fault, and that is said on standard error
pub record IsFaultSaid (file : FileStates) (errors : DeviceStates) : Type 0 where
  pub fault : FileFault
  pub first : StopsFrom (file_faults long_history_format) file.reader fault
  pub said : ReceivesOrFails errors (fault_line file_words file.name fault)
