-- A file that is read block by block.
use Rattle.std.proofs.Common.{ℕ, ◌≡◌, ◌++◌, List, [], true, false, Option, Result, Ok, Err}
use Rattle.std.specs.Io.KnownBytes.{Consumes}
use Rattle.cli.specs.declared.outcome.Found.{Found}
use Rattle.cli.specs.declared.outcome.Found.TheVariants.{Good, Refused, Undecided}
use Rattle.command_line.specs.declared.lines.Lines.{Lines}
use Rattle.counted_devices.specs.DeviceStates.{DeviceStates}
use Rattle.counted_devices.specs.Deliveries.{Holds, HoldsAll}
use Rattle.counted_devices.proofs.Consuming.{Consumes-keeps}
use Rattle.counted_devices.proofs.Delivering.{Delivers-more, finish_fault, stops_now}
use Rattle.file_format.specs.Files.{file_faults}
use Rattle.file_format.specs.LongHistories.{long_history_format}
use Rattle.line_files.proofs.Filling.{keeps_of_none}
use Rattle.monitor_command.specs.declared.monitoring.Monitoring.{Monitoring}
use Rattle.monitor_command.specs.declared.session.Stopped.{Stopped}
use Rattle.monitor_command.specs.declared.session.Stopped.TheVariants as stopped
use Rattle.monitor_command.specs.Endings.{EndsAs, EndsIn, GoesOn, HasSent, IsFoundOf, IsJudgedTo, IsRefutedIn, Stands}
use Rattle.monitor_command.proofs.Judging.{RowsFed, refused_is_last}
use Rattle.monitor_command.proofs.Sent.{counts_last, refused_last, told_last_of_all}

-- a block more
pub stands_more : (a b c p q : Option (List ℕ)) (form : Lines) (block : List ℕ) (old new : RowsFed) → Holds Stands a b old → Consumes b c block
    → ((bytes : List ℕ) → Stands bytes old → GoesOn p q form (bytes ++ block) (Ok false) new) → Holds Stands a c new
stands_more a b c p q form block old new h k goes =
    let P : List ℕ → Type 0 = λ bytes. Stands bytes old in
    let Q : List ℕ → Type 0 = λ bytes. Stands bytes new in
    Delivers-more P Q a b c block h k goes

-- no byte more
pub stands_still : (a b c : Option (List ℕ)) (feed : RowsFed) → Holds Stands a b feed → Consumes b c [] → Holds Stands a c feed
stands_still a b c feed h none = record { bytes = h.bytes; given = Consumes-keeps a b c h.bytes h.given (keeps_of_none b c none); fact = h.fact }

module _ (reader writer : DeviceStates) (asked : Monitoring) (mid : Option (List ℕ)) (feed : RowsFed) where
  module _ (before : Option (List ℕ)) (block : List ℕ) (new : RowsFed) where
    -- the block has a fault, or the command stopped at it
    pub stops_at : (why : Stopped) → Holds Stands reader.old before feed → Consumes before reader.new block
        → ((bytes : List ℕ) → Stands bytes feed → GoesOn mid writer.new asked.form (bytes ++ block) (Err why) new) → IsJudgedTo reader writer asked (Err why) new
    stops_at (stopped.Fault fault) h k goes =
        let P : List ℕ → Type 0 = λ bytes. Stands bytes feed in
        (stops_now (file_faults long_history_format) reader fault P before block h k goes).0
    stops_at stopped.Memory h k goes = tt
    stops_at stopped.Output h k goes = tt

    -- by the block a key is refused
    pub refused_by : Holds Stands reader.old before feed → Consumes before reader.new block → HasSent writer.old mid → asked.all ≡ false
        → ((bytes : List ℕ) → Stands bytes feed → GoesOn mid writer.new asked.form (bytes ++ block) (Ok true) new) → IsRefutedIn reader writer asked
    refused_by h k sent one goes =
        let P : List ℕ → Type 0 = λ bytes. Stands bytes feed in
        let Q : List ℕ → Type 0 = λ bytes. IsFoundOf writer.old writer.new asked bytes Refused in
        Delivers-more P Q reader.old before reader.new block h k
        (λ bytes s. refused_is_last writer.old writer.new asked (bytes ++ block) one (refused_last writer.old mid writer.new asked.form (bytes ++ block) sent (goes bytes s)))

-- what stopped the command before the end
pub stopped_in : (reader writer : DeviceStates) (asked : Monitoring) (feed : RowsFed) (why : Stopped) → IsJudgedTo reader writer asked (Err why) feed
    → EndsIn reader writer asked (Err why)
stopped_in reader writer asked feed (stopped.Fault fault) h = h
stopped_in reader writer asked feed stopped.Memory h = tt
stopped_in reader writer asked feed stopped.Output h = tt

-- the reader is at its end
pub ends_in : (reader writer : DeviceStates) (asked : Monitoring) (mid : Option (List ℕ)) (feed : RowsFed) (result : Result Found Stopped)
    → HoldsAll Stands reader feed → HasSent writer.old mid
    → ((bytes : List ℕ) → Stands bytes feed → EndsAs mid writer.new asked bytes result) → EndsIn reader writer asked result
ends_in reader writer asked mid feed (Ok Good) h sent ends =
    let found = ends h.0.bytes h.0.fact in
    record { bytes = h.0.bytes; given = h.0.given; fact = (h.1, (found.0, counts_last writer.old mid writer.new asked.form h.0.bytes sent found.1)) }
ends_in reader writer asked mid feed (Ok Refused) h sent ends =
    let found = ends h.0.bytes h.0.fact in
    record { bytes = h.0.bytes; given = h.0.given; fact = (found.0, told_last_of_all writer.old mid writer.new asked.all asked.form h.0.bytes sent found.1) }
ends_in reader writer asked mid feed (Ok Undecided) h sent ends =
    let found = ends h.0.bytes h.0.fact in
    record { bytes = h.0.bytes; given = h.0.given; fact = (h.1, (found.0, counts_last writer.old mid writer.new asked.form h.0.bytes sent found.1)) }
ends_in reader writer asked mid feed (Err (stopped.Fault fault)) h sent ends =
    finish_fault (file_faults long_history_format) Stands (λ (_ : List ℕ) (_ : Unit {0}). Unit {0}) reader feed (Err fault) h ends
ends_in reader writer asked mid feed (Err stopped.Memory) h sent ends = tt
ends_in reader writer asked mid feed (Err stopped.Output) h sent ends = tt
