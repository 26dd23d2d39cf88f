-- What is made of the bytes that a reader gives, one block after another.
use Rattle.std.proofs.Common.{ℕ, List, ◌++◌, Option, Result, Ok, Err, ◌⊎◌, inl, inr}
use Rattle.std.specs.Prelude.{IfOk, IfErr}
use Rattle.std.specs.Io.KnownBytes.{Consumes, IsAtEnd}
use Rattle.counted_devices.specs.declared.read_fault.FaultKind.{FaultKind}
use Rattle.counted_devices.specs.declared.read_fault.ReadFault.{ReadFault}
use Rattle.counted_devices.specs.DeviceStates.{DeviceStates}
use Rattle.counted_devices.specs.Deliveries.{Delivers, ReadsFrom, HoldsAll}
use Rattle.counted_devices.specs.ReadFaults.{FailsFrom}
use Rattle.counted_devices.specs.FirstFaults.{LineFaults, IsUnderWay, StopsWith, StopsFrom, FaultSoFar, FaultInAll, FileAnswers}
use Rattle.counted_devices.proofs.Consuming.{Consumes-join}
use Rattle.counted_devices.proofs.FaultKinds.{of_line, no_device}

-- what was made of the bytes, made of these bytes too
pub Delivers-more : (P Q : List ℕ → Type 0) (a b c : Option (List ℕ)) (block : List ℕ) → Delivers a b P → Consumes b c block → ((bytes : List ℕ) → P bytes → Q (bytes ++ block)) → Delivers a c Q
Delivers-more P Q a b c block h k goes = record {
  bytes = h.bytes ++ block;
  given = Consumes-join a b c h.bytes block h.given k;
  fact = goes h.bytes h.fact;
}

module _ {L : Type 0} (faults : LineFaults L) where
  -- a fault of the lines that are whole so far is the first, wherever the reader is
  so_far : (left : Option (List ℕ)) (bytes : List ℕ) (number : ℕ) (k : FaultKind L) → FaultSoFar faults bytes number k → StopsWith faults left number k bytes
  so_far left bytes number k h =
      let Either : L → Type 0 = λ fault. faults.IsFirstSoFar bytes number fault ⊎ (IsAtEnd left × faults.IsFirstInAll bytes number fault) in
      of_line (faults.IsFirstSoFar bytes number) Either (IsUnderWay faults bytes number) k (λ fault g. inl g) h

  -- the first fault of all the bytes is the first at the reader's end
  at_end : (left : Option (List ℕ)) (bytes : List ℕ) (number : ℕ) (k : FaultKind L) → IsAtEnd left → FaultInAll faults bytes number k → StopsWith faults left number k bytes
  at_end left bytes number k e h =
      let Either : L → Type 0 = λ fault. faults.IsFirstSoFar bytes number fault ⊎ (IsAtEnd left × faults.IsFirstInAll bytes number fault) in
      of_line (faults.IsFirstInAll bytes number) Either (IsUnderWay faults bytes number) k (λ fault g. inr (e, g)) h

  module _ (reader : DeviceStates) (fault : ReadFault L) where
    -- the fault of a line that was given is the first, and no device's
    pub stops_late : (P : List ℕ → Type 0) → Delivers reader.old reader.new P → ((bytes : List ℕ) → P bytes → FaultSoFar faults bytes fault.line fault.kind) → StopsFrom faults reader fault × FailsFrom reader fault
    stops_late P h stops = (
      record {
        bytes = h.bytes;
        given = h.given;
        fact = so_far reader.new h.bytes fault.line fault.kind (stops h.bytes h.fact);
      },
      no_device (faults.IsFirstSoFar h.bytes fault.line) fault.kind reader.failures reader.failures_now (stops h.bytes h.fact),
    )

    -- the same of a fault in the next block
    pub stops_now : (P : List ℕ → Type 0) (before : Option (List ℕ)) (block : List ℕ) → Delivers reader.old before P → Consumes before reader.new block → ((bytes : List ℕ) → P bytes → FaultSoFar faults (bytes ++ block) fault.line fault.kind) → StopsFrom faults reader fault × FailsFrom reader fault
    stops_now P before block h k stops =
        let Q : List ℕ → Type 0 = λ bytes. FaultSoFar faults bytes fault.line fault.kind in
        stops_late Q (Delivers-more P Q reader.old before reader.new block h k stops) (λ bytes first. first)

  module _ {F X : Type 0} (Stands : List ℕ → F → Type 0) (Reads : List ℕ → X → Type 0) (reader : DeviceStates) (feed : F) where
    -- the end: what was made of all the bytes
    pub finish_read : (r : Result X (ReadFault L)) → HoldsAll Stands reader feed → ((bytes : List ℕ) → Stands bytes feed → FileAnswers faults Reads bytes r) → IfOk r (λ contents. ReadsFrom Reads reader contents)
    finish_read (Ok contents) h ends = record { bytes = h.0.bytes; given = h.0.given; fact = (h.1, ends h.0.bytes h.0.fact) }
    finish_read (Err fault) h ends = tt

    -- the end: the first fault of all
    pub finish_fault : (r : Result X (ReadFault L)) → HoldsAll Stands reader feed → ((bytes : List ℕ) → Stands bytes feed → FileAnswers faults Reads bytes r) → IfErr r (λ fault. StopsFrom faults reader fault)
    finish_fault (Ok contents) h ends = tt
    finish_fault (Err fault) h ends = record {
      bytes = h.0.bytes;
      given = h.0.given;
      fact = at_end reader.new h.0.bytes fault.line fault.kind h.1 (ends h.0.bytes h.0.fact);
    }

    -- no device failed at the end
    pub finish_device : (r : Result X (ReadFault L)) → HoldsAll Stands reader feed → ((bytes : List ℕ) → Stands bytes feed → FileAnswers faults Reads bytes r) → IfErr r (λ fault. FailsFrom reader fault)
    finish_device (Ok contents) h ends = tt
    finish_device (Err fault) h ends = no_device (faults.IsFirstInAll h.0.bytes fault.line) fault.kind reader.failures reader.failures_now (ends h.0.bytes h.0.fact)
