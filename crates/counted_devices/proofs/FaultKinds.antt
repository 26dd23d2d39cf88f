-- Faults of reading by their kinds.
use Rattle.std.specs.Prelude.{ℕ}
use Rattle.counted_devices.specs.declared.read_fault.FaultKind.{FaultKind}
use Rattle.counted_devices.specs.declared.read_fault.FaultKind.TheVariants as kind
use Rattle.counted_devices.specs.ReadFaults.{IsFaultBy, HasFailed}

-- what holds of lines' faults alone, said of something weaker
pub of_line : {L : Type 0} (P Q : L → Type 0) (OfDevice : Type 0) (k : FaultKind L)
    → ((fault : L) → P fault → Q fault) → IsFaultBy P ⊥ k → IsFaultBy Q OfDevice k
of_line P Q OfDevice (kind.Line fault) more h = more fault h
of_line P Q OfDevice kind.Device more h = absurd h
of_line P Q OfDevice kind.Memory more h = tt

-- a fault that is no device's needs no failure
pub no_device : {L : Type 0} (P : L → Type 0) (k : FaultKind L) (old new : ℕ) → IsFaultBy P ⊥ k
    → HasFailed k old new
no_device P (kind.Line fault) old new h = tt
no_device P kind.Device old new h = absurd h
no_device P kind.Memory old new h = tt
