-- What a command does to its devices, and a file that it reads.
use Rattle.std.specs.Prelude.{ℕ, ◌≡◌, ◌⊎◌, List, [], ◌∷◌, Option}
use Rattle.std.specs.Io.KnownBytes.{Appends}
use Rattle.counted_devices.specs.Counts.{IsOneMore}
use Rattle.counted_devices.specs.DeviceStates.{DeviceStates, states}
use Rattle.counted_devices.specs.Sendings.{AppendsPrefix}
use Rattle.cli.specs.declared.sources.Source.{Source}

module _ (device : DeviceStates) where
  -- the text went out to the device, and nothing else did
  abbrev pub Receives : List ℕ → Type 0
  Receives text = Appends device.old device.new text

  -- a beginning of the text went out to the device, and nothing else did
  abbrev pub ReceivesPrefix : List ℕ → Type 0
  ReceivesPrefix text = AppendsPrefix device.old device.new text

  -- nothing went out to the device
  abbrev pub ReceivesNothing : Type 0
  ReceivesNothing = device.new ≡ device.old

  -- the device failed once more
  abbrev pub FailsOnce : Type 0
  FailsOnce = IsOneMore device.failures device.failures_now

  -- the text went out to the device, or the device failed after a beginning of it
  abbrev pub ReceivesOrFails : List ℕ → Type 0
  ReceivesOrFails text = Receives text ⊎ (ReceivesPrefix text × FailsOnce)

  -- nothing went out to the device, and it failed at nothing
  abbrev pub IsUntouched : Type 0
  IsUntouched = ReceivesNothing × (device.failures_now ≡ device.failures)

-- a device up to a moment, by what had gone out to it then and how often it had failed
abbrev pub device_until : DeviceStates → Option (List ℕ) → ℕ → DeviceStates
device_until device bytes failures = record device { new = bytes; failures_now = failures }

-- a device from such a moment on
abbrev pub device_since : DeviceStates → Option (List ℕ) → ℕ → DeviceStates
device_since device bytes failures = record device { old = bytes; failures = failures }

-- a file before and after a command: its name, and its reader
pub record FileStates : Type 0 where
  pub name : List ℕ
  pub reader : DeviceStates

-- the states of a file, by what its reader has left and by its count of failures
abbrev pub file_states : {R : Type 0} → (R → Option (List ℕ)) → (R → ℕ) → Source R → Source R
    → FileStates
file_states remaining failures old new =
    record { name = old.name.now; reader = states remaining failures old.reader new.reader }

-- a writer before and after a command: itself, and as a device
pub record WriterStates (W : Type 0) : Type 0 where
  pub old : W
  pub new : W
  pub device : DeviceStates

-- the states of a writer, by what had gone out to it and by its count of failures
abbrev pub writer_states : {W : Type 0} → (W → Option (List ℕ)) → (W → ℕ) → W → W → WriterStates W
writer_states contents failures old new =
    record { old = old; new = new; device = states contents failures old new }

-- the text goes to the writer so; if it is empty, the writer is as it was
abbrev pub Writes : {W : Type 0} → WriterStates W → (DeviceStates → List ℕ → Type 0) → List ℕ
    → Type 0
Writes writer Goes [] = writer.new ≡ writer.old
Writes writer Goes (c ∷ text) = Goes writer.device (c ∷ text)
