-- What went out to a writer, and what waits after it.
use Rattle.std.specs.Prelude.{ℕ, ◌≡◌, List, ◌++◌, Option}
use Rattle.std.specs.Borrow.{Bor}
use Rattle.std.specs.List.{flat_map}
use Rattle.std.specs.Io.KnownBytes.{Appends}
use Rattle.counted_devices.specs.declared.write_fault.WriteFault.{WriteFault}
use Rattle.counted_devices.specs.declared.write_fault.WriteFault.TheVariants as fault
use Rattle.counted_devices.specs.Counts.{IsOneMore}

-- of the text a beginning went out between two states of a writer, and that rest didn't
pub record Leaves (old new : Option (List ℕ)) (text rest : List ℕ) : Type 0 where
  pub out : List ℕ
  pub sent : Appends old new out
  pub whole : text ≡ out ++ rest

-- between two states of a writer a beginning of the text went out
abbrev pub AppendsPrefix : Option (List ℕ) → Option (List ℕ) → List ℕ → Type 0
AppendsPrefix old new text = (rest : List ℕ) × Leaves old new text rest

-- so many bytes don't wait any longer
abbrev pub batch_limit : ℕ
batch_limit = 262144

-- a device's fault comes only where the count of failures grew
abbrev pub HasFailedBy : WriteFault → ℕ → ℕ → Type 0
HasFailedBy fault.Device old new = IsOneMore old new
HasFailedBy fault.Memory old new = Unit {0}

-- between two states of a writer the text went out, and nothing else
abbrev pub Sends : {W : Type 0} → (W → Option (List ℕ)) → W → W → List ℕ → Type 0
Sends contents old new text = Appends (contents old) (contents new) text

-- between two states of a writer a beginning of the text went out
abbrev pub SendsStart : {W : Type 0} → (W → Option (List ℕ)) → W → W → List ℕ → Type 0
SendsStart contents old new text = AppendsPrefix (contents old) (contents new) text

-- between two states of a writer a beginning of the text went out, and that rest waits
abbrev pub SendsBut : {W : Type 0} → (W → Option (List ℕ)) → W → W → List ℕ → List ℕ → Type 0
SendsBut contents old new text rest = Leaves (contents old) (contents new) text rest

-- a device's fault comes only where the writer's count of failures grew
abbrev pub FailsBy : {W : Type 0} → (W → ℕ) → W → W → WriteFault → Type 0
FailsBy failures old new fault = HasFailedBy fault (failures old) (failures new)

-- the fault is the device's, and the writer's count of failures grew
abbrev pub FailsByDevice : {W : Type 0} → (W → ℕ) → W → W → WriteFault → Type 0
FailsByDevice failures old new why = (why ≡ fault.Device) × IsOneMore (failures old) (failures new)

-- the text that is given in these pieces
abbrev pub pieces_text : List (Bor (List ℕ)) → List ℕ
pieces_text pieces = flat_map (λ piece. piece.now) pieces
