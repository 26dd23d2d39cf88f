-- What a reader delivered, and what was made of it.
use Rattle.std.specs.Prelude.{ℕ, List, Option}
use Rattle.std.specs.Io.KnownBytes.{Consumes, IsAtEnd}
use Rattle.counted_devices.specs.DeviceStates.{DeviceStates}

-- the bytes that a reader gave between two of its states, and a fact of them
pub record Delivers (old new : Option (List ℕ)) (P : List ℕ → Type 0) : Type 0 where
  pub bytes : List ℕ
  pub given : Consumes old new bytes
  pub fact : P bytes

-- a reader that has that left is at its end, and all its bytes are read as the contents
abbrev pub ReadsAll : {X : Type 0} → (List ℕ → X → Type 0) → Option (List ℕ) → X → List ℕ → Type 0
ReadsAll Reads left contents bytes = IsAtEnd left × Reads bytes contents

-- the reader gave all its bytes to its end, and they are read as the contents
abbrev pub ReadsFrom : {X : Type 0} → (List ℕ → X → Type 0) → DeviceStates → X → Type 0
ReadsFrom Reads reader contents =
    Delivers reader.old reader.new (ReadsAll Reads reader.new contents)

-- the feed stands for the bytes that a reader gave
abbrev pub Holds : {F : Type 0} → (List ℕ → F → Type 0) → Option (List ℕ) → Option (List ℕ) → F
    → Type 0
Holds Stands old new feed = Delivers old new (λ bytes. Stands bytes feed)

-- the feed stands for all bytes that the reader gave, and the reader is at its end
abbrev pub HoldsAll : {F : Type 0} → (List ℕ → F → Type 0) → DeviceStates → F → Type 0
HoldsAll Stands reader feed = Holds Stands reader.old reader.new feed × IsAtEnd reader.new
