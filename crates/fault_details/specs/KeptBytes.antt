-- What is kept of the bytes that a reader gave.
use Rattle.std.specs.Prelude.{ℕ, List, ◌≡◌, ◌<◌, ◌≤◌, ◌++◌, length, take, Result, Ok, Err, ⊤}
use Rattle.fault_details.specs.declared.kept_reader.Kept.{Kept}
use Rattle.fault_details.specs.declared.kept_reader.Kept.TheVariants as kept
use Rattle.fault_details.specs.declared.kept_reader.KeptReader.{KeptReader}

-- how many bytes are kept at most
abbrev pub most_kept_bytes : ℕ
most_kept_bytes = 16777216

-- what is kept of a reader's bytes
abbrev pub kept_of : {R : Type 0} → KeptReader R → Kept
kept_of reader = reader.kept

-- the reader whose bytes are kept
abbrev pub source_of : {R : Type 0} → KeptReader R → R
source_of reader = reader.reader

-- what is kept of those bytes: all of them, or none if they are too many or out of memory
abbrev pub IsKept : List ℕ → Kept → Type 0
IsKept bytes (kept.All all) = (all.items ≡ bytes) × (length bytes ≤ most_kept_bytes)
IsKept bytes kept.TooMany = most_kept_bytes < length bytes
IsKept bytes kept.NoMemory = ⊤

-- what is kept once more bytes came: with all before them, these too; if those were lost, nothing
abbrev pub IsKeptThen : Kept → List ℕ → Kept → Type 0
IsKeptThen (kept.All all) more new = IsKept (all.items ++ more) new
IsKeptThen kept.TooMany more new = new ≡ kept.TooMany
IsKeptThen kept.NoMemory more new = new ≡ kept.NoMemory

-- what is kept once a read gave so many of the block's bytes, or failed
abbrev pub KeepsRead : {E : Type 0} → Result ℕ E → List ℕ → Kept → Kept → Type 0
KeepsRead (Ok count) block old new = IsKeptThen old (take count block) new
KeepsRead (Err error) block old new = new ≡ old
