-- A line of a file, found by its number.
use Rattle.std.specs.Prelude.{ℕ, ◌≡◌, ◌<◌, ◌≤◌, ◌+◌, ◌-◌, ◌⊎◌, ◌==◌, List, [], ◌∷◌, ◌++◌, Bool}
use Rattle.std.specs.Prelude.{true, false, Option, Some, None, All, length, take, if◌then◌else◌}
use Rattle.std.specs.List.{flat_map}
use Rattle.std.specs.Io.KnownBytes.{IsAtEnd}
use Rattle.counted_devices.specs.Counts.{IsOneMore}
use Rattle.counted_devices.specs.Cuts.{HasNoEnd, Splits, with_end}
use Rattle.counted_devices.specs.Deliveries.{Delivers}
use Rattle.counted_devices.specs.DeviceStates.{DeviceStates}
use Rattle.fault_details.specs.declared.found_line.FoundLine.{FoundLine}
use Rattle.fault_details.specs.declared.found_line.Scan.{Scan}

-- how many bytes of a line are kept: one more than a line may have
abbrev pub most_kept : ℕ
most_kept = 65537

-- the first of those lines and that one
abbrev pub first_of : List (List ℕ) → List ℕ → List ℕ
first_of [] line = line
first_of (first ∷ lines) line = first

-- after a line with its end stands byte 10, after one without nothing
abbrev pub IsEnd : Bool → List ℕ → Type 0
IsEnd true after = (rest : List ℕ) × (after ≡ 10 ∷ rest)
IsEnd false after = after ≡ []

-- the line stands in the bytes after so many others with their ends, and is kept with the first
pub record IsLineIn (bytes : List ℕ) (line : FoundLine) : Type 0 where
  pub earlier : List (List ℕ)
  pub whole : List ℕ
  pub after : List ℕ
  pub place : bytes ≡ flat_map with_end earlier ++ (whole ++ after)
  pub each : All HasNoEnd earlier
  pub none : HasNoEnd whole
  pub end : IsEnd line.has_end after
  pub counted : line.number ≡ length earlier + 1
  pub before : line.begins ≡ length (flat_map with_end earlier)
  pub kept : line.bytes.items ≡ take most_kept whole
  pub first : line.first.items ≡ take most_kept (first_of earlier whole)

-- the same of the line of that number
abbrev pub IsLineOf : List ℕ → ℕ → FoundLine → Type 0
IsLineOf bytes number line = (line.number ≡ number) × IsLineIn bytes line

-- the bytes have fewer lines, the one after the last end counted
pub record LacksLine (bytes : List ℕ) (number : ℕ) : Type 0 where
  pub lines : List (List ℕ)
  pub rest : List ℕ
  pub splits : Splits bytes lines rest
  pub fewer : length lines + 1 < number

-- no line has that number
abbrev pub IsMissing : List ℕ → ℕ → Type 0
IsMissing bytes number = (number ≡ 0) ⊎ LacksLine bytes number

-- the line of that number is found in the bytes that a reader gave; or it gave all, which have no
-- such line, or it failed
abbrev pub FindsLine : DeviceStates → ℕ → Option FoundLine → Type 0
FindsLine reader number (Some line) =
    Delivers reader.old reader.new (λ bytes. IsLineOf bytes number line)
FindsLine reader number None =
    Delivers reader.old reader.new (λ bytes. IsAtEnd reader.new × IsMissing bytes number)
    ⊎ IsOneMore reader.failures reader.failures_now

-- ---- while it is looked for

-- the bytes so far are whole lines and a part of the next, none of them the line that is looked for
-- with its end; the line under way and the first are kept
pub record IsScan (bytes : List ℕ) (scan : Scan) : Type 0 where
  pub earlier : List (List ℕ)
  pub part : List ℕ
  pub splits : Splits bytes earlier part
  pub counted : scan.under_way ≡ length earlier + 1
  pub fed : scan.fed ≡ length bytes
  pub before : scan.begins ≡ length (flat_map with_end earlier)
  pub below : (scan.wanted ≡ 0) ⊎ (scan.under_way ≤ scan.wanted)
  pub kept : scan.bytes.items
      ≡ (if scan.under_way == scan.wanted then take most_kept part else [])
  pub first : scan.first.items ≡ take most_kept (first_of earlier part)

-- what is kept of a line, with the bytes that follow, if it is kept
abbrev pub kept_after : Bool → List ℕ → List ℕ → List ℕ
kept_after false kept bytes = kept
kept_after true kept bytes = kept ++ take (most_kept - length kept) bytes

-- bytes of the line under way were taken
pub record Takes (bytes : List ℕ) (old new : Scan) : Type 0 where
  pub wanted : new.wanted ≡ old.wanted
  pub under_way : new.under_way ≡ old.under_way
  pub fed : new.fed ≡ old.fed + length bytes
  pub begins : new.begins ≡ old.begins
  pub first : new.first.items ≡ kept_after (old.under_way == 1) old.first.items bytes
  pub kept : new.bytes.items ≡ kept_after (old.under_way == old.wanted) old.bytes.items bytes

-- the end of the line under way was taken
pub record EndsLine (old new : Scan) : Type 0 where
  pub wanted : new.wanted ≡ old.wanted
  pub under_way : new.under_way ≡ old.under_way + 1
  pub fed : new.fed ≡ old.fed + 1
  pub begins : new.begins ≡ old.fed + 1
  pub first : new.first.items ≡ old.first.items
  pub kept : new.bytes.items ≡ old.bytes.items

-- the line that is looked for was scanned, and its end and other bytes stand after it
pub record IsEnded (bytes : List ℕ) (scan : Scan) : Type 0 where
  pub seen : List ℕ
  pub after : List ℕ
  pub whole : bytes ≡ seen ++ 10 ∷ after
  pub scanned : IsScan seen scan
  pub there : (scan.under_way == scan.wanted) ≡ true

-- the bytes were scanned up to the end of the line that is looked for, or all of them, which have
-- no such end
abbrev pub Ends : Bool → List ℕ → Scan → Type 0
Ends true bytes scan = IsEnded bytes scan
Ends false bytes scan = IsScan bytes scan
