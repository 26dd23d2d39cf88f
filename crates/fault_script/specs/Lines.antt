-- What a line says after the lines before it.
use Rattle.std.specs.Prelude.{ℕ, ◌≡◌, ◌≤◌, ◌<◌, List, length, Option, Result, Err, IsUtf8}
use Rattle.counted_devices.specs.Cuts.{longest_line}
use Rattle.fault_script.specs.declared.parse_line.ConfigSoFar.{ConfigSoFar}
use Rattle.fault_script.specs.declared.parse_line.Said.{Said}
use Rattle.fault_script.specs.declared.fault.LineFault.{LineFault}
use Rattle.fault_script.specs.declared.fault.LineFault.TheVariants.{NotUtf8, TooLong}
use Rattle.fault_script.specs.Words.{without_return}
use Rattle.fault_script.specs.LineMeanings.{text_says}

-- a line, without its end, is too long, else no text, else its words say nothing, a command or a
-- fault
pub data ScriptLineSays (before : Option ConfigSoFar) (count : ℕ) (line : List ℕ) :
    Result (Option Said) LineFault → Type 0 where
  is_long : longest_line < length line → ScriptLineSays before count line (Err TooLong)
  is_no_text : length line ≤ longest_line → (IsUtf8 line → ⊥)
      → ScriptLineSays before count line (Err NotUtf8)
  says : (said : Result (Option Said) LineFault) → length line ≤ longest_line → IsUtf8 line
      → text_says before count (without_return line) ≡ said
      → ScriptLineSays before count line said
