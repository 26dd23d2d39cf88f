-- The texts of faults, as programs print them.
use Rattle.std.specs.Prelude.{ℕ, List, ◌++◌, codes, decimal}
use Rattle.counted_devices.specs.declared.read_fault.FaultKind.{FaultKind}
use Rattle.counted_devices.specs.declared.read_fault.FaultKind.TheVariants as kind
use Rattle.counted_devices.specs.declared.read_fault.ReadFault.{ReadFault}
use Rattle.counted_devices.specs.Numbers.{fault_number}

-- what a fault of reading is called, where those of lines are called so
abbrev pub kind_text : {L : Type 0} → (L → List ℕ) → FaultKind L → List ℕ
kind_text text (kind.Line fault) = text fault
kind_text text kind.Device = codes "device"
kind_text text kind.Memory = codes "memory"

-- how the faults of lines are numbered and called, and what a fault of reading is called and
-- numbered beside them
pub record FaultWords (L : Type 0) : Type 0 where
  pub number : L → ℕ
  pub text : L → List ℕ
  pub title : List ℕ
  pub device : ℕ
  pub memory : ℕ

-- a fault of reading, as it is printed: its line, then what such faults are called, its number and
-- its text
abbrev pub read_fault_text : {L : Type 0} → FaultWords L → ReadFault L → List ℕ
read_fault_text words fault =
    codes "line " ++ decimal fault.line ++ codes ": " ++ words.title ++ codes " "
    ++ decimal (fault_number words.number words.device words.memory fault.kind) ++ codes " "
    ++ kind_text words.text fault.kind
