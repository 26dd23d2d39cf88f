-- The lines that say on standard error why a command failed.
use Rattle.std.specs.Prelude.{List, ℕ, ◌++◌, codes}
use Rattle.counted_devices.specs.FaultTexts.{FaultWords, read_fault_text}
use Rattle.counted_devices.specs.declared.read_fault.ReadFault.{ReadFault}
use Rattle.file_format.specs.declared.fault.LineFault as file
use Rattle.file_format.specs.Numbers as file_numbers
use Rattle.fault_script.specs.declared.fault.LineFault as script
use Rattle.fault_script.specs.Numbers as script_numbers
use Rattle.parallel_keys.specs.declared.error.CheckError.{CheckError}
use Rattle.parallel_keys.specs.declared.error.CheckError.TheVariants as error
use Rattle.cli.specs.declared.status.Failure.{Failure}
use Rattle.cli.specs.declared.status.Failure.TheVariants as failure

-- the failure of a command whose keys weren't checked for that reason
abbrev pub failure_of : CheckError → Failure
failure_of error.Memory = failure.Memory
failure_of error.Thread = failure.Thread

-- how faults of files are called and numbered
abbrev pub file_words : FaultWords file.LineFault
file_words = record {
  number = file_numbers.line_fault_number;
  text = file_numbers.line_fault_text;
  title = codes "fault";
  device = 13;
  memory = 14;
}

-- how faults of scripts are called and numbered
abbrev pub script_words : FaultWords script.LineFault
script_words = record {
  number = script_numbers.line_fault_number;
  text = script_numbers.line_fault_text;
  title = codes "script fault";
  device = 7;
  memory = 8;
}

-- the line of the fault at which the reading of the file of that name ended
unfoldable pub fault_line : {L : Type 0} → FaultWords L → List ℕ → ReadFault L → List ℕ
fault_line words name fault =
    codes "abd: " ++ name ++ codes ": " ++ read_fault_text words fault ++ codes "\n"

-- the line that says why a command failed
abbrev pub failure_line : Failure → List ℕ
failure_line (failure.Closed name) = codes "abd: " ++ name.now ++ codes ": cannot open\n"
failure_line (failure.File name fault) = fault_line file_words name.now fault
failure_line (failure.Script name error) = fault_line script_words name.now error
failure_line failure.Output = codes "abd: output failed\n"
failure_line failure.Memory = codes "abd: no memory\n"
failure_line failure.Thread = codes "abd: no thread\n"
