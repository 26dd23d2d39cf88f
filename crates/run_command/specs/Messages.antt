-- What a run says on standard error, line by line.
use Rattle.std.specs.Prelude.{ℕ, ◌≡◌, ◌⊎◌, List, [], ◌∷◌, ◌++◌, Option, Some, None, map, codes}
use Rattle.std.specs.Prelude.{decimal}
use Rattle.counted_devices.specs.DeviceStates.{DeviceStates}
use Rattle.cli.specs.Devices.{FailsOnce, IsUntouched, ReceivesOrFails, device_since, device_until}
use Rattle.cli.specs.FailureLines.{failure_line}
use Rattle.certificate_check.specs.Texts.{fault_text}
use Rattle.cli.specs.declared.status.Failure.TheVariants as failure
use Rattle.cli.specs.declared.status.Status.{Status}
use Rattle.cli.specs.declared.status.Status.TheVariants as status
use Rattle.node_threads.specs.Numbers.{close_error_name, close_error_number}
use Rattle.node_threads.specs.declared.closing.ClosedHall.{ClosedHall}
use Rattle.node_threads.specs.declared.errors.CloseError.{CloseError}
use Rattle.seats.specs.Numbers.{call_error_name, call_error_number}
use Rattle.parallel_keys.specs.declared.error.CheckError.{CheckError}
use Rattle.parallel_keys.specs.declared.error.CheckError.TheVariants as check
use Rattle.load_run.specs.declared.error.LoadError.{LoadError}
use Rattle.load_run.specs.declared.error.LoadError.TheVariants as load
use Rattle.load_run.specs.declared.load_run.Refused.{Refused}
use Rattle.run_command.specs.RecordVerdicts.{IsFirstNoOfHalls}
use Rattle.run_command.specs.declared.check_record.RefusedKey.{RefusedKey}
use Rattle.run_command.specs.declared.shown.NoText.{NoText}
use Rattle.run_command.specs.declared.shown.NoText.TheVariants as none

-- the lines went out to the device one after another, each whole or, if it failed, a beginning of
-- it; and nothing else did
abbrev pub ReceivesLines : DeviceStates → List (List ℕ) → Type 0
ReceivesLines device [] = IsUntouched device
ReceivesLines device (line ∷ rest) =
    (between : Option (List ℕ)) × (failures : ℕ)
    × ReceivesOrFails (device_until device between failures) line
    × ReceivesLines (device_since device between failures) rest

-- the line of a caller whose call was refused
abbrev pub refusal_line : Refused → List ℕ
refusal_line refused =
    codes "abd: caller " ++ decimal refused.caller ++ codes ": call refused "
    ++ decimal (call_error_number refused.error) ++ codes " " ++ call_error_name refused.error
    ++ codes "\n"

-- the lines of the callers whose calls were refused
abbrev pub refusal_lines : List Refused → List (List ℕ)
refusal_lines refusals = map refusal_line refusals

-- why the load wasn't run to its end
abbrev pub load_line : LoadError → List ℕ
load_line load.Memory = failure_line failure.Memory
load_line load.Thread = failure_line failure.Thread
load_line load.ClientTaken = codes "abd: a caller's name was taken\n"

-- why the store wasn't closed
abbrev pub close_line : CloseError → List ℕ
close_line error = codes "abd: close refused " ++ decimal (close_error_number error) ++ codes " "
    ++ close_error_name error ++ codes "\n"

-- why the keys weren't checked
abbrev pub check_line : CheckError → List ℕ
check_line check.Memory = failure_line failure.Memory
check_line check.Thread = failure_line failure.Thread

-- why there is no text to write
abbrev pub no_text_line : NoText → List ℕ
no_text_line none.Memory = failure_line failure.Memory
no_text_line none.Apart = codes "abd: the halls' records make no history\n"

-- why a key is refused
abbrev pub key_line : RefusedKey → List ℕ
key_line refused =
    codes "abd: key " ++ refused.key ++ codes ": no " ++ fault_text refused.fault ++ codes "\n"

-- the line of a refused key, if there is one
abbrev pub key_lines : Option RefusedKey → List (List ℕ)
key_lines None = []
key_lines (Some refused) = key_line refused ∷ []

-- the line says that memory or a thread was wanted, or that the halls' records make no history
abbrev pub IsWant : List ℕ → Type 0
IsWant line = (line ≡ failure_line failure.Memory) ⊎ (line ≡ failure_line failure.Thread)
    ⊎ (line ≡ codes "abd: the halls' records make no history\n")

-- the line says that the output failed, and it did
abbrev pub IsOutput : DeviceStates → List ℕ → Type 0
IsOutput out line = (line ≡ failure_line failure.Output) × FailsOnce out

-- standard error was sent a line that says what was wanted
abbrev pub TellsWant : DeviceStates → Type 0
TellsWant errors = (line : List ℕ) × IsWant line × ReceivesOrFails errors line

-- what the status says of the first refused key. Good: there is none. Refused: its line went out.
-- Failed: memory was wanted instead, which was said
abbrev pub TellsKey : Option RefusedKey → DeviceStates → Status → Type 0
TellsKey first errors status.Good = (first ≡ None) × ReceivesLines errors []
TellsKey first errors status.Refused =
    (refused : RefusedKey) × (first ≡ Some refused) × ReceivesOrFails errors (key_line refused)
TellsKey first errors status.Usage = ⊥
TellsKey first errors status.Format = ⊥
TellsKey first errors status.Undecided = ⊥
TellsKey first errors status.Failed = ReceivesOrFails errors (failure_line failure.Memory)

-- the line of the first key of the halls that is refused, if there is one
abbrev pub AreOfKeys : List ClosedHall → List (List ℕ) → Type 0
AreOfKeys halls lines =
    (first : Option RefusedKey) × IsFirstNoOfHalls halls first × (lines ≡ key_lines first)

module _ (halls : List ClosedHall) (out : DeviceStates) where
  -- a failure's line, and the lines before it: what was wanted is said after the line of a refused
  -- key or alone; that the output failed, after that line
  abbrev pub AreFailing : List (List ℕ) → List ℕ → Type 0
  AreFailing keys line = ((AreOfKeys halls keys ⊎ (keys ≡ [])) × IsWant line)
      ⊎ (AreOfKeys halls keys × IsOutput out line)

  -- the lines that end a run that closed its store: none if all is well, that of the first refused
  -- key, and at last a failure's
  abbrev pub AreEnding : Status → List (List ℕ) → Type 0
  AreEnding status.Good lines = lines ≡ []
  AreEnding status.Refused lines = (refused : RefusedKey)
      × IsFirstNoOfHalls halls (Some refused) × (lines ≡ key_line refused ∷ [])
  AreEnding status.Usage lines = ⊥
  AreEnding status.Format lines = ⊥
  AreEnding status.Undecided lines = ⊥
  AreEnding status.Failed lines = (keys : List (List ℕ)) × (line : List ℕ)
      × AreFailing keys line × (lines ≡ keys ++ line ∷ [])

  -- such lines went out to standard error
  abbrev pub SaysEnding : DeviceStates → Status → Type 0
  SaysEnding errors s = (lines : List (List ℕ)) × AreEnding s lines × ReceivesLines errors lines
