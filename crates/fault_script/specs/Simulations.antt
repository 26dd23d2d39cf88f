-- What a simulation reads and writes.
use Rattle.std.specs.Prelude.{ℕ, ◌≡◌, List}
use Rattle.std.specs.Io.KnownBytes.{Appends}
use Rattle.counted_devices.specs.Counts.{IsOneMore}
use Rattle.counted_devices.specs.Deliveries.{ReadsFrom}
use Rattle.counted_devices.specs.DeviceStates.{DeviceStates}
use Rattle.counted_devices.specs.Sendings.{AppendsPrefix}
use Rattle.file_format.specs.ReadAgain.{IsTextOf}
use Rattle.file_format.specs.Texts.{history_text}
use Rattle.recorder.specs.Records.{IsPart}
use Rattle.recorder.specs.Sound.{TagSound}
use Rattle.recorder.specs.declared.part.Call.{Call}
use Rattle.recorder.specs.declared.row.Row.{Row}
use Rattle.fault_script.specs.Scripts.{IsScript}
use Rattle.fault_script.specs.ScriptRuns.{IsRunOf}
use Rattle.script_runs.specs.declared.command.Script.{Script}
use Rattle.fault_script.specs.Faults.{ScriptError}
use Rattle.fault_script.specs.declared.simulate_script.SimulateError.{SimulateError}
use Rattle.fault_script.specs.declared.simulate_script.SimulateError.TheVariants as error

-- the rows of a run of that script, and what is said in it; the text of the rows is read as them
-- and as no others, and the tags of each of their parts are sound
pub record IsSoundRun (script : Script) (rows : List Row) (messages : List ℕ) : Type 0 where
  pub run : IsRunOf script rows messages
  pub text : IsTextOf (history_text rows) rows
  pub sound : (key : List ℕ) (part : List Call) → IsPart rows key part → TagSound part

-- the reader's bytes, to its end, are a script, and of the messages and the text of the record of a
-- run of it that holds
pub record Simulates (reader : DeviceStates) (P : List ℕ → List ℕ → Type 0) : Type 0 where
  pub script : Script
  pub read : ReadsFrom IsScript reader script
  pub rows : List Row
  pub messages : List ℕ
  pub run : IsSoundRun script rows messages
  pub fact : P messages (history_text rows)

-- where the script couldn't be read, that holds of why
abbrev pub IfScript : SimulateError → (ScriptError → Type 0) → Type 0
IfScript (error.Script why) P = P why
IfScript error.Memory P = Unit {0}
IfScript error.Device P = Unit {0}

-- the text is that of the record of a run of the script that says those messages
abbrev pub AreTextsOf : Script → List ℕ → List ℕ → Type 0
AreTextsOf script messages history =
    (rows : List Row) × IsSoundRun script rows messages × (history ≡ history_text rows)

-- the text went out to the writer, and nothing else
abbrev pub TakesText : DeviceStates → List ℕ → Type 0
TakesText writer text = Appends writer.old writer.new text

-- the first writer took the messages, and the second the history's text
abbrev pub SendsBoth : DeviceStates → DeviceStates → List ℕ → List ℕ → Type 0
SendsBoth messages out said text = TakesText messages said × TakesText out text

-- the writer failed after a beginning of the text
abbrev pub FailsAfterStart : DeviceStates → List ℕ → Type 0
FailsAfterStart writer text =
    AppendsPrefix writer.old writer.new text × IsOneMore writer.failures writer.failures_now
