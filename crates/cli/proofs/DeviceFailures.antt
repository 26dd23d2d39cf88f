-- After a device failed, what went out as history is nothing, or a beginning of its text.
use Rattle.std.proofs.Common.{◌≡◌, ◌⊎◌, inl, inr, subst, List, ℕ}
use Rattle.counted_devices.specs.DeviceStates.{DeviceStates}
use Rattle.file_format.specs.Texts.{history_text}
use Rattle.fault_script.specs.Simulations.{FailsAfterStart, IfScript, Simulates, TakesText}
use Rattle.fault_script.specs.Faults.{ScriptError}
use Rattle.fault_script.specs.declared.simulate_script.SimulateError.{SimulateError}
use Rattle.fault_script.specs.declared.simulate_script.SimulateError.TheVariants as error
use Rattle.cli.specs.Devices.{FailsOnce, ReceivesNothing, ReceivesPrefix}
use Rattle.cli.specs.Reports.{FailsAmid}

-- something weaker holds of the texts of a run
pub weaker_run : (script : DeviceStates) (P Q : List ℕ → List ℕ → Type 0) → ((said text : List ℕ) → P said text → Q said text) → Simulates script P → Simulates script Q
weaker_run script P Q more run = record { script = run.script; read = run.read; rows = run.rows; messages = run.messages; run = run.run; fact = more run.messages (history_text run.rows) run.fact }

module _ (script out messages : DeviceStates) (Same : Type 0) (same : Same → ReceivesNothing out) where
  -- the messages broke off, or after them the history
  abbrev Broke : List ℕ → List ℕ → Type 0
  Broke said text = (FailsAfterStart messages said × Same) ⊎ (TakesText messages said × FailsAfterStart out text)

  by_fact : (run : Simulates script Broke) → Broke run.messages (history_text run.rows) → ReceivesNothing out ⊎ (Simulates script (λ said text. ReceivesPrefix out text) × FailsOnce out)
  by_fact run (inl early) = inl (same early.1)
  by_fact run (inr late) = inr (record { script = run.script; read = run.read; rows = run.rows; messages = run.messages; run = run.run; fact = late.1.0 }, late.1.1)

  pub begun : Simulates script Broke → ReceivesNothing out ⊎ (Simulates script (λ said text. ReceivesPrefix out text) × FailsOnce out)
  begun run = by_fact run run.fact

  -- what went out of the messages
  amid : (said text : List ℕ) → Broke said text → FailsAmid messages out said
  amid said text (inl early) = inl early.0
  amid said text (inr late) = inr (late.0, late.1.1)

  pub broke_off : Simulates script Broke → Simulates script (λ said text. FailsAmid messages out said)
  broke_off run = weaker_run script Broke (λ said text. FailsAmid messages out said) amid run

-- what holds of why the script couldn't be read
pub script_fault : (P : ScriptError → Type 0) (e : SimulateError) (why : ScriptError) → e ≡ error.Script why → IfScript e P → P why
script_fault P e why is holds =
    let Q : SimulateError → Type 0 = λ x. IfScript x P in
    subst Q is holds
