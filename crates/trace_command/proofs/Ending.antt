-- The text of a script's run was sent, or wasn't made.
use Rattle.std.proofs.Common.{◌≡◌, List, ℕ, [], Result, Ok, Err}
use Rattle.std.specs.Prelude.{IfOk, IfErr}
use Rattle.std.proofs.lemmas.Result.{IfErr-at_err, IfOk-at_ok}
use Rattle.counted_devices.specs.DeviceStates.{DeviceStates}
use Rattle.counted_devices.specs.Deliveries.{ReadsFrom}
use Rattle.fault_script.specs.Scripts.{IsScript}
use Rattle.script_runs.specs.declared.command.Script.{Script}
use Rattle.cli.specs.Devices.{WriterStates}
use Rattle.cli.specs.Outcomes.{Ends}
use Rattle.cli.specs.declared.outcome.Found.TheVariants as found
use Rattle.cli.specs.declared.outcome.Outcome.{Outcome}
use Rattle.cli.specs.declared.status.Failure.{Failure}
use Rattle.cli.specs.declared.status.Failure.TheVariants as failure
use Rattle.cli.specs.declared.status.Status.{Status}
use Rattle.cli.proofs.Endings.{weaker}
use Rattle.trace_command.specs.Endings.{MakesOfScript}

pub of_script : {W E : Type 0} (out : WriterStates W) (errors : WriterStates E) (IsOf : Script → List ℕ → Type 0) (Stops : Failure → Type 0) → ((why : Failure) → why ≡ failure.Memory → Stops why)
    → (reader : DeviceStates) (script : Script) → ReadsFrom IsScript reader script → (made : Result Outcome Failure) → ((outcome : Outcome) → made ≡ Ok outcome → IsOf script outcome.text.items)
    → IfOk made (λ outcome. outcome.found ≡ found.Good) → IfOk made (λ outcome. outcome.notes.items ≡ []) → IfErr made (λ why. why ≡ failure.Memory)
    → (s : Status) → Ends (λ outcome. made ≡ Ok outcome) (λ why. made ≡ Err why) out errors s → Ends (MakesOfScript IsOf reader) Stops out errors s
of_script out errors IsOf Stops memory reader script read made text good quiet stops s ends =
    weaker out errors (λ outcome. made ≡ Ok outcome) (MakesOfScript IsOf reader) (λ why. made ≡ Err why) Stops
    (λ outcome is. record { script = script; read = read; text = text outcome is; good = IfOk-at_ok (λ o. o.found ≡ found.Good) is good; quiet = IfOk-at_ok (λ o. o.notes.items ≡ []) is quiet })
    (λ why is. memory why (IfErr-at_err (λ w. w ≡ failure.Memory) is stops)) s ends
