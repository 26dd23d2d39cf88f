-- Failures that are told, as a status says them.
use Rattle.std.proofs.Common.{ℕ, ◌≡◌, ◌⊎◌, inl, inr, List, Result, Ok, Err, refl, sym, subst, ◌∙◌}
use Rattle.std.specs.Prelude.{OnOk, OnErr, IfErr, true, false}
use Rattle.std.specs.Result.{is_ok}
use Rattle.counted_devices.specs.DeviceStates.{DeviceStates}
use Rattle.counted_devices.specs.declared.write_fault.WriteFault.{WriteFault}
use Rattle.counted_devices.specs.declared.write_fault.WriteFault.TheVariants as write
use Rattle.counted_devices.specs.declared.read_fault.FaultKind.{FaultKind}
use Rattle.counted_devices.specs.declared.read_fault.FaultKind.TheVariants as kind
use Rattle.cli.specs.FailureLines.{failure_line}
use Rattle.cli.specs.Justifications.{refusal_text, status_of_refusal}
use Rattle.cli.specs.Devices.{FailsOnce, FileStates, Receives, ReceivesOrFails, ReceivesPrefix}
use Rattle.cli.specs.Reports.{IsOfScript, ReportsSimulation}
use Rattle.cli.specs.Statuses.{status_of, status_of_kind}
use Rattle.cli.specs.declared.noted_orders.Unjustified.{Unjustified}
use Rattle.cli.specs.declared.noted_orders.Unjustified.TheVariants as unjustified
use Rattle.cli.specs.declared.status.Failure.{Failure}
use Rattle.cli.specs.declared.status.Failure.TheVariants as failure
use Rattle.cli.specs.declared.status.Status.{Status}
use Rattle.cli.specs.declared.status.Status.TheVariants.{Format, Failed}

kind_ends : {L : Type 0} (k : FaultKind L) → (status_of_kind k ≡ Format) ⊎ (status_of_kind k ≡ Failed)
kind_ends (kind.Line fault) = inl refl
kind_ends kind.Device = inr refl
kind_ends kind.Memory = inr refl

-- a failure has one of two statuses
pub failure_ends : (why : Failure) → (status_of why ≡ Format) ⊎ (status_of why ≡ Failed)
failure_ends (failure.Closed name) = inl refl
failure_ends (failure.File name fault) = kind_ends fault.kind
failure_ends (failure.Script name error) = kind_ends error.kind
failure_ends failure.Output = inr refl
failure_ends failure.Memory = inr refl
failure_ends failure.Thread = inr refl

-- the failure's line was told of a simulation
pub told_simulation : (file : FileStates) (out errors : DeviceStates) (why : Failure) (s : Status) → s ≡ status_of why → IsOfScript file why → ReceivesOrFails errors (failure_line why) → ReportsSimulation file out errors s
told_simulation file out errors why s is holds told =
    let P : Status → Type 0 = λ t. ReportsSimulation file out errors t in
    elim (failure_ends why) [
      | inl ends ↦ subst P (sym (is ∙ ends)) (record { failure = why; ends = ends; holds = holds; told = told })
      | inr ends ↦ subst P (sym (is ∙ ends)) (inl (record { failure = why; ends = ends; holds = holds; told = told }))
    ]

-- a text that was given to a writer was told
pub told_by : (r : Result (Unit {0}) WriteFault) (errors : DeviceStates) (text : List ℕ) → OnOk r (Receives errors text) → OnErr r (ReceivesPrefix errors text)
    → IfErr r (λ why. (why ≡ write.Device) × FailsOnce errors) → ReceivesOrFails errors text
told_by (Ok x) errors text sent begun failed = inl sent
told_by (Err why) errors text sent begun failed = inr (begun, failed.1)

-- where the refusal is out of memory, its line is that of the failure
pub memory_told : (refusal : Unjustified) (errors : DeviceStates) → status_of_refusal refusal ≡ Failed → ReceivesOrFails errors (refusal_text refusal) → ReceivesOrFails errors (failure_line failure.Memory)
unfolding refusal_text
memory_told (unjustified.NoNote key op) errors is told = absurd (cc)
memory_told (unjustified.NoOrder key fault) errors is told = absurd (cc)
memory_told unjustified.Memory errors is told = told

-- what an error leaves
pub failed : {T E : Type 0} (r : Result T E) (P : Type 0) → is_ok r ≡ false → OnErr r P → P
failed (Ok x) P is holds = absurd (cc)
failed (Err e) P is holds = holds

-- what an answer leaves that is no error
pub made : {T E : Type 0} (r : Result T E) (P : Type 0) → is_ok r ≡ true → OnOk r P → P
made (Ok x) P is holds = holds
made (Err e) P is holds = absurd (cc)
