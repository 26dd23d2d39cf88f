use Rattle.std.proofs.Common.{◌≡◌, ◌∙◌, ap, refl, subst}
use Rattle.counted_devices.specs.DeviceStates.{DeviceStates}
use Rattle.parallel_keys.specs.declared.error.CheckError.{CheckError}
use Rattle.parallel_keys.specs.declared.error.CheckError.TheVariants as error
use Rattle.cli.specs.Devices.{ReceivesOrFails}
use Rattle.cli.specs.FailureLines.{failure_line, failure_of}
use Rattle.cli.specs.Statuses.{status_of}
use Rattle.cli.specs.declared.status.Failure.{Failure}
use Rattle.cli.specs.declared.status.Status.TheVariants as status
use Rattle.run_command.specs.Messages.{check_line}
use Rattle.run_command.proofs.telling.tell_check.Goals as goal

-- what is said of the failure, and its status, are those of the reason
said : (error : CheckError) → (failure_line (failure_of error) ≡ check_line error) × (status_of (failure_of error) ≡ status.Failed)
said error.Memory = (refl, refl)
said error.Thread = (refl, refl)

told : (devices : DeviceStates) (error : CheckError) (failure : Failure) → failure ≡ failure_of error
    → ReceivesOrFails devices (failure_line failure) → ReceivesOrFails devices (check_line error)
told devices error failure is by = subst (λ l. ReceivesOrFails devices l) (ap failure_line is ∙ (said error).0) by

pub returns : goal.returns
returns g c = record {
  status = c.report.ensures.status ∙ ap status_of c.from.ensures ∙ (said c.args.error).1;
  told = told _ c.args.error c.from.result c.from.ensures c.report.ensures.told;
}
