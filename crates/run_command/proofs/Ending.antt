-- What a run's status says.
use Rattle.std.proofs.Common.{◌≡◌, List, Option, Some, None, inl, inr, subst, sym}
use Rattle.counted_devices.specs.DeviceStates.{DeviceStates}
use Rattle.cli.specs.Devices.{Receives, ReceivesOrFails}
use Rattle.cli.specs.declared.status.Status.{Status}
use Rattle.cli.specs.declared.status.Status.TheVariants as status
use Rattle.node_threads.specs.declared.closing.ClosedHall.{ClosedHall}
use Rattle.node_threads.specs.declared.errors.CloseError.{CloseError}
use Rattle.node_threads.specs.declared.errors.CloseError.TheVariants as close
use Rattle.command_line.specs.declared.asked.RunAsked.{RunAsked}
use Rattle.load_run.specs.declared.error.LoadError.{LoadError}
use Rattle.run_command.specs.Messages.{load_line}
use Rattle.run_command.specs.RecordVerdicts.{IsFirstNoOfHalls}
use Rattle.run_command.specs.Runs.{EndsClosedHalls, EndsClosed, EndsRun, IsUnclosed, OfShownText, status_of_close, status_of_check}
use Rattle.run_command.specs.declared.check_record.RefusedKey.{RefusedKey}

-- the text went out, and the keys were checked
pub ends_checked : (asked : RunAsked) (halls : List ClosedHall) (out : DeviceStates) (first : Option RefusedKey) → IsFirstNoOfHalls halls first → OfShownText asked halls (Receives out) → EndsClosedHalls asked halls out (status_of_check first)
ends_checked asked halls out None checked sends = (checked, sends)
ends_checked asked halls out (Some refused) checked sends = ((refused, checked), sends)

-- the store was closed
pub ends_closed : (asked : RunAsked) (out errors : DeviceStates) (s : Status) → EndsClosed asked out errors s → EndsRun asked out errors s
ends_closed asked out errors status.Good ends = ends
ends_closed asked out errors status.Refused ends = inl ends
ends_closed asked out errors status.Usage ends = ends.ends
ends_closed asked out errors status.Format ends = ends.ends
ends_closed asked out errors status.Undecided ends = ends.ends
ends_closed asked out errors status.Failed ends = inl ends

-- it wasn't
pub ends_open : (asked : RunAsked) (out errors : DeviceStates) (error : CloseError) → IsUnclosed asked out errors error → EndsRun asked out errors (status_of_close error)
ends_open asked out errors close.SeatMismatch ends = inr ends
ends_open asked out errors close.Memory ends = inr (inl ends)

-- the load wasn't run to its end
pub ends_unloaded : (asked : RunAsked) (out errors : DeviceStates) (error : LoadError) (s : Status) → s ≡ status.Failed → out.new ≡ out.old → ReceivesOrFails errors (load_line error) → EndsRun asked out errors s
ends_unloaded asked out errors error s is quiet told =
    subst (λ (t : Status). EndsRun asked out errors t) (sym is) (inr (inr (record { quiet = quiet; error = error; said = told })))
