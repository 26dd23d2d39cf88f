use Rattle.std.proofs.lemmas.Result.{IfOk-weaker}
use Rattle.counted_devices.specs.DeviceStates.{states}
use Rattle.fault_details.specs.FileFaults.{Says, SaysOfLine}
use Rattle.fault_details.specs.ScriptFaults.{AddsScript}
use Rattle.fault_details.proofs.script_faults.explain_script_fault.Goals as goal

pub returns : goal.returns
returns g c =
    let reader = states g.R.Read.remaining g.R.Counted.failures c.args.reader.now c.find_line.new.reader in
    rw c.in-Line.is (IfOk-weaker c.explain_script_line.result
    (λ text. SaysOfLine AddsScript c.in_ok-line.line c.in-Line.kind text.items)
    (λ text. Says AddsScript reader c.args.fault.line c.in-Line.kind text.items)
    (λ text says. record { line = c.in_ok-line.line; finds = c.in_ok-line.ensures; says = says })
    c.explain_script_line.ensures)
