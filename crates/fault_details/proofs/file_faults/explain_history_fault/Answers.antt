use Rattle.std.proofs.lemmas.Result.{IfOk-weaker}
use Rattle.counted_devices.specs.DeviceStates.{states}
use Rattle.fault_details.specs.FileFaults.{AddsHistory, Says, SaysOfLine}
use Rattle.fault_details.proofs.file_faults.explain_history_fault.Goals as goal

pub returns : goal.returns
returns g c =
    let all = g.S.Read.remaining c.args.again in
    let reader = states g.R.Read.remaining g.R.Counted.failures c.args.reader.now c.find_line.new.reader in
    rw c.in-Line.is (IfOk-weaker c.explain_history_line.result
    (λ text. SaysOfLine (AddsHistory all) c.in_ok-line.line c.in-Line.kind text.items)
    (λ text. Says (AddsHistory all) reader c.args.fault.line c.in-Line.kind text.items)
    (λ text says. record { line = c.in_ok-line.line; finds = c.in_ok-line.ensures; says = says })
    c.explain_history_line.ensures)
