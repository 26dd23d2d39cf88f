-- After a device failed, what went out as history is nothing, or a beginning of its text.
use Rattle.std.proofs.Common.{◌≡◌, ap, Err, inr, refl, subst}
use Rattle.counted_devices.specs.DeviceStates.{states}
use Rattle.cli.proofs.DeviceFailures.{begun, broke_off, script_fault, weaker_run}
use Rattle.cli.proofs.Reported.{told_simulation}
use Rattle.cli.specs.Devices.{ReceivesOrFails}
use Rattle.cli.specs.FailureLines.{failure_line}
use Rattle.cli.specs.declared.status.Failure.TheVariants as failure
use Rattle.cli.proofs.simulate.simulate_command.Goals as goal

pub returns-in-Err-Device-clause-ends : goal.returns-in-Err-Device-clause-ends
returns-in-Err-Device-clause-ends g c =
    let script = states g.S.Read.remaining g.S.Counted.failures c.args.script.now.reader c.simulate.new.reader in
    let out = states g.W.Write.contents g.W.Counted.failures c.args.out.now c.simulate.new.out in
    let messages = states g.E.Write.contents g.E.Counted.failures c.args.errors.now c.simulate.new.messages in
    rw c.report-in-Err-Device.ensures.status
    (begun script out messages (c.simulate.new.out ≡ c.args.out.now) (λ same. ap g.W.Write.contents same) (c.in-Err-Device.ensures.begun (ap Err c.in-Err-Device.field-0-is)))

pub returns-in-Ok-clause-said : goal.returns-in-Ok-clause-said
returns-in-Ok-clause-said g c = weaker_run _ _ _ (λ said text both. both.0) c.in-Ok.ensures.written

pub returns-in-Err-Script-clause-said : goal.returns-in-Err-Script-clause-said
returns-in-Err-Script-clause-said g c =
    let why = script_fault _ c.in-Err-Script.field-0 c.in-Err-Script.error c.in-Err-Script.field-0-is c.in-Err-Script.ensures.fault in
    let P : g.row.E.Denot → Type 0 = λ messages. ReceivesOrFails (states g.E.Write.contents g.E.Counted.failures messages c.report.new.errors) (failure_line (failure.Script c.args.script.now.name c.in-Err-Script.error)) in
    told_simulation _ _ _ (failure.Script c.args.script.now.name c.in-Err-Script.error) c.report.result c.report.ensures.status (refl, why.0, why.1) (subst P why.3 c.report.ensures.told)

pub returns-in-Err-Device-clause-said : goal.returns-in-Err-Device-clause-said
returns-in-Err-Device-clause-said g c =
    let script = states g.S.Read.remaining g.S.Counted.failures c.args.script.now.reader c.simulate.new.reader in
    let out = states g.W.Write.contents g.W.Counted.failures c.args.out.now c.simulate.new.out in
    let messages = states g.E.Write.contents g.E.Counted.failures c.args.errors.now c.simulate.new.messages in
    rw c.report-in-Err-Device.ensures.status (inr (record {
      between = messages.new;
      failures_between = messages.failures_now;
      broke = broke_off script out messages (c.simulate.new.out ≡ c.args.out.now) (λ same. ap g.W.Write.contents same) (c.in-Err-Device.ensures.begun (ap Err c.in-Err-Device.field-0-is));
      told = c.report-in-Err-Device.ensures.told;
    }))
