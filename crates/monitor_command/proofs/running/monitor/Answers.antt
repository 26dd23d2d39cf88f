use Rattle.std.proofs.Common.{Bool, Ok, subst}
use Rattle.counted_devices.specs.DeviceStates.{states}
use Rattle.monitor_command.specs.Endings.{IsJudgedTo}
use Rattle.monitor_command.proofs.Loop.{ends_in, stopped_in}
use Rattle.monitor_command.proofs.running.monitor.Goals as goal

pub returns-in-Ok-false : goal.returns-in-Ok-false
returns-in-Ok-false g c =
    let reader = states g.R.Read.remaining g.R.Counted.failures c.args.reader.now c.judge_blocks.new.reader in
    let judged = states g.W.Write.contents g.W.Counted.failures c.args.out.now c.judge_blocks.new.out in
    let writer = states g.W.Write.contents g.W.Counted.failures c.args.out.now c.end.new.out in
    let feed = c.judge_blocks.new.session.feed in
    let P : Bool → Type 0 = λ stops. IsJudgedTo reader judged c.args.asked (Ok stops) feed in
    let to = subst P c.in-Ok-false.field-0-test c.in-Ok-false.ensures in
    ends_in reader writer c.args.asked judged.new feed c.end.result to.0 to.1 c.end.ensures

pub returns : goal.returns
returns g c =
    let reader = states g.R.Read.remaining g.R.Counted.failures c.args.reader.now c.judge_blocks.new.reader in
    let writer = states g.W.Write.contents g.W.Counted.failures c.args.out.now c.judge_blocks.new.out in
    stopped_in reader writer c.args.asked c.judge_blocks.new.session.feed c.in-Err.stopped c.in-Err.ensures
