use Rattle.std.proofs.Common.{refl}
use Rattle.counted_devices.specs.DeviceStates.{states}
use Rattle.run_command.proofs.Spelling.{key_told}
use Rattle.run_command.proofs.telling.tell_refused_key.Goals as goal

pub returns : goal.returns
returns g c =
    let errors = states g.E.Write.contents g.E.Counted.failures c.args.errors.now c.report.new.errors in
    rw c.in-Some.is (key_told _ c.in-Some.refused errors c.report.result refl c.report.ensures.refuses c.report.ensures.memory)
