use Rattle.std.proofs.Common.{List, ℕ, codes, subst}
use Rattle.counted_devices.specs.DeviceStates.{states}
use Rattle.cli.specs.Devices.{ReceivesOrFails}
use Rattle.run_command.proofs.Spelling.{five}
use Rattle.run_command.proofs.telling.say_close.Goals as goal

pub returns : goal.returns
returns g c =
    let P : List ℕ → Type 0 = λ text. ReceivesOrFails (states g.E.Write.contents g.E.Counted.failures c.args.errors.now c.say.new.errors) text in
    subst P (five (codes "abd: close refused ") c.args.number.now (codes " ") c.args.name.now (codes "\n")) c.say.ensures
