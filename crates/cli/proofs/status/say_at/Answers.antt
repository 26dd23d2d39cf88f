use Rattle.std.proofs.Common.{List, ℕ, codes, subst}
use Rattle.counted_devices.specs.DeviceStates.{states}
use Rattle.cli.specs.Devices.{ReceivesOrFails}
use Rattle.cli.proofs.FailureSpelling.{eleven}
use Rattle.cli.proofs.status.say_at.Goals as goal

pub returns : goal.returns
returns g c =
    let P : List ℕ → Type 0 = λ text. ReceivesOrFails (states g.E.Write.contents g.E.Counted.failures c.args.errors.now c.say.new.errors) text in
    subst P (eleven (codes "abd: ") c.args.name.now (codes ": line ") c.args.line.now (codes ": ") c.args.title.now (codes " ") c.args.number.now (codes " ") c.args.text.now (codes "\n")) c.say.ensures
