use Rattle.std.proofs.Common.{List, ℕ, subst, ap, decimal, ◌∙◌}
use Rattle.counted_devices.specs.DeviceStates.{states}
use Rattle.cli.specs.Devices.{ReceivesOrFails}
use Rattle.cli.proofs.FailureSpelling.{fault_pieces}
use Rattle.cli.proofs.status.say_fault.Goals as goal

pub returns : goal.returns
returns g c =
    let P : List ℕ → Type 0 = λ text. ReceivesOrFails (states g.E.Write.contents g.E.Counted.failures c.args.errors.now c.say_at.new.errors) text in
    subst P (fault_pieces (record {
      number = g.L.FaultNumbers.number;
      text = g.L.FaultNumbers.text;
      title = g.L.FaultNumbers.title;
      device = g.L.FaultNumbers.DEVICE;
      memory = g.L.FaultNumbers.MEMORY;
    }) c.args.fault c.args.name.now c.format.result.now c.title.result.now c.format-2.result.now c.text.result.now
    c.format.ensures.text c.title.ensures (c.format-2.ensures.text ∙ ap decimal c.number.ensures) c.text.ensures) c.say_at.ensures
