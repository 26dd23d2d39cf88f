use Rattle.std.proofs.Common.{List, ℕ, ap, decimal, subst, ◌∙◌}
use Rattle.counted_devices.specs.DeviceStates.{states}
use Rattle.cli.specs.Devices.{ReceivesOrFails}
use Rattle.run_command.proofs.Spelling.{refusal_said}
use Rattle.run_command.proofs.telling.tell_refused.Goals as goal

pub returns : goal.returns
returns g c =
    let P : List ℕ → Type 0 = λ text. ReceivesOrFails (states g.E.Write.contents g.E.Counted.failures c.args.errors.now c.say_refused.new.errors) text in
    subst P (refusal_said c.args.refused c.format.result.now c.format-2.result.now c.name.result.now (c.format.ensures.text ∙ ap decimal c.get.ensures.name) (c.format-2.ensures.text ∙ ap decimal c.number.ensures) c.name.ensures) c.say_refused.ensures
