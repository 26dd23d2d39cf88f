use Rattle.std.proofs.Common.{List, ℕ, ap, decimal, subst, ◌∙◌}
use Rattle.counted_devices.specs.DeviceStates.{states}
use Rattle.cli.specs.Devices.{ReceivesOrFails}
use Rattle.run_command.proofs.Spelling.{close_said}
use Rattle.run_command.proofs.telling.tell_close.Goals as goal

pub returns-in-SeatMismatch-clause-told : goal.returns-in-SeatMismatch-clause-told
returns-in-SeatMismatch-clause-told g c =
    let P : List ℕ → Type 0 = λ text. ReceivesOrFails (states g.E.Write.contents g.E.Counted.failures c.args.errors.now c.say_close.new.errors) text in
    subst P (close_said c.args.error c.format.result.now c.name.result.now (c.format.ensures.text ∙ ap decimal c.number.ensures) c.name.ensures) c.say_close.ensures

pub returns-in-Memory-clause-told : goal.returns-in-Memory-clause-told
returns-in-Memory-clause-told g c =
    let P : List ℕ → Type 0 = λ text. ReceivesOrFails (states g.E.Write.contents g.E.Counted.failures c.args.errors.now c.say_close.new.errors) text in
    subst P (close_said c.args.error c.format.result.now c.name.result.now (c.format.ensures.text ∙ ap decimal c.number.ensures) c.name.ensures) c.say_close.ensures
