use Rattle.std.proofs.Common.{◌≡◌, List, ℕ, ◌++◌, ap, subst, sym, ◌∙◌}
use Rattle.cli.specs.Justifications.{refusal_text}
use Rattle.counted_devices.specs.DeviceStates.{states}
use Rattle.cli.specs.Devices.{ReceivesOrFails}
use Rattle.cli.proofs.Reported.{made, memory_told, told_by}
use Rattle.cli.proofs.noted_orders.Unjustified.report.Goals as goal

pub returns-clause-memory : goal.returns-clause-memory
returns-clause-memory g c = λ is.
    let errors = states g.E.Write.contents g.E.Counted.failures c.args.errors.now c.write_text.new.writer in
    let why = refusal_text c.args.self in
    let P : List ℕ → Type 0 = λ text. ReceivesOrFails errors text in
    let added = made c.append_to.result (c.append_to.new.text.items ≡ c.new-text.result.items ++ why) c.if-is_err.ensures.negation c.append_to.ensures in
    let text : c.as_slice.result.now ≡ why = c.as_slice.ensures.value ∙ added ∙ ap (λ (l : List ℕ). l ++ why) c.new-text.ensures.items in
    memory_told c.args.self errors (sym c.status.ensures ∙ is)
    (subst P text (told_by c.write_text.result errors c.as_slice.result.now c.write_text.ensures.written c.write_text.ensures.begun c.write_text.ensures.device))
