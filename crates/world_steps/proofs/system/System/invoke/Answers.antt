use Rattle.std.proofs.Common.{◌≡◌, sym, ◌∙◌, ap, Some, Option}
use Rattle.tag.specs.declared.numbers.OpId.{OpId}
use Rattle.tag.specs.declared.actions.Action.{Action}
use Rattle.client_phases.specs.declared.clients.Client.{Client}
use Rattle.client_phases.specs.Clients.{client_after_invoke}
use Rattle.recorder.specs.Answers.{with_row}
use Rattle.recorder.specs.declared.row.Row.TheVariants.{Invoke}
use Rattle.world_steps.specs.Clients.{with_client}
use Rattle.world_steps.specs.Systems.{next_call, invoke}
use Rattle.world_steps.specs.declared.effect.Effect.TheVariants.{Invoked}
use Rattle.world_steps.proofs.system.System.invoke.Goals as goal

pub returns-in-Ok : goal.returns-in-Ok
returns-in-Ok c =
    let s = c.args.self.now in
    let client = c.requires.client in
    let op_is : c.in-Ok.op ≡ next_call s = ap (λ n. let x : OpId = record { 0 = n } in x) c.in-Ok.ensures.number in
    let row : c.invoke_text.new.self ≡ with_row s.history (Invoke (next_call s) c.args.name c.as_str.result.now c.of-shown.result) = (rw c.in-Ok.is at c.invoke_text.ensures.row).1 in
    let same : c.invoke_text.new.self ≡ with_row s.history (Invoke (next_call s) c.args.name c.args.key c.args.action) =
    row ∙ ap (λ k. with_row s.history (Invoke (next_call s) c.args.name k c.of-shown.result)) c.as_str.ensures.text ∙ ap (λ (a : Action). with_row s.history (Invoke (next_call s) c.args.name c.args.key a)) c.of-shown.ensures in
    let became : c.invoke.new.self ≡ with_client s.members c.args.name (client_after_invoke client (next_call s) c.args.key c.args.action) =
    c.invoke.ensures client c.requires.is ∙ ap (λ o. with_client s.members c.args.name (client_after_invoke client o c.args.key c.args.action)) op_is in (
      ap (λ o. Some (Invoked o)) (sym op_is),
      (λ i. record { config = s.config; members = became i; nodes = s.nodes; pool = s.pool; history = same i })
          ∙ ap (λ (o : Option Client). invoke s c.args.name c.args.key c.args.action o) (sym c.requires.is),
    )
