use Rattle.std.proofs.Common.{◌≡◌, sym, ap, ◌∙◌}
use Rattle.client_phases.specs.States.{reply_outcome}
use Rattle.client_phases.specs.declared.states.State.{State}
use Rattle.client_phases.specs.declared.outcomes.Taken.{Taken}
use Rattle.client_phases.proofs.Ends.{stale_same}
use Rattle.client_phases.proofs.clients.Client.take.Goals as goal

pub returns-clause-stale : goal.returns-clause-stale
returns-clause-stale c stale =
    let client = c.args.self.now in
    let is : c.hear-state.result ≡ reply_outcome client.rules client.state c.args.reply = c.hear-state.ensures ∙ ap (λ s. reply_outcome client.rules s c.args.reply) c.replace-state.ensures.value in
    let same : c.hear-state.result.0 ≡ client.state =
    ap (λ (r : State × Taken). r.0) is ∙ stale_same client.rules client.state c.args.reply (ap (λ (r : State × Taken). r.1) (sym is) ∙ stale) in
    λ i. record { rules = client.rules; state = same i }
