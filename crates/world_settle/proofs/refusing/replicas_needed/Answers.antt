use Rattle.std.proofs.Common.{◌≡◌, Some, sym, ap, subst, ◌∙◌}
use Rattle.client_phases.specs.declared.outcomes.Phase.{Phase}
use Rattle.client_phases.specs.declared.outcomes.Phase.TheVariants as phase
use Rattle.quorum.specs.Quorums.{Quorums}
use Rattle.world_steps.specs.Configs.{Config}
use Rattle.world_steps.specs.Refusals.{phase_at}
use Rattle.world_settle.proofs.Standing.{IsLeastFor, puts_needed}
use Rattle.world_settle.proofs.refusing.replicas_needed.Goals as goal

pub returns-in-Some-Put : goal.returns-in-Some-Put
returns-in-Some-Put c =
    let s = c.args.world.now in
    let votes : c.put-in-Some-Put.result ≡ s.config.quorums.put = c.put-in-Some-Put.ensures ∙ ap (λ (q : Quorums). q.put) c.quorums-quorums.ensures ∙ ap (λ (k : Config). k.quorums.put) c.config.ensures.config in
    let puts : Some phase.Put ≡ phase_at s c.args.client = ap (λ (p : Phase). Some p) (sym c.in-Some-Put.field-0-is) ∙ c.in-Some-Put.ensures in
    puts_needed s c.args.client c.counted_at-counted.result c.candidates_needed.result puts c.counted_at-counted.ensures
    (subst (λ n. IsLeastFor s n c.counted_at-counted.result c.candidates_needed.result) votes c.candidates_needed.ensures.least) c.candidates_needed.ensures.few
