use Rattle.std.proofs.Common.{◌≡◌, ◌&&◌, not, true, false, length, sym, ap, ◌∙◌, arith}
use Rattle.std.specs.FinSet as finite
use Rattle.world_steps.specs.Configs.{Config}
use Rattle.world_settle.specs.Settling.{is_up}
use Rattle.world_settle.proofs.CandidateLemmas.{candidate_there, candidates_none}
use Rattle.world_settle.proofs.candidates.first_candidate.Goals as goal

pub returns-then-not-contains : goal.returns-then-not-contains
returns-then-not-contains c =
    let s = c.args.world.now in
    let set = c.args.set in
    let replica = c.unwrap-replica.result in
    let same = rw c.unwrap-replica.ensures at c.new.ensures.value in
    let counted : c.replicas-number-end.result ≡ length s.config.quorums.votes = c.replicas-number-end.ensures.count ∙ ap (λ (k : Config). length k.quorums.votes) c.config.ensures.config in
    let up : is_up s replica ≡ true = sym c.is_up.ensures ∙ c.if-is_up.true in
    let lacked : finite.contains set replica ≡ false = sym c.contains.ensures ∙ c.if-not-contains.true in
    candidate_there s set replica c.replicas-number-end.result counted (λ m less. c.loop-number.invariant m (omega (arith, same)))
    (ap (λ b. b && not (finite.contains set replica)) up ∙ ap (λ b. true && not b) lacked)
    (omega (arith, same))

pub returns : goal.returns
returns c =
    let counted : c.replicas-number-end.result ≡ length c.args.world.now.config.quorums.votes = c.replicas-number-end.ensures.count ∙ ap (λ (k : Config). length k.quorums.votes) c.config.ensures.config in
    candidates_none c.args.world.now c.args.set c.replicas-number-end.result counted (λ m less. c.loop-number.invariant m (omega arith))
