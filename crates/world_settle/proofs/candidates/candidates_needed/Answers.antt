use Rattle.std.proofs.Common.{◌≡◌, ◌+◌, sym, ap, ◌∙◌, subst, arith}
use Rattle.quorum.specs.Quorums.{Quorums, votes_of}
use Rattle.quorum.specs.Sets.{Replicas}
use Rattle.world_steps.specs.Configs.{Config}
use Rattle.world_settle.proofs.Counting.{Counting, counting_few, counting_left, counting_more}
use Rattle.world_settle.proofs.candidates.candidates_needed.Goals as goal

pub unreachable-requires : goal.unreachable-requires
unreachable-requires c =
    let s = c.args.world.now in
    let quorums : c.quorums-quorums.result ≡ s.config.quorums = c.quorums-quorums.ensures ∙ ap (λ (k : Config). k.quorums) c.config.ensures.config in
    let votes : c.votes.result ≡ votes_of s.config.quorums.votes c.loop-quorums.set = c.votes.ensures ∙ ap (λ (k : Quorums). votes_of k.votes c.loop-quorums.set) quorums in
    counting_left s c.args.counted c.loop-quorums.set c.args.votes c.loop-quorums.count c.loop-quorums.invariant c.requires (omega (arith, votes)) c.in_default.ensures

pub overflow_add-count : goal.overflow_add-count
overflow_add-count c =
    let few = counting_few c.args.world.now c.args.counted c.loop-quorums.set c.args.votes c.loop-quorums.count c.config.ensures.world.sound.lawful c.loop-quorums.invariant in
    omega (arith, few)

pub loop-quorums-smaller : goal.loop-quorums-smaller
loop-quorums-smaller c =
    let few = counting_few c.args.world.now c.args.counted c.loop-quorums.set c.args.votes c.loop-quorums.count c.config.ensures.world.sound.lawful c.loop-quorums.invariant in
    omega (arith, few)

pub loop-quorums-preserved : goal.loop-quorums-preserved
loop-quorums-preserved c =
    let s = c.args.world.now in
    let quorums : c.quorums-quorums.result ≡ s.config.quorums = c.quorums-quorums.ensures ∙ ap (λ (k : Config). k.quorums) c.config.ensures.config in
    let votes : c.votes.result ≡ votes_of s.config.quorums.votes c.loop-quorums.set = c.votes.ensures ∙ ap (λ (k : Quorums). votes_of k.votes c.loop-quorums.set) quorums in
    subst (λ (x : Replicas). Counting s c.args.counted x c.args.votes (c.loop-quorums.count + 1)) (sym c.add.ensures)
    (counting_more s c.args.counted c.loop-quorums.set c.args.votes c.loop-quorums.count c.in-Some.replica c.in-Some.ensures.0 c.loop-quorums.invariant c.in-Some.ensures.1 (omega (arith, votes)))

pub returns-clause-few : goal.returns-clause-few
returns-clause-few c = counting_few c.args.world.now c.args.counted c.loop-quorums.set c.args.votes c.loop-quorums.count c.config.ensures.world.sound.lawful c.loop-quorums.invariant
