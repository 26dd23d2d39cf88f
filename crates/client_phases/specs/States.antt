-- How a reply changes a client's state (Lynch and Shvartsman 1997).
use Rattle.std.specs.Prelude.{◌≡◌, true, if◌then◌else◌}
use Rattle.std.specs.FinSet as finite
use Rattle.quorum.specs.Sets.{Replicas}
use Rattle.quorum.specs.Quorums.{is_ask_quorum, is_put_quorum}
use Rattle.replica.specs.declared.replies.Reply.{Reply}
use Rattle.replica.specs.declared.replies.Reply.TheVariants.{Held, Kept}
use Rattle.client_phases.specs.declared.rules.Rules.{Rules}
use Rattle.client_phases.specs.declared.outcomes.Taken.{Taken}
use Rattle.client_phases.specs.declared.outcomes.Taken.TheVariants.{Stale, Counted, Noted, Agreed}
use Rattle.client_phases.specs.declared.outcomes.Taken.TheVariants as outcome
use Rattle.client_phases.specs.declared.states.State.{State}
use Rattle.client_phases.specs.declared.states.State.TheVariants.{Ask, Put, Ready}
use Rattle.client_phases.specs.Calls.{Chosen, pair_to_put}
use Rattle.client_phases.specs.Asking.{Asking, counts, asking_with, is_agreed, LeavesRoom}

-- an asking is over with an ask quorum: a read that agreed answers, every other call puts its pair,
-- and the tag is noted
abbrev pub asking_outcome : Rules → Asking → State × Taken
asking_outcome rules asking =
    let pair = pair_to_put rules.name asking.call.action asking.best in
    if is_ask_quorum rules.quorums asking.counted
    then (if is_agreed rules asking
    then (Ready (record { call = asking.call; pair = asking.best }), Agreed asking.best.tag)
    else (Put (record { call = asking.call; pair = pair }) finite.empty, Noted pair.tag))
    else (Ask asking, Counted)

-- a putting is over with a put quorum
abbrev pub putting_outcome : Rules → Chosen → Replicas → State × Taken
putting_outcome rules chosen counted =
    if is_put_quorum rules.quorums counted
    then (Ready chosen, outcome.Ready)
    else (Put chosen counted, Counted)

-- the state after a reply, and what came of it: an asking counts pairs that are held, a putting
-- counts that its pair is kept
abbrev pub reply_outcome : Rules → State → Reply → State × Taken
reply_outcome rules (Ask asking) (Held op replica tag value) =
    if counts rules asking.call asking.counted op replica
    then asking_outcome rules (asking_with asking replica (record { tag = tag; value = value }))
    else (Ask asking, Stale)
reply_outcome rules (Put chosen counted) (Kept op replica) =
    if counts rules chosen.call counted op replica
    then putting_outcome rules chosen (finite.insert counted replica)
    else (Put chosen counted, Stale)
reply_outcome rules state reply = (state, Stale)

-- a client in that state may receive the reply: a pair that a write counts leaves room for a
-- greater number
abbrev pub MayReceiveIn : Rules → State → Reply → Type 0
MayReceiveIn rules (Ask asking) (Held op replica tag value) =
    counts rules asking.call asking.counted op replica ≡ true → LeavesRoom asking.call.action tag
MayReceiveIn rules state reply = Unit {0}
