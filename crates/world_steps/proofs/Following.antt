-- Which rows may follow those of a sound system.
use Rattle.std.proofs.Common.{◌≡◌, ℕ, Bool, true, false, cond, nat_eq, eqb-true, List, refl, sym, subst}
use Rattle.std.specs.FinSet as finite
use Rattle.tag.specs.Tags.{Tag}
use Rattle.tag.specs.declared.actions.Action.{Action}
use Rattle.tag.specs.declared.actions.Action.TheVariants.{Read, Write}
use Rattle.tag.specs.declared.numbers.OpId.{OpId}
use Rattle.quorum.specs.Sets.{Replicas}
use Rattle.quorum.specs.Quorums.{Quorums, is_put_quorum}
use Rattle.replica.specs.declared.pairs.Pair.{Pair}
use Rattle.replica.specs.declared.replies.Reply.{Reply}
use Rattle.replica.specs.declared.replies.Reply.TheVariants.{Held, Kept}
use Rattle.client_phases.specs.Asking.{Asking, counts, asking_with}
use Rattle.client_phases.specs.Calls.{Chosen, answer_from}
use Rattle.client_phases.specs.States.{asking_outcome, putting_outcome, reply_outcome}
use Rattle.client_phases.specs.declared.calls.Call.{Call}
use Rattle.client_phases.specs.declared.outcomes.Taken.{Taken}
use Rattle.client_phases.specs.declared.outcomes.Taken.TheVariants.{Stale, Counted, Noted, Agreed}
use Rattle.client_phases.specs.declared.outcomes.Taken.TheVariants as outcome
use Rattle.client_phases.specs.declared.rules.Rules.{Rules}
use Rattle.client_phases.specs.declared.states.State.{State}
use Rattle.client_phases.specs.declared.states.State.TheVariants.{Idle, Ask, Put, Ready, Stopped}
use Rattle.recorder.specs.Histories.{FitsAction, IsBusy, IsPendingCall, MayFollow}
use Rattle.recorder.specs.declared.row.Row.{Row}
use Rattle.recorder.specs.declared.row.Row.TheVariants.{Invoke, Note, Respond}
use Rattle.world_steps.specs.Moves.{MayNote}
use Rattle.world_steps.specs.Sound.{Completed, Pending, StateSound, Tags}
use Rattle.world_steps.specs.Sound.StateSound.{SoundIdle, SoundAsking, SoundReady}
use Rattle.world_steps.specs.Systems.{answered_op}
use Rattle.world_steps.specs.declared.system.System.{System}
use Rattle.tag.proofs.Lists.{Contains-slice_get, place_of}
use Rattle.tag.proofs.SameTags.{same_op}
use Rattle.std.proofs.lemmas.Bool.{and_parts}

pub pending_call : (R : List Row) (c : ℕ) (call : Call) → Pending R c call → IsPendingCall R call.op c call.action
pending_call R c call w = record {
  key = call.key;
  invoked = Contains-slice_get R w.place (Invoke call.op c call.key call.action) w.is;
  unanswered = λ (returned, h). let at = place_of R (Respond call.op returned) h in w.unanswered at.0 returned at.1;
}

-- a client whose calls are completed isn't busy
pub not_busy : (quorums : Quorums) (R : List Row) (tags : Tags) (c : ℕ) → StateSound quorums R tags c Idle → IsBusy R c → ⊥
not_busy quorums R tags c (SoundIdle done) (op, action, call) =
    let begun = place_of R (Invoke op c call.key action) call.invoked in
    let end : Completed R op = done begun.0 op call.key action begun.1 in
    call.unanswered (end.returned, Contains-slice_get R end.place (Respond op end.returned) end.is)

-- a call that is still asking may be noted
pub note_follows : (quorums : Quorums) (R : List Row) (tags : Tags) (c : ℕ) (asking : Asking) → StateSound quorums R tags c (Ask asking) → (tag : Tag) → MayFollow R (Note asking.call.op tag)
note_follows quorums R tags c asking (SoundAsking w quiet g h) tag =
    ((c, asking.call.action, pending_call R c asking.call w), λ (other, has). let at = place_of R (Note asking.call.op other) has in quiet at.0 other at.1)

answer_fits : (op : OpId) (key : List ℕ) (action : Action) (pair : Pair) → FitsAction action (answer_from (record { call = record { op = op; key = key; action = action }; pair = pair }))
answer_fits op key Read pair = tt
answer_fits op key (Write value) pair = tt

-- a client that is ready may answer
pub response_follows : (quorums : Quorums) (R : List Row) (tags : Tags) (c : ℕ) (chosen : Chosen) → StateSound quorums R tags c (Ready chosen) → MayFollow R (Respond chosen.call.op (answer_from chosen))
response_follows quorums R tags c chosen (SoundReady w n g q) =
    (c, chosen.call.action, pending_call R c chosen.call w, answer_fits chosen.call.op chosen.call.key chosen.call.action chosen.pair)

-- ---- what is noted where a reply is heard
noted_after : (s : System) (op : OpId) → ((tag : Tag) → MayFollow s.history.rows (Note op tag)) → (outcome : Taken) → MayNote s op outcome
noted_after s op follows (Noted tag) = follows tag
noted_after s op follows (Agreed tag) = follows tag
noted_after s op follows Stale = tt
noted_after s op follows Counted = tt
noted_after s op follows outcome.Ready = tt

-- a reply that counts names the pending call
pub counts_op : (rules : Rules) (call : Call) (counted : Replicas) (op : OpId) (replica : ℕ) → counts rules call counted op replica ≡ true → op ≡ call.op
counts_op rules call counted op replica e = same_op op call.op (eqb-true op.0 call.op.0 (and_parts (nat_eq op.0 call.op.0) _ e).0)

asked_notes : (s : System) (rules : Rules) (asking : Asking) (op : OpId) (replica : ℕ) (pair : Pair) (b : Bool) → counts rules asking.call asking.counted op replica ≡ b
    → ((tag : Tag) → MayFollow s.history.rows (Note asking.call.op tag)) → MayNote s op (cond {A = State × Taken} b (asking_outcome rules (asking_with asking replica pair)) (Ask asking, Stale)).1
asked_notes s rules asking op replica pair true e follows =
    let same : op ≡ asking.call.op = counts_op rules asking.call asking.counted op replica e in
    noted_after s op (λ tag. subst (λ o. MayFollow s.history.rows (Note o tag)) (sym same) (follows tag)) (asking_outcome rules (asking_with asking replica pair)).1
asked_notes s rules asking op replica pair false e follows = tt

put_notes : (s : System) (op : OpId) (chosen : Chosen) (counted : Replicas) (b : Bool) → MayNote s op (cond {A = State × Taken} b (Ready chosen, outcome.Ready) (Put chosen counted, Counted)).1
put_notes s op chosen counted true = tt
put_notes s op chosen counted false = tt

kept_notes : (s : System) (rules : Rules) (op : OpId) (chosen : Chosen) (old new : Replicas) (b : Bool) → MayNote s op (cond {A = State × Taken} b (putting_outcome rules chosen new) (Put chosen old, Stale)).1
kept_notes s rules op chosen old new true = put_notes s op chosen new (is_put_quorum rules.quorums new)
kept_notes s rules op chosen old new false = tt

pub heard_notes : (s : System) (quorums : Quorums) (tags : Tags) (c : ℕ) (rules : Rules) (state : State) (reply : Reply) → StateSound quorums s.history.rows tags c state
    → MayNote s (answered_op reply) (reply_outcome rules state reply).1
heard_notes s quorums tags c rules (Ask asking) (Held op replica tag value) sound =
    asked_notes s rules asking op replica (record { tag = tag; value = value }) (counts rules asking.call asking.counted op replica) refl (note_follows quorums s.history.rows tags c asking sound)
heard_notes s quorums tags c rules (Ask asking) (Kept op replica) sound = tt
heard_notes s quorums tags c rules (Put chosen counted) (Held op replica tag value) sound = tt
heard_notes s quorums tags c rules (Put chosen counted) (Kept op replica) sound = kept_notes s rules op chosen counted (finite.insert counted replica) (counts rules chosen.call counted op replica)
heard_notes s quorums tags c rules Idle reply sound = tt
heard_notes s quorums tags c rules (Ready chosen) reply sound = tt
heard_notes s quorums tags c rules Stopped reply sound = tt
