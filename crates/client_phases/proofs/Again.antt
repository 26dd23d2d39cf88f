-- A reply that comes again is stale.
use Rattle.std.proofs.Common.{◌≡◌, ℕ, Bool, true, false, cond, List, Option, refl, ap, ◌∙◌}
use Rattle.std.specs.Prelude.{◌||◌, ◌&&◌, not, nat_eq, nat_lt, length}
use Rattle.std.specs.FinSet as finite
use Rattle.std.proofs.lemmas.Bool.{and_right, eq-eqb}
use Rattle.tag.specs.declared.numbers.OpId.{OpId}
use Rattle.tag.specs.Tags.{Tag}
use Rattle.quorum.specs.Bits.{contains-insert}
use Rattle.quorum.specs.Sets.{Replicas}
use Rattle.quorum.specs.Quorums.{is_ask_quorum, is_put_quorum}
use Rattle.replica.specs.declared.replies.Reply.{Reply}
use Rattle.replica.specs.declared.replies.Reply.TheVariants.{Held, Kept}
use Rattle.client_phases.specs.declared.rules.Rules.{Rules}
use Rattle.client_phases.specs.declared.outcomes.Taken.{Taken}
use Rattle.client_phases.specs.declared.outcomes.Taken.TheVariants.{Stale, Counted, Noted, Agreed}
use Rattle.client_phases.specs.declared.outcomes.Taken.TheVariants as outcome
use Rattle.client_phases.specs.declared.states.State.{State}
use Rattle.client_phases.specs.declared.states.State.TheVariants.{Idle, Ask, Put, Ready, Stopped}
use Rattle.client_phases.specs.declared.clients.Client.{Client}
use Rattle.client_phases.specs.Calls.{Call, Chosen, pair_to_put}
use Rattle.client_phases.specs.Asking.{Asking, is_agreed, asking_with, counts}
use Rattle.client_phases.specs.States.{asking_outcome, putting_outcome, reply_outcome}
use Rattle.client_phases.specs.Clients.{client_after, reply_result}

-- a replica that is counted doesn't count again
counted_once : (rules : Rules) (call : Call) (counted : Replicas) (op : OpId) (replica : ℕ) → counts rules call (finite.insert counted replica) op replica ≡ false
counted_once rules call counted op replica =
    let there : finite.contains (finite.insert counted replica) replica ≡ true = contains-insert counted replica replica ∙ ap (λ b. b || finite.contains counted replica) (eq-eqb replica replica refl) in
    ap (λ b. nat_eq op.0 call.op.0 && (not b && nat_lt replica (length rules.quorums.votes))) there ∙ and_right (nat_eq op.0 call.op.0) false refl

-- an asking that is over takes no pair, and one that goes on has counted the replica
after_asked : (rules : Rules) (further : Asking) (op : OpId) (replica : ℕ) (tag : Tag) (value : Option (List ℕ)) (a b : Bool) (r p : Chosen) (x y : Tag)
    → counts rules further.call further.counted op replica ≡ false
    → (reply_outcome rules (cond {A = State × Taken} a (cond {A = State × Taken} b (Ready r, Agreed x) (Put p finite.empty, Noted y)) (Ask further, Counted)).0 (Held op replica tag value)).1 ≡ Stale
after_asked rules further op replica tag value true true r p x y out = refl
after_asked rules further op replica tag value true false r p x y out = refl
after_asked rules further op replica tag value false b r p x y out = rw out refl

after_kept : (rules : Rules) (chosen : Chosen) (further : Replicas) (op : OpId) (replica : ℕ) (a : Bool)
    → counts rules chosen.call further op replica ≡ false
    → (reply_outcome rules (cond {A = State × Taken} a (Ready chosen, outcome.Ready) (Put chosen further, Counted)).0 (Kept op replica)).1 ≡ Stale
after_kept rules chosen further op replica true out = refl
after_kept rules chosen further op replica false out = rw out refl

-- a reply that didn't count doesn't count again
after_either : (rules : Rules) (state : State) (reply : Reply) (b : Bool) (r : State × Taken) → (b ≡ false → (reply_outcome rules state reply).1 ≡ Stale) → (reply_outcome rules r.0 reply).1 ≡ Stale
    → (reply_outcome rules (cond {A = State × Taken} b r (state, Stale)).0 reply).1 ≡ Stale
after_either rules state reply true r stale again = again
after_either rules state reply false r stale again = stale refl

not_counted : (rules : Rules) (asking : Asking) (op : OpId) (replica : ℕ) (tag : Tag) (value : Option (List ℕ)) → counts rules asking.call asking.counted op replica ≡ false
    → (reply_outcome rules (Ask asking) (Held op replica tag value)).1 ≡ Stale
not_counted rules asking op replica tag value out = rw out refl

not_kept : (rules : Rules) (chosen : Chosen) (counted : Replicas) (op : OpId) (replica : ℕ) → counts rules chosen.call counted op replica ≡ false
    → (reply_outcome rules (Put chosen counted) (Kept op replica)).1 ≡ Stale
not_kept rules chosen counted op replica out = rw out refl

again : (rules : Rules) (state : State) (reply : Reply) → (reply_outcome rules (reply_outcome rules state reply).0 reply).1 ≡ Stale
again rules (Ask asking) (Held op replica tag value) =
    let further = asking_with asking replica (record { tag = tag; value = value }) in
    let pair = pair_to_put rules.name further.call.action further.best in
    after_either rules (Ask asking) (Held op replica tag value) (counts rules asking.call asking.counted op replica) (asking_outcome rules further) (not_counted rules asking op replica tag value)
    (after_asked rules further op replica tag value (is_ask_quorum rules.quorums further.counted) (is_agreed rules further) (record { call = further.call; pair = further.best }) (record { call = further.call; pair = pair }) further.best.tag pair.tag (counted_once rules asking.call asking.counted op replica))
again rules (Put chosen counted) (Kept op replica) =
    let further = finite.insert counted replica in
    after_either rules (Put chosen counted) (Kept op replica) (counts rules chosen.call counted op replica) (putting_outcome rules chosen further) (not_kept rules chosen counted op replica)
    (after_kept rules chosen further op replica (is_put_quorum rules.quorums further) (counted_once rules chosen.call counted op replica))
again rules (Ask asking) (Kept op replica) = refl
again rules (Put chosen counted) (Held op replica tag value) = refl
again rules Idle reply = refl
again rules (Ready chosen) reply = refl
again rules Stopped reply = refl

pub stale_again : (client : Client) (reply : Reply) → reply_result (client_after client reply) reply ≡ Stale
stale_again client reply = again client.rules client.state reply
