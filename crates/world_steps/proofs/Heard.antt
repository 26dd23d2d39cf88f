-- A client hears a reply that flies: the world stays sound, and a write leaves room for its tag.
use Rattle.std.proofs.Common.{◌≡◌, ℕ, ◌<◌, ◌≤◌, Bool, true, false, ◌&&◌, not, nat_lt, nat_eq, eqb-true, List, length, Option, cond, refl, sym, subst, arith}
use Rattle.std.specs.FinSet as finite
use Rattle.std.proofs.lemmas.Bool.{and_parts}
use Rattle.tag.proofs.SameTags.{same_op}
use Rattle.tag.specs.Tags.{Tag}
use Rattle.tag.specs.declared.numbers.OpId.{OpId}
use Rattle.tag.specs.declared.actions.Action.{Action}
use Rattle.tag.specs.declared.actions.Action.TheVariants.{Read, Write}
use Rattle.recorder.specs.declared.row.Row.{Row}
use Rattle.recorder.specs.declared.row.Row.TheVariants.{Note}
use Rattle.recorder.specs.Histories.{call_count}
use Rattle.quorum.specs.Sets.{Replicas}
use Rattle.quorum.specs.Quorums.{Quorums, is_ask_quorum, is_put_quorum}
use Rattle.replica.specs.declared.pairs.Pair.{Pair}
use Rattle.replica.specs.declared.replies.Reply.{Reply}
use Rattle.replica.specs.declared.replies.Reply.TheVariants.{Held, Kept}
use Rattle.network.specs.declared.messages.Message.{Message}
use Rattle.network.specs.declared.messages.Message.TheVariants.{ToClient}
use Rattle.client_phases.specs.declared.calls.Call.{Call}
use Rattle.client_phases.specs.declared.rules.Rules.{Rules}
use Rattle.client_phases.specs.declared.outcomes.Taken.{Taken}
use Rattle.client_phases.specs.declared.outcomes.Taken.TheVariants.{Stale, Counted, Noted, Agreed}
use Rattle.client_phases.specs.declared.outcomes.Taken.TheVariants as outcome
use Rattle.client_phases.specs.Calls.{Chosen, pair_to_put}
use Rattle.client_phases.specs.Asking.{Asking, counts, asking_with, is_agreed, LeavesRoom}
use Rattle.client_phases.specs.States.{asking_outcome, putting_outcome, reply_outcome, MayReceiveIn}
use Rattle.client_phases.specs.declared.states.State.{State}
use Rattle.client_phases.specs.declared.states.State.TheVariants.{Idle, Ask, Put, Ready, Stopped}
use Rattle.world_steps.specs.Sound.{IsGood, Pending, Sound, tags_of}
use Rattle.world_steps.specs.Sound.Told.{InAsking}
use Rattle.world_steps.proofs.TagLaws.{at_most_itself}
use Rattle.world_steps.proofs.RowLaws.{more}
use Rattle.world_steps.proofs.Frames.Older.{Heard}
use Rattle.world_steps.proofs.SameRows.{Became, CountsAnswers, becoming}
use Rattle.world_steps.proofs.RowSteps.{asking_pending, asking_small}
use Rattle.world_steps.proofs.Replies.{told, held_good, counting, counted_last, agreed_last, keeping, kept_last}

-- the call that a reply names
abbrev pub op_in : Reply → OpId
op_in (Held op replica tag value) = op
op_in (Kept op replica) = op

-- the rows after an outcome: a tag that is fixed is noted
abbrev pub rows_after : List Row → OpId → Taken → List Row
rows_after R op (Noted tag) = more R (Note op tag)
rows_after R op (Agreed tag) = more R (Note op tag)
rows_after R op outcome = R

-- with that state of the client, and that outcome, the world is sound
abbrev pub StaysSound : (quorums : Quorums) (R : List Row) (P : ℕ → List ℕ → Pair) (F : Message → Type 0) (C D : ℕ → State → Type 0) (c : ℕ) → OpId → State × Taken → Type 0
StaysSound quorums R P F C D c op reply_outcome =
    ((e : ℕ) (y : State) → D e y → Became C c reply_outcome.0 e y) → ((e : ℕ) (y : State) → C e y → (z : State) × D e z) → Sound quorums (rows_after R op reply_outcome.1) P F D

-- a reply counts where it names the pending call
counts_op : (rules : Rules) (call : Call) (counted : Replicas) (op : OpId) (at : ℕ) → counts rules call counted op at ≡ true → op ≡ call.op
counts_op rules call counted op at e =
    let h : nat_eq op.0 call.op.0 ≡ true = (and_parts (nat_eq op.0 call.op.0) (not (finite.contains counted at) && nat_lt at (length rules.quorums.votes)) e).0 in
    same_op op call.op (eqb-true op.0 call.op.0 h)

module _ (rules : Rules) (R : List Row) (P : ℕ → List ℕ → Pair) (F : Message → Type 0) (C D : ℕ → State → Type 0) (d : ℕ) (sound : Sound rules.quorums R P F C) where
  -- what a client has counted, it was told
  own_counts : (x : State) → C rules.name x → CountsAnswers F C (tags_of P) x
  own_counts (Ask asking) is = λ r k h. Heard asking.best.tag (InAsking rules.name asking is refl h refl) (at_most_itself asking.best.tag)
  own_counts Idle is = tt
  own_counts (Put chosen counted) is = tt
  own_counts (Ready chosen) is = tt
  own_counts Stopped is = tt

  -- a reply that doesn't count
  stale_sound : (x : State) (op : OpId) → C rules.name x → StaysSound rules.quorums R P F C D rules.name op (x, Stale)
  stale_sound x op is became there = becoming rules.quorums R P F C D rules.name x sound (sound.states rules.name x is) (own_counts x is) became there

  -- an asking with a further pair
  asked_sound : (asking : Asking) (op : OpId) (at : ℕ) (tag : Tag) (value : Option (List ℕ)) (a b : Bool) → C rules.name (Ask asking) → F (ToClient d (Held op at tag value)) → op ≡ asking.call.op
      → is_ask_quorum rules.quorums (finite.insert asking.counted at) ≡ a → is_agreed rules (asking_with asking at (told tag value)) ≡ b
      → let further = asking_with asking at (told tag value) in let pair = pair_to_put rules.name asking.call.action further.best in
      StaysSound rules.quorums R P F C D rules.name asking.call.op
      (cond {A = State × Taken} a
      (cond {A = State × Taken} b (Ready (record { call = asking.call; pair = further.best }), Agreed further.best.tag) (Put (record { call = asking.call; pair = pair }) finite.empty, Noted pair.tag))
      (Ask further, Counted))
  asked_sound asking op at tag value true true is f e p q became there = agreed_last rules R P F C D rules.name d asking op at tag value sound is f e p q became there
  asked_sound asking op at tag value true false is f e p q became there = counted_last rules.quorums R P F C D rules.name d asking op at tag value sound is f e p became there
  asked_sound asking op at tag value false b is f e p q became there = counting rules.quorums R P F C D rules.name d asking op at tag value sound is f e became there

  held_sound : (asking : Asking) (op : OpId) (at : ℕ) (tag : Tag) (value : Option (List ℕ)) (b : Bool) → C rules.name (Ask asking) → F (ToClient d (Held op at tag value)) → counts rules asking.call asking.counted op at ≡ b
      → StaysSound rules.quorums R P F C D rules.name op (cond {A = State × Taken} b (asking_outcome rules (asking_with asking at (told tag value))) (Ask asking, Stale))
  held_sound asking op at tag value true is f e =
      let same : op ≡ asking.call.op = counts_op rules asking.call asking.counted op at e in
      let further : Asking = asking_with asking at (told tag value) in
      subst (λ o. StaysSound rules.quorums R P F C D rules.name o (asking_outcome rules further)) (sym same)
      (asked_sound asking op at tag value (is_ask_quorum rules.quorums further.counted) (is_agreed rules further) is f same refl refl)
  held_sound asking op at tag value false is f e = stale_sound (Ask asking) op is

  -- a putting with a further replica
  kept_sound_by : (chosen : Chosen) (counted : Replicas) (op : OpId) (at : ℕ) (b : Bool) → C rules.name (Put chosen counted) → F (ToClient d (Kept op at)) → op ≡ chosen.call.op
      → is_put_quorum rules.quorums (finite.insert counted at) ≡ b
      → StaysSound rules.quorums R P F C D rules.name op (cond {A = State × Taken} b (Ready chosen, outcome.Ready) (Put chosen (finite.insert counted at), Counted))
  kept_sound_by chosen counted op at true is f e p became there = kept_last rules.quorums R P F C D rules.name d op at chosen counted sound is f e p became there
  kept_sound_by chosen counted op at false is f e p became there = keeping rules.quorums R P F C D rules.name d op at chosen counted sound is f e became there

  kept_sound : (chosen : Chosen) (counted : Replicas) (op : OpId) (at : ℕ) (b : Bool) → C rules.name (Put chosen counted) → F (ToClient d (Kept op at)) → counts rules chosen.call counted op at ≡ b
      → StaysSound rules.quorums R P F C D rules.name op (cond {A = State × Taken} b (putting_outcome rules chosen (finite.insert counted at)) (Put chosen counted, Stale))
  kept_sound chosen counted op at true is f e =
      kept_sound_by chosen counted op at (is_put_quorum rules.quorums (finite.insert counted at)) is f (counts_op rules chosen.call counted op at e) refl
  kept_sound chosen counted op at false is f e = stale_sound (Put chosen counted) op is

  heard_sound : (x : State) (reply : Reply) → C rules.name x → F (ToClient d reply) → StaysSound rules.quorums R P F C D rules.name (op_in reply) (reply_outcome rules x reply)
  heard_sound (Ask asking) (Held op at tag value) is f = held_sound asking op at tag value (counts rules asking.call asking.counted op at) is f refl
  heard_sound (Put chosen counted) (Kept op at) is f = kept_sound chosen counted op at (counts rules chosen.call counted op at) is f refl
  heard_sound (Ask asking) (Kept op at) is f = stale_sound (Ask asking) op is
  heard_sound (Put chosen counted) (Held op at tag value) is f = stale_sound (Put chosen counted) op is
  heard_sound Idle reply is f = stale_sound Idle (op_in reply) is
  heard_sound (Ready chosen) reply is f = stale_sound (Ready chosen) (op_in reply) is
  heard_sound Stopped reply is f = stale_sound Stopped (op_in reply) is

  -- ---- a write that is still asking meets numbers below the count of calls
  room_for : (action : Action) (tag : Tag) → tag.number < call_count R → call_count R ≤ 1000000 → LeavesRoom action tag
  room_for Read tag less most = tt
  room_for (Write value) tag less most = omega (arith, less, most)

  may_hear : (x : State) (reply : Reply) → C rules.name x → F (ToClient d reply) → call_count R ≤ 1000000 → MayReceiveIn rules x reply
  may_hear (Ask asking) (Held op at tag value) is f most =
      λ e.
      let w : Pending R rules.name asking.call = asking_pending rules.quorums R (tags_of P) rules.name asking (sound.states rules.name (Ask asking) is) in
      let good : IsGood R asking.call.key (told tag value) =
      held_good R (tags_of P) d op at tag value sound.recorded (sound.messages (ToClient d (Held op at tag value)) f) rules.name asking.call w (counts_op rules asking.call asking.counted op at e) in
      room_for asking.call.action tag (asking_small rules.quorums R P F C sound rules.name asking is asking.call.key (told tag value) good) most
  may_hear (Ask asking) (Kept op at) is f most = tt
  may_hear Idle reply is f most = tt
  may_hear (Put chosen counted) reply is f most = tt
  may_hear (Ready chosen) reply is f most = tt
  may_hear Stopped reply is f most = tt

-- ---- a client of that name, with those quorums, hears a reply that flies

-- whatever comes of it, the world stays sound
pub hearing : (quorums : Quorums) (R : List Row) (P : ℕ → List ℕ → Pair) (F : Message → Type 0) (C D : ℕ → State → Type 0) (c d : ℕ) (rules : Rules) (x : State) (reply : Reply)
    → rules.name ≡ c → rules.quorums ≡ quorums → Sound quorums R P F C → C c x → F (ToClient d reply)
    → ((e : ℕ) (y : State) → D e y → Became C c (reply_outcome rules x reply).0 e y)
    → ((e : ℕ) (y : State) → C e y → (z : State) × D e z)
    → Sound quorums (rows_after R (op_in reply) (reply_outcome rules x reply).1) P F D
hearing quorums R P F C D c d rules x reply name same =
    subst (λ n. Sound quorums R P F C → C n x → F (ToClient d reply) → StaysSound quorums R P F C D n (op_in reply) (reply_outcome rules x reply)) name
    (subst (λ q. Sound q R P F C → C rules.name x → F (ToClient d reply) → StaysSound q R P F C D rules.name (op_in reply) (reply_outcome rules x reply)) same
    (λ sound is f. heard_sound rules R P F C D d sound x reply is f))

-- and the reply may come, where no more calls are begun than there are tag numbers
pub hears : (quorums : Quorums) (R : List Row) (P : ℕ → List ℕ → Pair) (F : Message → Type 0) (C : ℕ → State → Type 0) (c d : ℕ) (rules : Rules) (x : State) (reply : Reply)
    → rules.name ≡ c → rules.quorums ≡ quorums → Sound quorums R P F C → C c x → F (ToClient d reply) → call_count R ≤ 1000000 → MayReceiveIn rules x reply
hears quorums R P F C c d rules x reply name same =
    subst (λ n. Sound quorums R P F C → C n x → F (ToClient d reply) → call_count R ≤ 1000000 → MayReceiveIn rules x reply) name
    (subst (λ q. Sound q R P F C → C rules.name x → F (ToClient d reply) → call_count R ≤ 1000000 → MayReceiveIn rules x reply) same
    (λ sound is f most. may_hear rules R P F C C d sound x reply is f most))
