-- What stays sound where rows are added and tags rise.
use Rattle.std.proofs.Common.{◌≡◌, ℕ, ◌<◌, true, List}
use Rattle.std.specs.FinSet as finite
use Rattle.tag.specs.Tags.{Tag}
use Rattle.tag.specs.declared.numbers.OpId.{OpId}
use Rattle.tag.specs.declared.actions.Action.{Action}
use Rattle.tag.specs.declared.actions.Returned.{Returned}
use Rattle.recorder.specs.declared.row.Row.{Row}
use Rattle.recorder.specs.declared.row.Row.TheVariants.{Invoke, Note, Respond}
use Rattle.quorum.specs.Sets.{Replicas}
use Rattle.quorum.specs.Quorums.{Quorums}
use Rattle.replica.specs.declared.pairs.Pair.{Pair}
use Rattle.network.specs.declared.messages.Message.{Message}
use Rattle.client_phases.specs.declared.calls.Call.{Call}
use Rattle.client_phases.specs.declared.states.State.{State}
use Rattle.world_steps.specs.Sound.{Tags, At, IsNoGreater, Invoked, Noted, Completed, IsGood, Answered, MessageSound, AllHold, Pending, QuorumHolds, StateSound, Told, QuorumTells, WasWritten}
use Rattle.world_steps.specs.Sound.IsGood.{Unwritten, Wrote}
use Rattle.world_steps.specs.Sound.MessageSound.{SoundQuery, SoundPut, SoundHeld, SoundKept}
use Rattle.world_steps.specs.Sound.StateSound.{SoundIdle, SoundAsking, SoundPutting, SoundReady, SoundStopped}
use Rattle.world_steps.proofs.TagLaws.{at_most_trans}
use Rattle.world_steps.proofs.RowLaws.{Extends}

-- replica tags never fall
abbrev pub Rises : Tags → Tags → Type 0
Rises old new = (r : ℕ) (k : List ℕ) → IsNoGreater (old r k) (new r k)

pub invoked_more : (R S : List Row) → Extends R S → (op : OpId) (k : List ℕ) → Invoked R op k → Invoked S op k
invoked_more R S more op k i = record { place = i.place; client = i.client; action = i.action; is = more _ _ i.is }

pub noted_more : (R S : List Row) → Extends R S → (op : OpId) (t : Tag) → Noted R op t → Noted S op t
noted_more R S more op t n = record { place = n.place; is = more _ _ n.is }

pub completed_more : (R S : List Row) → Extends R S → (op : OpId) → Completed R op → Completed S op
completed_more R S more op n = record { place = n.place; returned = n.returned; is = more _ _ n.is }

abbrev pub written_more : (R S : List Row) → Extends R S → (key : List ℕ) (tag : Tag) → WasWritten R key tag → WasWritten S key tag
written_more R S more key tag w =
    record { op = w.op; client = w.client; value = w.value; place = w.place; invoked = more _ _ w.invoked; note = w.note; noted = more _ _ w.noted }

pub good_more : (R S : List Row) → Extends R S → (k : List ℕ) (pair : Pair) → IsGood R k pair → IsGood S k pair
good_more R S more k pair (Unwritten e) = Unwritten e
good_more R S more k pair (Wrote s) =
    Wrote (record { write = written_more R S more k pair.tag s.write; same = s.same })

pub answered_more : (R S : List Row) → Extends R S → (op : OpId) (returned : Returned) → Answered R op returned → Answered S op returned
answered_more R S more op returned a =
    record { place = a.place; client = a.client; key = a.key; action = a.action; is = more _ _ a.is; note = a.note; pair = a.pair; noted = more _ _ a.noted; good = good_more R S more a.key a.pair a.good; answer = a.answer }

pub hold_more : (old new : Tags) → Rises old new → (s : Replicas) (k : List ℕ) (t : Tag) → AllHold old s k t → AllHold new s k t
hold_more old new up s k t hold r h = at_most_trans t (old r k) (new r k) (hold r h) (up r k)

pub message_more : (R S : List Row) (old new : Tags) → Extends R S → Rises old new → (m : Message) → MessageSound R old m → MessageSound S new m
message_more R S old new more up m (SoundQuery i) = SoundQuery (invoked_more R S more _ _ i)
message_more R S old new more up m (SoundPut i n g) = SoundPut (invoked_more R S more _ _ i) (noted_more R S more _ _ n) (good_more R S more _ _ g)
message_more R S old new more up m (SoundHeld {replica = r} {tag = t} k i g h) = SoundHeld k (invoked_more R S more _ _ i) (good_more R S more _ _ g) (at_most_trans t (old r k) (new r k) h (up r k))
message_more R S old new more up m (SoundKept {replica = r} k t i n h) = SoundKept k t (invoked_more R S more _ _ i) (noted_more R S more _ _ n) (at_most_trans t (old r k) (new r k) h (up r k))

-- no call of the client was begun, noted, answered
abbrev pub NoneInvoked : List Row → List Row → ℕ → Type 0
NoneInvoked R S c = (p : ℕ) (o : OpId) (k : List ℕ) (a : Action) → At S p (Invoke o c k a) → At R p (Invoke o c k a)

abbrev pub NoneNoted : List Row → List Row → ℕ → Type 0
NoneNoted R S c = (p q : ℕ) (o : OpId) (k : List ℕ) (a : Action) (t : Tag) → At R q (Invoke o c k a) → At S p (Note o t) → At R p (Note o t)

abbrev pub NoneDone : List Row → List Row → ℕ → Type 0
NoneDone R S c = (p q : ℕ) (o : OpId) (k : List ℕ) (a : Action) (r : Returned) → At R q (Invoke o c k a) → At S p (Respond o r) → At R p (Respond o r)

pub pending_more : (R S : List Row) → Extends R S → (c : ℕ) (call : Call) → NoneInvoked R S c → NoneDone R S c → Pending R c call → Pending S c call
pending_more R S more c call none same w = record {
  place = w.place;
  is = more _ _ w.is;
  others = λ p o k a i ne. completed_more R S more o (w.others p o k a (none p o k a i) ne);
  unanswered = λ p r i. w.unanswered p r (same p w.place call.op call.key call.action r w.is i);
}

pub holds_more : (quorums : Quorums) (old new : Tags) → Rises old new → (k : List ℕ) (t : Tag) → QuorumHolds quorums old k t → QuorumHolds quorums new k t
holds_more quorums old new up k t q = record { quorum = q.quorum; is_quorum = q.is_quorum; hold = hold_more old new up q.quorum k t q.hold }

pub state_more : (quorums : Quorums) (R S : List Row) (old new : Tags) → Extends R S → Rises old new → (c : ℕ) → NoneInvoked R S c → NoneNoted R S c → NoneDone R S c
    → (x : State) → StateSound quorums R old c x → StateSound quorums S new c x
state_more quorums R S old new more up c none quiet same x (SoundIdle done) = SoundIdle (λ p o k a i. completed_more R S more o (done p o k a (none p o k a i)))
state_more quorums R S old new more up c none quiet same x (SoundAsking {asking = asking} w n g h) =
    SoundAsking (pending_more R S more c asking.call none same w) (λ p t i. n p t (quiet p w.place asking.call.op asking.call.key asking.call.action t w.is i)) (good_more R S more _ _ g) (hold_more old new up asking.counted asking.call.key asking.least h)
state_more quorums R S old new more up c none quiet same x (SoundPutting {chosen = chosen} {counted = counted} w n g h) =
    SoundPutting (pending_more R S more c chosen.call none same w) (noted_more R S more _ _ n) (good_more R S more _ _ g) (hold_more old new up counted chosen.call.key chosen.pair.tag h)
state_more quorums R S old new more up c none quiet same x (SoundReady {chosen = chosen} w n g q) =
    SoundReady (pending_more R S more c chosen.call none same w) (noted_more R S more _ _ n) (good_more R S more _ _ g) (holds_more quorums old new up chosen.call.key chosen.pair.tag q)
state_more quorums R S old new more up c none quiet same x SoundStopped = SoundStopped

-- what is told was told before, with a tag no greater; or it is at least what the replica holds
pub data Older (F : Message → Type 0) (C : ℕ → State → Type 0) (tags : Tags) (k : List ℕ) (u : OpId) (r : ℕ) (v : Tag) : Type 0 where
  Heard : (w : Tag) → Told F C u r w → IsNoGreater w v → Older F C tags k u r v
  Present : IsNoGreater (tags r k) v → Older F C tags k u r v

pub told_older : (quorums : Quorums) (R : List Row) (tags : Tags) (F : Message → Type 0) (C : ℕ → State → Type 0) (s : ℕ) (k : List ℕ) (t : Tag) (q : QuorumTells quorums R tags F C s k t)
    → (r p : ℕ) (u : OpId) (d : ℕ) (b : Action) (v : Tag) → finite.contains q.quorum r ≡ true → At R p (Invoke u d k b) → s < p → Older F C tags k u r v → IsNoGreater t v
told_older quorums R tags F C s k t q r p u d b v h i l (Heard w a le) = at_most_trans t w v (q.told r p u d b w h i l a) le
told_older quorums R tags F C s k t q r p u d b v h i l (Present le) = at_most_trans t (tags r k) v (q.hold r h) le

pub tells_more : (quorums : Quorums) (R S : List Row) (old new : Tags) (F G : Message → Type 0) (C D : ℕ → State → Type 0) → Rises old new
    → (s : ℕ) (k : List ℕ) (t : Tag)
    → ((r q : ℕ) (u : OpId) (d : ℕ) (b : Action) (v : Tag) → At S q (Invoke u d k b) → Told G D u r v → At R q (Invoke u d k b) × Older F C old k u r v)
    → QuorumTells quorums R old F C s k t → QuorumTells quorums S new G D s k t
tells_more quorums R S old new F G C D up s k t older q = record {
  quorum = q.quorum;
  is_quorum = q.is_quorum;
  hold = hold_more old new up q.quorum k t q.hold;
  told = λ r p u d b v h i l a. told_older quorums R old F C s k t q r p u d b v h (older r p u d b v i a).0 l (older r p u d b v i a).1;
}
