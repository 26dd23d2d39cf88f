-- A reply that counts comes to a client.
use Rattle.std.proofs.Common.{◌≡◌, ℕ, Bool, true, false, List, Option, refl, sym, cond, ap, subst, ◌||◌, nat_eq, inl, inr}
use Rattle.std.specs.Ordering.{is_lt, is_eq}
use Rattle.std.specs.FinSet as finite
use Rattle.std.proofs.lemmas.Bool.{and_parts}
use Rattle.tag.specs.Tags.{Tag, tag_cmp}
use Rattle.tag.specs.declared.numbers.OpId.{OpId}
use Rattle.tag.specs.declared.actions.Action.{Action}
use Rattle.tag.specs.declared.actions.Action.TheVariants.{Read, Write}
use Rattle.recorder.specs.declared.row.Row.{Row}
use Rattle.recorder.specs.declared.row.Row.TheVariants.{Invoke, Note}
use Rattle.quorum.specs.Sets.{Replicas}
use Rattle.quorum.specs.Quorums.{Quorums, is_ask_quorum, is_put_quorum}
use Rattle.replica.specs.declared.pairs.Pair.{Pair}
use Rattle.replica.specs.declared.replies.Reply.TheVariants.{Held, Kept}
use Rattle.network.specs.declared.messages.Message.{Message}
use Rattle.network.specs.declared.messages.Message.TheVariants.{ToClient}
use Rattle.client_phases.specs.declared.calls.Call.{Call}
use Rattle.client_phases.specs.declared.rules.ReadMode.{ReadMode}
use Rattle.client_phases.specs.declared.rules.ReadMode.TheVariants.{Full, Short}
use Rattle.client_phases.specs.declared.rules.Rules.{Rules}
use Rattle.client_phases.specs.Calls.{Chosen, pair_to_put}
use Rattle.client_phases.specs.Asking.{Asking, newer, asking_with, is_agreed}
use Rattle.client_phases.specs.declared.states.State.{State}
use Rattle.client_phases.specs.declared.states.State.TheVariants.{Ask, Put, Ready}
use Rattle.world_steps.specs.Sound.{At, IsNoGreater, Noted, Pending, IsGood, RowsSound, AllHold, MessageSound, StateSound, Sound, Tags, tags_of}
use Rattle.world_steps.specs.Sound.MessageSound.{SoundHeld, SoundKept}
use Rattle.world_steps.specs.Sound.StateSound.{SoundAsking, SoundPutting, SoundReady}
use Rattle.world_steps.specs.Sound.Told.{InReply, InAsking}
use Rattle.world_steps.proofs.TagLaws.{at_most_trans, at_most_below, less_is_below, not_less_at_most, equal_is, newer_than_old, newer_than_new}
use Rattle.world_steps.proofs.RowLaws.{more, same_key}
use Rattle.world_steps.proofs.Quorums.{in_nobody, in_insert, none_counted}
use Rattle.world_steps.proofs.Frames.{Older}
use Rattle.world_steps.proofs.Frames.Older.{Heard}
use Rattle.world_steps.proofs.SameRows.{newer_good, Became, CountsAnswers, becoming}
use Rattle.world_steps.proofs.RowSteps.{asking_pending, noting}

-- a replica's reply, as a pair
abbrev pub told : Tag → Option (List ℕ) → Pair
told tag value = record { tag = tag; value = value }

asking_good : (quorums : Quorums) (R : List Row) (tags : Tags) (c : ℕ) (asking : Asking) → StateSound quorums R tags c (Ask asking) → IsGood R asking.call.key asking.best
asking_good quorums R tags c asking (SoundAsking w n g h) = g

asking_least : (quorums : Quorums) (R : List Row) (tags : Tags) (c : ℕ) (asking : Asking) → StateSound quorums R tags c (Ask asking) → AllHold tags asking.counted asking.call.key asking.least
asking_least quorums R tags c asking (SoundAsking w n g h) = h

-- ---- what is told to a pending call
pub held_good : (R : List Row) (tags : Tags) (d : ℕ) (op : OpId) (r : ℕ) (tag : Tag) (value : Option (List ℕ)) → RowsSound R → MessageSound R tags (ToClient d (Held op r tag value))
    → (c : ℕ) (call : Call) → Pending R c call → op ≡ call.op → IsGood R call.key (told tag value)
held_good R tags d op r tag value rows (SoundHeld k i g h) c call w e =
    let known : At R i.place (Invoke call.op i.client k i.action) = subst (λ z. At R i.place (Invoke z i.client k i.action)) e i.is in
    let ek : k ≡ call.key = same_key R rows i.place w.place call.op i.client c k call.key i.action call.action known w.is in
    subst (λ z. IsGood R z (told tag value)) ek g

held_low : (R : List Row) (tags : Tags) (d : ℕ) (op : OpId) (r : ℕ) (tag : Tag) (value : Option (List ℕ)) → RowsSound R → MessageSound R tags (ToClient d (Held op r tag value))
    → (c : ℕ) (call : Call) → Pending R c call → op ≡ call.op → IsNoGreater tag (tags r call.key)
held_low R tags d op r tag value rows (SoundHeld k i g h) c call w e =
    let known : At R i.place (Invoke call.op i.client k i.action) = subst (λ z. At R i.place (Invoke z i.client k i.action)) e i.is in
    let ek : k ≡ call.key = same_key R rows i.place w.place call.op i.client c k call.key i.action call.action known w.is in
    subst (λ z. IsNoGreater tag (tags r z)) ek h

-- ---- one reply more
-- what is counted after one more pair, was told
counts_more : (F : Message → Type 0) (C : ℕ → State → Type 0) (tags : Tags) (c d : ℕ) (asking : Asking) (op : OpId) (at : ℕ) (tag : Tag) (value : Option (List ℕ))
    → C c (Ask asking) → F (ToClient d (Held op at tag value)) → op ≡ asking.call.op
    → (r : ℕ) (k : List ℕ) → finite.contains (finite.insert asking.counted at) r ≡ true → Older F C tags k asking.call.op r (newer asking.best (told tag value)).tag
counts_more F C tags c d asking op at tag value is f e r k h =
    elim (in_insert asking.counted at r h) [
      | inl same ↦
          let g : F (ToClient d (Held asking.call.op r tag value)) = subst (λ z. F (ToClient d (Held z r tag value))) e (subst (λ z. F (ToClient d (Held op z tag value))) (sym same) f) in
          Heard tag (InReply d value g) (newer_than_new asking.best (told tag value))
      | inr old ↦ Heard asking.best.tag (InAsking c asking is refl old refl) (newer_than_old asking.best (told tag value))
    ]

-- each replica that is counted holds at least the least tag that was told
hold_least : (tags : Tags) (key : List ℕ) (counted : Replicas) (least tag : Tag) (at : ℕ) (nobody less : Bool) → nat_eq (finite.len counted) 0 ≡ nobody → is_lt (tag_cmp tag least) ≡ less
    → AllHold tags counted key least → IsNoGreater tag (tags at key) → AllHold tags (finite.insert counted at) key (cond (nobody || less) tag least)
hold_least tags key counted least tag at true less p q hold le r h =
    elim (in_insert counted at r h) [
      | inl here ↦ subst (λ z. IsNoGreater tag (tags z key)) (sym here) le
      | inr old ↦ absurd (none_counted counted r p old)
    ]
hold_least tags key counted least tag at false true p q hold le r h =
    elim (in_insert counted at r h) [
      | inl here ↦ subst (λ z. IsNoGreater tag (tags z key)) (sym here) le
      | inr old ↦ at_most_trans tag least (tags r key) (at_most_below tag least (less_is_below tag least q)) (hold r old)
    ]
hold_least tags key counted least tag at false false p q hold le r h =
    elim (in_insert counted at r h) [
      | inl here ↦ subst (λ z. IsNoGreater least (tags z key)) (sym here) (at_most_trans least tag (tags at key) (not_less_at_most tag least q) le)
      | inr old ↦ hold r old
    ]

counted_sound : (quorums : Quorums) (R : List Row) (tags : Tags) (c d : ℕ) (asking : Asking) (op : OpId) (at : ℕ) (tag : Tag) (value : Option (List ℕ)) → RowsSound R
    → StateSound quorums R tags c (Ask asking) → MessageSound R tags (ToClient d (Held op at tag value)) → op ≡ asking.call.op
    → StateSound quorums R tags c (Ask (asking_with asking at (told tag value)))
counted_sound quorums R tags c d asking op at tag value rows (SoundAsking w n g h) m e =
    SoundAsking w n (newer_good R asking.call.key asking.best (told tag value) g (held_good R tags d op at tag value rows m c asking.call w e))
    (hold_least tags asking.call.key asking.counted asking.least tag at (nat_eq (finite.len asking.counted) 0) (is_lt (tag_cmp tag asking.least)) refl refl h (held_low R tags d op at tag value rows m c asking.call w e))

-- a pair is counted, and more are wanted
pub counting : (quorums : Quorums) (R : List Row) (P : ℕ → List ℕ → Pair) (F : Message → Type 0) (C D : ℕ → State → Type 0) (c d : ℕ) (asking : Asking) (op : OpId) (at : ℕ) (tag : Tag) (value : Option (List ℕ))
    → Sound quorums R P F C → C c (Ask asking) → F (ToClient d (Held op at tag value)) → op ≡ asking.call.op
    → ((d : ℕ) (x : State) → D d x → Became C c (Ask (asking_with asking at (told tag value))) d x)
    → ((d : ℕ) (x : State) → C d x → (y : State) × D d y)
    → Sound quorums R P F D
counting quorums R P F C D c d asking op at tag value sound is f e became there =
    becoming quorums R P F C D c (Ask (asking_with asking at (told tag value))) sound
    (counted_sound quorums R (tags_of P) c d asking op at tag value sound.recorded (sound.states c _ is) (sound.messages _ f) e)
    (counts_more F C (tags_of P) c d asking op at tag value is f e)
    became there

last_noted : (quorums : Quorums) (R : List Row) (P : ℕ → List ℕ → Pair) (F : Message → Type 0) (C D : ℕ → State → Type 0) (c d : ℕ) (asking : Asking) (op : OpId) (at : ℕ) (tag : Tag) (value : Option (List ℕ)) (new : State)
    → Sound quorums R P F C → C c (Ask asking) → F (ToClient d (Held op at tag value)) → op ≡ asking.call.op
    → is_ask_quorum quorums (finite.insert asking.counted at) ≡ true
    → ((S : List Row) → Pending S c asking.call → Noted S asking.call.op (pair_to_put c asking.call.action (newer asking.best (told tag value))).tag → IsGood S asking.call.key (pair_to_put c asking.call.action (newer asking.best (told tag value)))
    → StateSound quorums S (tags_of P) c new)
    → CountsAnswers F C (tags_of P) new
    → ((d : ℕ) (x : State) → D d x → Became C c new d x)
    → ((d : ℕ) (x : State) → C d x → (y : State) × D d y)
    → Sound quorums (more R (Note asking.call.op (pair_to_put c asking.call.action (newer asking.best (told tag value))).tag)) P F D
last_noted quorums R P F C D c d asking op at tag value new sound is f e full arrives counts became there =
    let state : StateSound quorums R (tags_of P) c (Ask asking) = sound.states c (Ask asking) is in
    let w : Pending R c asking.call = asking_pending quorums R (tags_of P) c asking state in
    noting quorums R P F C D c asking (finite.insert asking.counted at) (newer asking.best (told tag value)) new sound is full
    (counts_more F C (tags_of P) c d asking op at tag value is f e)
    (newer_good R asking.call.key asking.best (told tag value) (asking_good quorums R (tags_of P) c asking state) (held_good R (tags_of P) d op at tag value sound.recorded (sound.messages _ f) c asking.call w e))
    arrives counts became there

-- a pair is counted, and it was the last: the client puts
pub counted_last : (quorums : Quorums) (R : List Row) (P : ℕ → List ℕ → Pair) (F : Message → Type 0) (C D : ℕ → State → Type 0) (c d : ℕ) (asking : Asking) (op : OpId) (at : ℕ) (tag : Tag) (value : Option (List ℕ))
    → Sound quorums R P F C → C c (Ask asking) → F (ToClient d (Held op at tag value)) → op ≡ asking.call.op
    → is_ask_quorum quorums (finite.insert asking.counted at) ≡ true
    → ((d : ℕ) (x : State) → D d x → Became C c (Put (record { call = asking.call; pair = pair_to_put c asking.call.action (newer asking.best (told tag value)) }) finite.empty) d x)
    → ((d : ℕ) (x : State) → C d x → (y : State) × D d y)
    → Sound quorums (more R (Note asking.call.op (pair_to_put c asking.call.action (newer asking.best (told tag value))).tag)) P F D
counted_last quorums R P F C D c d asking op at tag value sound is f e full became there =
    last_noted quorums R P F C D c d asking op at tag value (Put (record { call = asking.call; pair = pair_to_put c asking.call.action (newer asking.best (told tag value)) }) finite.empty) sound is f e full
    (λ S w n g. SoundPutting w n g (λ r h. absurd (in_nobody r h))) tt became there

-- ---- agreement
-- a short read, all of whose replies carried one tag and came from a put quorum
record Agreement (quorums : Quorums) (asking : Asking) : Type 0 where
  reads : asking.call.action ≡ Read
  one_tag : asking.least ≡ asking.best.tag
  is_put : is_put_quorum quorums asking.counted ≡ true

agreement_by : (name : ℕ) (quorums : Quorums) (reads : ReadMode) (op : OpId) (key : List ℕ) (action : Action) (counted : Replicas) (best : Pair) (least : Tag)
    → is_agreed (record { name = name; quorums = quorums; reads = reads }) (record { call = record { op = op; key = key; action = action }; counted = counted; best = best; least = least }) ≡ true
    → Agreement quorums (record { call = record { op = op; key = key; action = action }; counted = counted; best = best; least = least })
agreement_by name quorums Short op key Read counted best least e =
    let h : (is_eq (tag_cmp least best.tag) ≡ true) × (is_put_quorum quorums counted ≡ true) = and_parts (is_eq (tag_cmp least best.tag)) (is_put_quorum quorums counted) e in
    record { reads = refl; one_tag = equal_is least best.tag h.0; is_put = h.1 }
agreement_by name quorums Short op key (Write value) counted best least e = absurd cc
agreement_by name quorums Full op key action counted best least e = absurd cc

agreement : (rules : Rules) (asking : Asking) → is_agreed rules asking ≡ true → Agreement rules.quorums asking
agreement rules asking e = agreement_by rules.name rules.quorums rules.reads asking.call.op asking.call.key asking.call.action asking.counted asking.best asking.least e

-- a pair is counted, it was the last, and all agreed: a short read is ready
pub agreed_last : (rules : Rules) (R : List Row) (P : ℕ → List ℕ → Pair) (F : Message → Type 0) (C D : ℕ → State → Type 0) (c d : ℕ) (asking : Asking) (op : OpId) (at : ℕ) (tag : Tag) (value : Option (List ℕ))
    → Sound rules.quorums R P F C → C c (Ask asking) → F (ToClient d (Held op at tag value)) → op ≡ asking.call.op
    → is_ask_quorum rules.quorums (finite.insert asking.counted at) ≡ true
    → is_agreed rules (asking_with asking at (told tag value)) ≡ true
    → ((d : ℕ) (x : State) → D d x → Became C c (Ready (record { call = asking.call; pair = newer asking.best (told tag value) })) d x)
    → ((d : ℕ) (x : State) → C d x → (y : State) × D d y)
    → Sound rules.quorums (more R (Note asking.call.op (newer asking.best (told tag value)).tag)) P F D
agreed_last rules R P F C D c d asking op at tag value sound is f e full short became there =
    let quorums : Quorums = rules.quorums in
    let further : Asking = asking_with asking at (told tag value) in
    let agree : Agreement quorums further = agreement rules further short in
    let same : pair_to_put c asking.call.action further.best ≡ further.best = ap (λ a. pair_to_put c a further.best) agree.reads in
    let low : AllHold (tags_of P) further.counted asking.call.key further.least =
    asking_least quorums R (tags_of P) c further (counted_sound quorums R (tags_of P) c d asking op at tag value sound.recorded (sound.states c _ is) (sound.messages _ f) e) in
    let hold : AllHold (tags_of P) further.counted asking.call.key further.best.tag = subst (AllHold (tags_of P) further.counted asking.call.key) agree.one_tag low in
    subst (λ (z : Pair). Sound quorums (more R (Note asking.call.op z.tag)) P F D) same
    (last_noted quorums R P F C D c d asking op at tag value (Ready (record { call = asking.call; pair = further.best })) sound is f e full
    (λ S w n g. SoundReady w (subst (λ (z : Pair). Noted S asking.call.op z.tag) same n) (subst (IsGood S asking.call.key) same g) (record { quorum = further.counted; is_quorum = agree.is_put; hold = hold }))
    tt became there)

-- ---- a replica keeps the pair
put_hold : (R : List Row) (tags : Tags) (c d : ℕ) (op : OpId) (at : ℕ) (chosen : Chosen) (counted : Replicas) → RowsSound R → Pending R c chosen.call → Noted R chosen.call.op chosen.pair.tag
    → AllHold tags counted chosen.call.key chosen.pair.tag → MessageSound R tags (ToClient d (Kept op at)) → op ≡ chosen.call.op → AllHold tags (finite.insert counted at) chosen.call.key chosen.pair.tag
put_hold R tags c d op at chosen counted rows w n hold (SoundKept k t i noted le) e r h =
    let call : Call = chosen.call in
    let pair : Pair = chosen.pair in
    elim (in_insert counted at r h) [
      | inl same ↦
          let known : At R i.place (Invoke call.op i.client k i.action) = subst (λ z. At R i.place (Invoke z i.client k i.action)) e i.is in
          let ek : k ≡ call.key = same_key R rows i.place w.place call.op i.client c k call.key i.action call.action known w.is in
          let et : t ≡ pair.tag = rows.noted_once noted.place n.place call.op t pair.tag (subst (λ z. At R noted.place (Note z t)) e noted.is) n.is in
          subst (λ z. IsNoGreater pair.tag (tags z call.key)) (sym same) (subst (λ z. IsNoGreater pair.tag (tags at z)) ek (subst (λ z. IsNoGreater z (tags at k)) et le))
      | inr old ↦ hold r old
    ]

putting_sound : (quorums : Quorums) (R : List Row) (tags : Tags) (c d : ℕ) (op : OpId) (at : ℕ) (chosen : Chosen) (counted : Replicas) → RowsSound R
    → StateSound quorums R tags c (Put chosen counted) → MessageSound R tags (ToClient d (Kept op at)) → op ≡ chosen.call.op
    → StateSound quorums R tags c (Put chosen (finite.insert counted at))
putting_sound quorums R tags c d op at chosen counted rows (SoundPutting w n g h) m e = SoundPutting w n g (put_hold R tags c d op at chosen counted rows w n h m e)

ready_sound : (quorums : Quorums) (R : List Row) (tags : Tags) (c : ℕ) (chosen : Chosen) (counted : Replicas)
    → StateSound quorums R tags c (Put chosen counted) → is_put_quorum quorums counted ≡ true → StateSound quorums R tags c (Ready chosen)
ready_sound quorums R tags c chosen counted (SoundPutting w n g h) full = SoundReady w n g (record { quorum = counted; is_quorum = full; hold = h })

-- a replica has kept the pair, and more are wanted
pub keeping : (quorums : Quorums) (R : List Row) (P : ℕ → List ℕ → Pair) (F : Message → Type 0) (C D : ℕ → State → Type 0) (c d : ℕ) (op : OpId) (at : ℕ) (chosen : Chosen) (counted : Replicas)
    → Sound quorums R P F C → C c (Put chosen counted) → F (ToClient d (Kept op at)) → op ≡ chosen.call.op
    → ((d : ℕ) (x : State) → D d x → Became C c (Put chosen (finite.insert counted at)) d x)
    → ((d : ℕ) (x : State) → C d x → (y : State) × D d y)
    → Sound quorums R P F D
keeping quorums R P F C D c d op at chosen counted sound is f e became there =
    becoming quorums R P F C D c (Put chosen (finite.insert counted at)) sound
    (putting_sound quorums R (tags_of P) c d op at chosen counted sound.recorded (sound.states c _ is) (sound.messages _ f) e) tt became there

-- and it was the last that was wanted
pub kept_last : (quorums : Quorums) (R : List Row) (P : ℕ → List ℕ → Pair) (F : Message → Type 0) (C D : ℕ → State → Type 0) (c d : ℕ) (op : OpId) (at : ℕ) (chosen : Chosen) (counted : Replicas)
    → Sound quorums R P F C → C c (Put chosen counted) → F (ToClient d (Kept op at)) → op ≡ chosen.call.op
    → is_put_quorum quorums (finite.insert counted at) ≡ true
    → ((d : ℕ) (x : State) → D d x → Became C c (Ready chosen) d x)
    → ((d : ℕ) (x : State) → C d x → (y : State) × D d y)
    → Sound quorums R P F D
kept_last quorums R P F C D c d op at chosen counted sound is f e full became there =
    becoming quorums R P F C D c (Ready chosen) sound
    (ready_sound quorums R (tags_of P) c chosen (finite.insert counted at) (putting_sound quorums R (tags_of P) c d op at chosen counted sound.recorded (sound.states c _ is) (sound.messages _ f) e) full)
    tt became there
