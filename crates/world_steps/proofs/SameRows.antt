-- The steps that add no row keep the world sound.
use Rattle.std.proofs.Common.{◌≡◌, ◌≢◌, ℕ, ◌⊎◌, Bool, true, false, List, cond, refl, sym, ap, subst, inl, inr}
use Rattle.std.specs.Ordering.{is_lt}
use Rattle.std.specs.FinSet as finite
use Rattle.std.specs.FinMap as map
use Rattle.tag.specs.Tags.{Tag, tag_cmp}
use Rattle.tag.specs.declared.numbers.OpId.{OpId}
use Rattle.tag.specs.declared.actions.Action.{Action}
use Rattle.recorder.specs.declared.row.Row.{Row}
use Rattle.recorder.specs.declared.row.Row.TheVariants.{Invoke}
use Rattle.quorum.specs.Quorums.{Quorums}
use Rattle.replica.specs.Pairs.{Pairs, pair_of, adopt}
use Rattle.replica.specs.declared.pairs.Pair.{Pair}
use Rattle.replica.specs.declared.requests.Request.{Request}
use Rattle.replica.specs.declared.replies.Reply.TheVariants.{Held, Kept}
use Rattle.replica.proofs.Insertions.{pair_of-insert_same}
use Rattle.network.specs.declared.messages.Message.{Message}
use Rattle.network.specs.declared.messages.Message.TheVariants.{ToReplica, ToClient}
use Rattle.client_phases.specs.Asking.{Asking, newer}
use Rattle.client_phases.specs.declared.states.State.{State}
use Rattle.client_phases.specs.declared.states.State.TheVariants.{Ask}
use Rattle.world_steps.specs.Sound.{At, IsNoGreater, Invoked, Noted, IsGood, RowsSound, MessageSound, StateSound, Told, Sound, Tags, tags_of}
use Rattle.world_steps.specs.Sound.MessageSound.{SoundHeld, SoundKept}
use Rattle.world_steps.specs.Sound.Told.{InReply, InAsking}
use Rattle.world_steps.proofs.TagLaws.{at_most_itself, equal_at_most, newer_than_old, newer_than_new, newer_is}
use Rattle.world_steps.proofs.RowLaws.{Extends, same_key}
use Rattle.world_steps.proofs.Frames.{Rises, message_more, state_more, tells_more, Older}
use Rattle.world_steps.proofs.Frames.Older.{Heard, Present}

itself : (R : List Row) → Extends R R
itself R p row i = i

-- any step that adds no row
pub same_rows : (quorums : Quorums) (R : List Row) (P Q : ℕ → List ℕ → Pair) (F G : Message → Type 0) (C D : ℕ → State → Type 0)
    → Sound quorums R P F C
    → Rises (tags_of P) (tags_of Q)
    → ((r : ℕ) (k : List ℕ) → IsGood R k (Q r k))
    → ((m : Message) → G m → MessageSound R (tags_of Q) m)
    → ((c : ℕ) (x : State) → D c x → StateSound quorums R (tags_of Q) c x)
    → ((c : ℕ) (x : State) → C c x → (y : State) × D c y)
    → ((r q : ℕ) (u : OpId) (d : ℕ) (k : List ℕ) (b : Action) (v : Tag) → At R q (Invoke u d k b) → Told G D u r v → Older F C (tags_of P) k u r v)
    → Sound quorums R Q G D
same_rows quorums R P Q F G C D sound up good messages states there older = record {
  lawful = sound.lawful;
  recorded = sound.recorded;
  pairs = good;
  messages = messages;
  states = states;
  joined = λ p o c k a i. there c (sound.joined p o c k a i).0 (sound.joined p o c k a i).1;
  completed = λ s p n o c returned k a t i j l.
      tells_more quorums R R (tags_of P) (tags_of Q) F G C D up s k t (λ r q u d b v m z. (m, older r q u d k b v m z)) (sound.completed s p n o c returned k a t i j l);
}

pub tags_stay : (P : ℕ → List ℕ → Pair) → Rises (tags_of P) (tags_of P)
tags_stay P r k = at_most_itself (P r k).tag

thin_older : (F G : Message → Type 0) (C : ℕ → State → Type 0) (tags : Tags) → ((m : Message) → G m → F m)
    → (k : List ℕ) (u : OpId) (r : ℕ) (v : Tag) → Told G C u r v → Older F C tags k u r v
thin_older F G C tags less k u r v (InReply c value f) = Heard v (InReply c value (less _ f)) (at_most_itself v)
thin_older F G C tags less k u r v (InAsking c asking f e h t) = Heard v (InAsking c asking f e h t) (at_most_itself v)

-- copies go, or more copies of what flies
pub thinned : (quorums : Quorums) (R : List Row) (P : ℕ → List ℕ → Pair) (F G : Message → Type 0) (C : ℕ → State → Type 0)
    → Sound quorums R P F C → ((m : Message) → G m → F m) → Sound quorums R P G C
thinned quorums R P F G C sound less =
    same_rows quorums R P P F G C C sound (tags_stay P) sound.pairs (λ m g. sound.messages m (less m g)) sound.states (λ c x h. (x, h))
    (λ r q u d k b v i a. thin_older F G C (tags_of P) less k u r v a)

request_older : (F G : Message → Type 0) (C : ℕ → State → Type 0) (tags : Tags) (to : ℕ) (request : Request) → ((m : Message) → G m → F m ⊎ (m ≡ ToReplica to request))
    → (k : List ℕ) (u : OpId) (r : ℕ) (v : Tag) → Told G C u r v → Older F C tags k u r v
request_older F G C tags to request more k u r v (InReply c value f) =
    elim (more _ f) [ inl g ↦ Heard v (InReply c value g) (at_most_itself v) | inr is ↦ absurd cc ]
request_older F G C tags to request more k u r v (InAsking c asking f e h t) = Heard v (InAsking c asking f e h t) (at_most_itself v)

-- a client sends its request
pub requested : (quorums : Quorums) (R : List Row) (P : ℕ → List ℕ → Pair) (F G : Message → Type 0) (C : ℕ → State → Type 0) (to : ℕ) (request : Request)
    → Sound quorums R P F C → MessageSound R (tags_of P) (ToReplica to request) → ((m : Message) → G m → F m ⊎ (m ≡ ToReplica to request))
    → Sound quorums R P G C
requested quorums R P F G C to request sound new more =
    same_rows quorums R P P F G C C sound (tags_stay P) sound.pairs
    (λ m g. elim (more m g) [ inl f ↦ sound.messages m f | inr is ↦ subst (MessageSound R (tags_of P)) (sym is) new ])
    sound.states (λ c x h. (x, h))
    (λ r q u d k b v i a. request_older F G C (tags_of P) to request more k u r v a)

reply_older : (R : List Row) → RowsSound R → (P : ℕ → List ℕ → Pair) (F G : Message → Type 0) (C : ℕ → State → Type 0) (to : ℕ) (op : OpId) (at : ℕ) (key : List ℕ) → Invoked R op key
    → ((m : Message) → G m → F m ⊎ (m ≡ ToClient to (Held op at (P at key).tag (P at key).value)))
    → (q d : ℕ) (b : Action) (k : List ℕ) (u : OpId) (r : ℕ) (v : Tag) → At R q (Invoke u d k b) → Told G C u r v → Older F C (tags_of P) k u r v
reply_older R rows P F G C to op at key known more q d b k u r v i (InReply c value f) =
    elim (more _ f) [
      | inl g ↦ Heard v (InReply c value g) (at_most_itself v)
      | inr is ↦
          let ops : u ≡ op = cc in
          let ats : r ≡ at = cc in
          let tags : v ≡ (P at key).tag = cc in
          let j : At R q (Invoke op d k b) = subst (λ o. At R q (Invoke o d k b)) ops i in
          let keys : k ≡ key = same_key R rows q known.place op d known.client k key b known.action j known.is in
          let t : (P r k).tag ≡ v = cc in
          Present (equal_at_most (P r k).tag v t)
    ]
reply_older R rows P F G C to op at key known more q d b k u r v i (InAsking c asking f e h t) = Heard v (InAsking c asking f e h t) (at_most_itself v)

-- a query comes to a replica, which tells what it holds
pub queried : (quorums : Quorums) (R : List Row) (P : ℕ → List ℕ → Pair) (F G : Message → Type 0) (C : ℕ → State → Type 0) (to : ℕ) (op : OpId) (at : ℕ) (key : List ℕ)
    → Sound quorums R P F C → Invoked R op key → ((m : Message) → G m → F m ⊎ (m ≡ ToClient to (Held op at (P at key).tag (P at key).value)))
    → Sound quorums R P G C
queried quorums R P F G C to op at key sound known more =
    same_rows quorums R P P F G C C sound (tags_stay P) sound.pairs
    (λ m g. elim (more m g) [
      | inl f ↦ sound.messages m f
      | inr is ↦ subst (MessageSound R (tags_of P)) (sym is) (SoundHeld key known (sound.pairs at key) (at_most_itself (P at key).tag))
    ])
    sound.states (λ c x h. (x, h))
    (λ r q u d k b v i a. reply_older R sound.recorded P F G C to op at key known more q d b k u r v i a)

-- what a replica holds, where one adopts a greater pair for a key
pub data Adopted (P : ℕ → List ℕ → Pair) (at : ℕ) (key : List ℕ) (pair : Pair) (r : ℕ) (k : List ℕ) (new : Pair) : Type 0 where
  Same : new ≡ P r k → Adopted P at key pair r k new
  Changed : r ≡ at → k ≡ key → new ≡ newer (P at key) pair → Adopted P at key pair r k new

-- the key's own pair is then the newer of the two
pub pair_of-adopt : (pairs : Pairs) (key : List ℕ) (pair : Pair) → pair_of (adopt pairs key pair) key ≡ newer (pair_of pairs key) pair
pair_of-adopt pairs key pair = either (is_lt (tag_cmp (pair_of pairs key).tag pair.tag))
  where
    either : (b : Bool) → pair_of (cond b (map.insert pairs key pair) pairs) key ≡ cond b pair (pair_of pairs key)
    either b = elim b as (λ c. pair_of (cond c (map.insert pairs key pair) pairs) key ≡ cond c pair (pair_of pairs key)) [ true ↦ pair_of-insert_same pairs key pair | false ↦ refl ]

pub adopted_rises : (P : ℕ → List ℕ → Pair) (at : ℕ) (key : List ℕ) (pair : Pair) (r : ℕ) (k : List ℕ) (new : Pair) → Adopted P at key pair r k new → IsNoGreater (P r k).tag new.tag
adopted_rises P at key pair r k new (Same e) = equal_at_most (P r k).tag new.tag (sym (ap (λ (p : Pair). p.tag) e))
adopted_rises P at key pair r k new (Changed a b e) =
    let h : P r k ≡ P at key = cc in
    subst (λ (p : Pair). IsNoGreater p.tag new.tag) (sym h) (subst (λ (p : Pair). IsNoGreater (P at key).tag p.tag) (sym e) (newer_than_old (P at key) pair))

pub newer_good : (R : List Row) (k : List ℕ) (old new : Pair) → IsGood R k old → IsGood R k new → IsGood R k (newer old new)
newer_good R k old new p q = elim (newer_is old new) [ inl e ↦ subst (IsGood R k) (sym e) p | inr e ↦ subst (IsGood R k) (sym e) q ]

adopted_good : (R : List Row) (P : ℕ → List ℕ → Pair) (at : ℕ) (key : List ℕ) (pair : Pair) (r : ℕ) (k : List ℕ) (new : Pair) → ((r : ℕ) (k : List ℕ) → IsGood R k (P r k)) → IsGood R key pair
    → Adopted P at key pair r k new → IsGood R k new
adopted_good R P at key pair r k new good g (Same e) = subst (IsGood R k) (sym e) (good r k)
adopted_good R P at key pair r k new good g (Changed a b e) =
    subst (λ l. IsGood R l new) (sym b) (subst (IsGood R key) (sym e) (newer_good R key (P at key) pair (good at key) g))

kept_older : (F G : Message → Type 0) (C : ℕ → State → Type 0) (tags : Tags) (to : ℕ) (op : OpId) (at : ℕ) → ((m : Message) → G m → F m ⊎ (m ≡ ToClient to (Kept op at)))
    → (k : List ℕ) (u : OpId) (r : ℕ) (v : Tag) → Told G C u r v → Older F C tags k u r v
kept_older F G C tags to op at more k u r v (InReply c value f) =
    elim (more _ f) [ inl g ↦ Heard v (InReply c value g) (at_most_itself v) | inr is ↦ absurd cc ]
kept_older F G C tags to op at more k u r v (InAsking c asking f e h t) = Heard v (InAsking c asking f e h t) (at_most_itself v)

-- a put comes to a replica, which adopts a greater pair and tells that it keeps one
pub adopting : (quorums : Quorums) (R : List Row) (P Q : ℕ → List ℕ → Pair) (F G : Message → Type 0) (C : ℕ → State → Type 0) (to : ℕ) (op : OpId) (at : ℕ) (key : List ℕ) (pair : Pair)
    → Sound quorums R P F C → Invoked R op key → Noted R op pair.tag → IsGood R key pair
    → ((r : ℕ) (k : List ℕ) → Adopted P at key pair r k (Q r k)) → Q at key ≡ newer (P at key) pair
    → ((m : Message) → G m → F m ⊎ (m ≡ ToClient to (Kept op at)))
    → Sound quorums R Q G C
adopting quorums R P Q F G C to op at key pair sound known noted good adopted there more =
    let up : Rises (tags_of P) (tags_of Q) = λ r k. adopted_rises P at key pair r k (Q r k) (adopted r k) in
    let stored : IsNoGreater pair.tag (Q at key).tag = subst (λ (p : Pair). IsNoGreater pair.tag p.tag) (sym there) (newer_than_new (P at key) pair) in
    same_rows quorums R P Q F G C C sound up
    (λ r k. adopted_good R P at key pair r k (Q r k) sound.pairs good (adopted r k))
    (λ m g. elim (more m g) [
      | inl f ↦ message_more R R (tags_of P) (tags_of Q) (itself R) up m (sound.messages m f)
      | inr is ↦ subst (MessageSound R (tags_of Q)) (sym is) (SoundKept key pair.tag known noted stored)
    ])
    (λ c x h. state_more quorums R R (tags_of P) (tags_of Q) (itself R) up c (λ p o k a i. i) (λ p q o k a t i n. n) (λ p q o k a r i n. n) x (sound.states c x h))
    (λ c x h. (x, h))
    (λ r q u d k b v i a. kept_older F G C (tags_of P) to op at more k u r v a)

-- a client's new state, all others as before
pub data Became (C : ℕ → State → Type 0) (c : ℕ) (new : State) (d : ℕ) (x : State) : Type 0 where
  Other : d ≢ c → C d x → Became C c new d x
  This : d ≡ c → x ≡ new → Became C c new d x

-- what a client has counted, it was told
abbrev pub CountsAnswers : (F : Message → Type 0) (C : ℕ → State → Type 0) → Tags → State → Type 0
CountsAnswers F C tags (Ask asking) = (r : ℕ) (k : List ℕ) → finite.contains asking.counted r ≡ true → Older F C tags k asking.call.op r asking.best.tag
CountsAnswers F C tags state = Unit {0}

state_older : (F : Message → Type 0) (C : ℕ → State → Type 0) (tags : Tags) (c : ℕ) (new : State) → CountsAnswers F C tags new
    → (k : List ℕ) (u : OpId) (r : ℕ) (v : Tag) (d : ℕ) (asking : Asking) → Became C c new d (Ask asking)
    → asking.call.op ≡ u → finite.contains asking.counted r ≡ true → asking.best.tag ≡ v → Older F C tags k u r v
state_older F C tags c new counts k u r v d asking (Other ne h) e i t = Heard v (InAsking d asking h e i t) (at_most_itself v)
state_older F C tags c new counts k u r v d asking (This e x) f i t =
    let answers : CountsAnswers F C tags (Ask asking) = subst (CountsAnswers F C tags) (sym x) counts in
    subst (λ o. Older F C tags k o r v) f (subst (λ w. Older F C tags k asking.call.op r w) t (answers r k i))

pub became_older : (F : Message → Type 0) (C D : ℕ → State → Type 0) (tags : Tags) (c : ℕ) (new : State) → CountsAnswers F C tags new → ((d : ℕ) (x : State) → D d x → Became C c new d x)
    → (k : List ℕ) (u : OpId) (r : ℕ) (v : Tag) → Told F D u r v → Older F C tags k u r v
became_older F C D tags c new counts became k u r v (InReply d value f) = Heard v (InReply d value f) (at_most_itself v)
became_older F C D tags c new counts became k u r v (InAsking d asking f e h t) = state_older F C tags c new counts k u r v d asking (became d _ f) e h t

turned_sound : (quorums : Quorums) (R : List Row) (tags : Tags) (C : ℕ → State → Type 0) (c : ℕ) (new : State) → StateSound quorums R tags c new
    → ((d : ℕ) (x : State) → C d x → StateSound quorums R tags d x) → (d : ℕ) (x : State) → Became C c new d x → StateSound quorums R tags d x
turned_sound quorums R tags C c new good all d x (Other ne h) = all d x h
turned_sound quorums R tags C c new good all d x (This e is) = subst (λ n. StateSound quorums R tags n x) (sym e) (subst (StateSound quorums R tags c) (sym is) good)

-- a client goes on to another state, with no row
pub becoming : (quorums : Quorums) (R : List Row) (P : ℕ → List ℕ → Pair) (F : Message → Type 0) (C D : ℕ → State → Type 0) (c : ℕ) (new : State)
    → Sound quorums R P F C → StateSound quorums R (tags_of P) c new → CountsAnswers F C (tags_of P) new
    → ((d : ℕ) (x : State) → D d x → Became C c new d x)
    → ((d : ℕ) (x : State) → C d x → (y : State) × D d y)
    → Sound quorums R P F D
becoming quorums R P F C D c new sound good counts became there =
    same_rows quorums R P P F F C D sound (tags_stay P) sound.pairs sound.messages
    (λ d x h. turned_sound quorums R (tags_of P) C c new good sound.states d x (became d x h))
    there
    (λ r q u d k b v i a. became_older F C D (tags_of P) c new counts became k u r v a)
