-- What holds throughout every run (Attiya, Bar-Noy and Dolev 1995; Lynch and Shvartsman 1997): a
-- statement about the rows of the record, the pairs that replicas hold, the messages in flight and
-- the states of clients.
use Rattle.std.specs.Prelude.{ℕ, zero, suc, ◌≡◌, ◌≢◌, ◌<◌, ◌≤◌, ◌+◌, ◌⊎◌, Bool, true, false, ◌&&◌}
use Rattle.std.specs.Prelude.{◌||◌, if◌then◌else◌, nat_eq, bytes_eq, List, [], ◌∷◌, Option, Some}
use Rattle.std.specs.Prelude.{slice_get}
use Rattle.std.specs.FinSet as finite
use Rattle.tag.specs.Tags.{Tag, IsBelow, least}
use Rattle.tag.specs.declared.numbers.OpId.{OpId}
use Rattle.tag.specs.declared.actions.Action.{Action}
use Rattle.tag.specs.declared.actions.Action.TheVariants.{Read, Write}
use Rattle.tag.specs.declared.actions.Returned.{Returned}
use Rattle.recorder.specs.declared.row.Row.{Row}
use Rattle.recorder.specs.declared.row.Row.TheVariants.{Invoke, Note, Respond}
use Rattle.recorder.specs.Histories.{call_count}
use Rattle.quorum.specs.Sets.{Replicas}
use Rattle.quorum.specs.Quorums.{Quorums, IsLawful, is_put_quorum}
use Rattle.replica.specs.Pairs.{no_pair}
use Rattle.replica.specs.declared.pairs.Pair.{Pair}
use Rattle.replica.specs.declared.requests.Request.TheVariants as request
use Rattle.replica.specs.declared.replies.Reply.TheVariants.{Held, Kept}
use Rattle.network.specs.declared.messages.Message.{Message}
use Rattle.network.specs.declared.messages.Message.TheVariants.{ToReplica, ToClient}
use Rattle.client_phases.specs.declared.calls.Call.{Call}
use Rattle.client_phases.specs.Calls.{Chosen, answer_from}
use Rattle.client_phases.specs.Asking.{Asking}
use Rattle.client_phases.specs.declared.states.State.{State}
use Rattle.client_phases.specs.declared.states.State.TheVariants.{Idle, Ask, Put, Ready, Stopped}

-- the row stands at the place
abbrev pub At : List Row → ℕ → Row → Type 0
At rows place row = slice_get rows place ≡ Some row

-- the tag is below another, or that one
abbrev pub IsNoGreater : Tag → Tag → Type 0
IsNoGreater a b = (a.number < b.number) ⊎ ((a.number ≡ b.number) × (a.writer ≤ b.writer))

-- ---- what the record has of a call

-- the call is begun, on that key
pub record Invoked (rows : List Row) (op : OpId) (key : List ℕ) : Type 0 where
  pub place : ℕ
  pub client : ℕ
  pub action : Action
  pub is : At rows place (Invoke op client key action)

-- its tag is fixed
pub record Noted (rows : List Row) (op : OpId) (tag : Tag) : Type 0 where
  pub place : ℕ
  pub is : At rows place (Note op tag)

-- it is answered
pub record Completed (rows : List Row) (op : OpId) : Type 0 where
  pub place : ℕ
  pub returned : Returned
  pub is : At rows place (Respond op returned)

-- its tag isn't fixed
abbrev pub NotNoted : List Row → OpId → Type 0
NotNoted rows op = (place : ℕ) (tag : Tag) → At rows place (Note op tag) → ⊥

-- it isn't answered
abbrev pub NotCompleted : List Row → OpId → Type 0
NotCompleted rows op = (place : ℕ) (returned : Returned) → At rows place (Respond op returned) → ⊥

-- each call of the client but this one is completed
abbrev pub OthersCompleted : List Row → ℕ → OpId → Type 0
OthersCompleted rows client op =
    (place : ℕ) (other : OpId) (key : List ℕ) (action : Action)
    → At rows place (Invoke other client key action) → other ≢ op → Completed rows other

-- the call is pending, and the only one of its client
pub record Pending (rows : List Row) (client : ℕ) (call : Call) : Type 0 where
  pub place : ℕ
  pub is : At rows place (Invoke call.op client call.key call.action)
  pub others : OthersCompleted rows client call.op
  pub unanswered : NotCompleted rows call.op

-- ---- tags come from notes

-- a write on the key was noted with the tag
pub record WasWritten (rows : List Row) (key : List ℕ) (tag : Tag) : Type 0 where
  pub op : OpId
  pub client : ℕ
  pub value : List ℕ
  pub place : ℕ
  pub invoked : At rows place (Invoke op client key (Write value))
  pub note : ℕ
  pub noted : At rows note (Note op tag)

-- a write on the key was noted with the pair's tag, and the pair has its value
pub record Source (rows : List Row) (key : List ℕ) (pair : Pair) : Type 0 where
  pub write : WasWritten rows key pair.tag
  pub same : pair.value ≡ Some write.value

-- the pair is that of a key which nobody wrote, or comes from a noted write
pub data IsGood (rows : List Row) (key : List ℕ) (pair : Pair) : Type 0 where
  Unwritten : pair ≡ no_pair → IsGood rows key pair
  Wrote : Source rows key pair → IsGood rows key pair

-- the call answers from a good pair that has its noted tag
pub record Answered (rows : List Row) (op : OpId) (returned : Returned) : Type 0 where
  pub place : ℕ
  pub client : ℕ
  pub key : List ℕ
  pub action : Action
  pub is : At rows place (Invoke op client key action)
  pub note : ℕ
  pub pair : Pair
  pub noted : At rows note (Note op pair.tag)
  pub good : IsGood rows key pair
  pub answer : returned ≡ answer_from (record {
    call = record {
      op = op;
      key = key;
      action =
          action;
    };
    pair = pair;
  })

-- how many numbers below n pass the test
abbrev pub count_below : (ℕ → Bool) → ℕ → ℕ
count_below test zero = 0
count_below test (suc n) = count_below test n + (if test n then 1 else 0)

-- the row is a note of the call with that number
abbrev pub is_note_of : ℕ → Row → Bool
is_note_of number (Note op tag) = nat_eq op.0 number
is_note_of number (Invoke op client key action) = false
is_note_of number (Respond op returned) = false

-- the call with that number has a note
abbrev pub is_noted : List Row → ℕ → Bool
is_noted [] number = false
is_noted (row ∷ rows) number = is_note_of number row || is_noted rows number

-- how many of the first n calls have a note
abbrev pub noted_below : List Row → ℕ → ℕ
noted_below rows n = count_below (is_noted rows) n

-- ---- the tags of a key

-- the least tag, or that of a noted write on the key
abbrev pub IsFromWrite : List Row → List ℕ → Tag → Type 0
IsFromWrite rows key tag = (tag ≡ least) ⊎ WasWritten rows key tag

-- the row begins a write on the key, with that number
abbrev pub begins_write : List ℕ → ℕ → Row → Bool
begins_write key number (Invoke op client of (Write value)) = nat_eq op.0 number && bytes_eq of key
begins_write key number (Invoke op client of Read) = false
begins_write key number (Note op tag) = false
begins_write key number (Respond op returned) = false

-- the call with that number is a write on the key
abbrev pub is_write_on : List Row → List ℕ → ℕ → Bool
is_write_on [] key number = false
is_write_on (row ∷ rows) key number = begins_write key number row || is_write_on rows key number

-- the call with that number is a noted write on the key
abbrev pub is_noted_write : List Row → List ℕ → ℕ → Bool
is_noted_write rows key number = is_noted rows number && is_write_on rows key number

-- how many writes on the key are noted
abbrev pub write_count : List Row → List ℕ → ℕ
write_count rows key = count_below (is_noted_write rows key) (call_count rows)

-- what the rows are
pub record RowsSound (rows : List Row) : Type 0 where
  -- a call is begun once, with a number below the count of calls
  pub once : (p q : ℕ) (op : OpId) (c d : ℕ) (k l : List ℕ) (a b : Action)
      → At rows p (Invoke op c k a) → At rows q (Invoke op d l b) → p ≡ q
  pub fresh : (p : ℕ) (op : OpId) (c : ℕ) (k : List ℕ) (a : Action) → At rows p (Invoke op c k a)
      → op.0 < call_count rows
  -- a call has one tag, and is known when it is noted
  pub noted_once : (p q : ℕ) (op : OpId) (t u : Tag) → At rows p (Note op t) → At rows q (Note op u)
      → t ≡ u
  pub noted_known : (p : ℕ) (op : OpId) (t : Tag) → At rows p (Note op t) → op.0 < call_count rows
  -- a client begins a call once its earlier ones are completed
  pub sequential : (p q : ℕ) (o u : OpId) (c : ℕ) (k l : List ℕ) (a b : Action)
      → At rows p (Invoke o c k a) → At rows q (Invoke u c l b) → p < q
      → (s : ℕ) × (returned : Returned) × (s < q) × At rows s (Respond o returned)
  -- along precedence of calls on one key the tags don't fall, and they rise to a write
  pub rising : (s p q : ℕ) (o u : OpId) (c d : ℕ) (returned : Returned) (k : List ℕ) (a b : Action)
      (t v : Tag) (m n : ℕ)
      → At rows s (Respond o returned) → At rows p (Invoke o c k a) → At rows q (Invoke u d k b)
      → s < q → At rows m (Note o t) → At rows n (Note u v)
      → IsNoGreater t v × ((value : List ℕ) → b ≡ Write value → IsBelow t v)
  -- a write's tag has a number above 0, and is of its own client
  pub own : (p n : ℕ) (o : OpId) (c : ℕ) (k value : List ℕ) (t : Tag)
      → At rows p (Invoke o c k (Write value)) → At rows n (Note o t)
      → (0 < t.number) × (t.writer ≡ c)
  -- no tag has a number above the count of noted calls
  pub bounded : (p : ℕ) (o : OpId) (t : Tag) → At rows p (Note o t)
      → t.number ≤ noted_below rows (call_count rows)
  -- a call's tag is the least one or that of a noted write on its key
  pub written : (p n : ℕ) (o : OpId) (c : ℕ) (k : List ℕ) (a : Action) (t : Tag)
      → At rows p (Invoke o c k a) → At rows n (Note o t) → IsFromWrite rows k t
  -- that of a write has no number above the count of noted writes on its key
  pub counted : (p n : ℕ) (o : OpId) (c : ℕ) (k value : List ℕ) (t : Tag)
      → At rows p (Invoke o c k (Write value)) → At rows n (Note o t)
      → t.number ≤ write_count rows k
  -- each response answers from a good pair
  pub answered : (s : ℕ) (o : OpId) (returned : Returned) → At rows s (Respond o returned)
      → Answered rows o returned

-- ---- kept means stored

-- which tag a replica holds for a key
abbrev pub Tags : Type 0
Tags = ℕ → List ℕ → Tag

-- that of the pair which it holds
abbrev pub tags_of : (ℕ → List ℕ → Pair) → Tags
tags_of pairs replica key = (pairs replica key).tag

-- each of these replicas holds at least that tag for the key
abbrev pub AllHold : Tags → Replicas → List ℕ → Tag → Type 0
AllHold tags set key tag =
    (replica : ℕ) → finite.contains set replica ≡ true → IsNoGreater tag (tags replica key)

-- a put quorum holds at least that tag for the key
pub record QuorumHolds (quorums : Quorums) (tags : Tags) (key : List ℕ) (tag : Tag) : Type 0 where
  pub quorum : Replicas
  pub is_quorum : is_put_quorum quorums quorum ≡ true
  pub hold : AllHold tags quorum key tag

-- a message in flight: a query and a put name a call that is begun, and a put carries a good pair
-- with that call's noted tag; a replica that told its pair, or that it keeps one, still holds at
-- least that tag
pub data MessageSound (rows : List Row) (tags : Tags) : Message → Type 0 where
  SoundQuery : {replica : ℕ} {op : OpId} {key : List ℕ} → Invoked rows op key
      → MessageSound rows tags (ToReplica replica (request.Query op key))
  SoundPut : {replica : ℕ} {op : OpId} {key : List ℕ} {tag : Tag} {value : Option (List ℕ)}
      → Invoked rows op key → Noted rows op tag
      → IsGood rows key (record { tag = tag; value = value })
      → MessageSound rows tags (ToReplica replica (request.Put op key tag value))
  SoundHeld : {client : ℕ} {op : OpId} {replica : ℕ} {tag : Tag} {value : Option (List ℕ)}
      (key : List ℕ)
      → Invoked rows op key → IsGood rows key (record { tag = tag; value = value })
      → IsNoGreater tag (tags replica key)
      → MessageSound rows tags (ToClient client (Held op replica tag value))
  SoundKept : {client : ℕ} {op : OpId} {replica : ℕ} (key : List ℕ) (tag : Tag)
      → Invoked rows op key → Noted rows op tag → IsNoGreater tag (tags replica key)
      → MessageSound rows tags (ToClient client (Kept op replica))

-- a client's state: an idle one has completed its calls; one that asks has counted replicas that
-- hold at least the least tag that they told; one that puts has counted replicas that hold at least
-- the tag that it puts; for one that is ready, a put quorum holds the tag
pub data StateSound (quorums : Quorums) (rows : List Row) (tags : Tags) (client : ℕ) : State
    → Type 0 where
  SoundIdle : ((place : ℕ) (op : OpId) (key : List ℕ) (action : Action)
      → At rows place (Invoke op client key action) → Completed rows op)
      → StateSound quorums rows tags client Idle
  SoundAsking : {asking : Asking}
      → Pending rows client asking.call → NotNoted rows asking.call.op
      → IsGood rows asking.call.key asking.best
      → AllHold tags asking.counted asking.call.key asking.least
      → StateSound quorums rows tags client (Ask asking)
  SoundPutting : {chosen : Chosen} {counted : Replicas}
      → Pending rows client chosen.call → Noted rows chosen.call.op chosen.pair.tag
      → IsGood rows chosen.call.key chosen.pair
      → AllHold tags counted chosen.call.key chosen.pair.tag
      → StateSound quorums rows tags client (Put chosen counted)
  SoundReady : {chosen : Chosen}
      → Pending rows client chosen.call → Noted rows chosen.call.op chosen.pair.tag
      → IsGood rows chosen.call.key chosen.pair
      → QuorumHolds quorums tags chosen.call.key chosen.pair.tag
      → StateSound quorums rows tags client (Ready chosen)
  SoundStopped : StateSound quorums rows tags client Stopped

-- ---- a put quorum holds each completed call, and what it tells carries what precedes

-- what the replica tells the call: the tag of a reply in flight, or once the call has counted it
-- the greatest tag that the call was told
pub data Told (Flies : Message → Type 0) (IsIn : ℕ → State
    → Type 0) (op : OpId) (replica : ℕ) (tag : Tag) : Type 0 where
  InReply : (client : ℕ) (value : Option (List ℕ))
      → Flies (ToClient client (Held op replica tag value)) → Told Flies IsIn op replica tag
  InAsking : (client : ℕ) (asking : Asking) → IsIn client (Ask asking) → asking.call.op ≡ op
      → finite.contains asking.counted replica ≡ true → asking.best.tag ≡ tag
      → Told Flies IsIn op replica tag

-- a put quorum holds at least that tag for the key, and tells no lesser one to a call on it that
-- begins after the place
pub record QuorumTells (quorums : Quorums) (rows : List Row) (tags : Tags) (Flies : Message
    → Type 0) (IsIn : ℕ → State → Type 0) (place : ℕ) (key : List ℕ) (tag : Tag) : Type 0 where
  pub quorum : Replicas
  pub is_quorum : is_put_quorum quorums quorum ≡ true
  pub hold : AllHold tags quorum key tag
  pub told : (replica later : ℕ) (op : OpId) (client : ℕ) (action : Action) (found : Tag)
      → finite.contains quorum replica ≡ true → At rows later (Invoke op client key action)
      → place < later → Told Flies IsIn op replica found → IsNoGreater tag found

-- the invariant: of the rows of the record, the pair that each replica holds for each key, the
-- messages that fly, and the state that each client is in
pub record Sound (quorums : Quorums) (rows : List Row) (held : ℕ → List ℕ → Pair) (Flies : Message
    → Type 0) (IsIn : ℕ → State → Type 0) : Type 0 where
  pub lawful : IsLawful quorums
  pub recorded : RowsSound rows
  pub pairs : (replica : ℕ) (key : List ℕ) → IsGood rows key (held replica key)
  pub messages : (message : Message) → Flies message → MessageSound rows (tags_of held) message
  pub states : (client : ℕ) (state : State) → IsIn client state
      → StateSound quorums rows (tags_of held) client state
  -- a client that began a call is in some state
  pub joined : (p : ℕ) (op : OpId) (client : ℕ) (key : List ℕ) (action : Action)
      → At rows p (Invoke op client key action) → (state : State) × IsIn client state
  -- a put quorum holds the tag of each completed call, and tells no lesser one to a call on its key
  -- that begins later
  pub completed : (s p n : ℕ) (op : OpId) (client : ℕ) (returned : Returned) (key : List ℕ)
      (action : Action) (tag : Tag)
      → At rows s (Respond op returned) → At rows p (Invoke op client key action)
      → At rows n (Note op tag)
      → QuorumTells quorums rows (tags_of held) Flies IsIn s key tag
