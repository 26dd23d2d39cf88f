-- The part of a key in a history: the calls on the key, as the rows record them.
use Rattle.std.specs.Prelude.{ℕ, ◌≡◌, ◌<◌, ◌↔◌, List, Some, slice_get, Contains}
use Rattle.tag.specs.declared.actions.Action.{Action}
use Rattle.tag.specs.declared.actions.Returned.{Returned}
use Rattle.tag.specs.declared.numbers.OpId.{OpId}
use Rattle.tag.specs.Tags.{Tag}
use Rattle.recorder.specs.declared.row.Row.{Row}
use Rattle.recorder.specs.declared.row.Row.TheVariants.{Invoke, Note, Respond}
use Rattle.recorder.specs.declared.part.Call.{Call}

-- the call is what the rows say of it: its invocation, its note and its response
pub record IsRecorded (rows : List Row) (key : List ℕ) (call : Call) : Type 0 where
  pub begun : slice_get rows call.invoked ≡ Some (Invoke call.op call.client key call.action)
  pub noted : (tag : Tag) → (call.note ≡ Some tag) ↔ Contains rows (Note call.op tag)
  pub answered : (place : ℕ) (returned : Returned)
      → (call.response ≡ Some (record { place = place; returned = returned }))
      ↔ (slice_get rows place ≡ Some (Respond call.op returned))

-- the part of a key: the calls on it, each as it is recorded, in the order of their invocations
pub record IsPart (rows : List Row) (key : List ℕ) (part : List Call) : Type 0 where
  pub each : (call : Call) → Contains part call → IsRecorded rows key call
  pub all : (place : ℕ) (op : OpId) (client : ℕ) (action : Action) → slice_get rows place
      ≡ Some (Invoke op client key action) → (call : Call) × Contains part call
      × (call.invoked ≡ place)
  pub ordered : (i j : ℕ) (a b : Call) → i < j → slice_get part i ≡ Some a → slice_get part j
      ≡ Some b → a.invoked < b.invoked

-- a call on the key is begun at that place
abbrev pub BeginsAt : List Row → List ℕ → ℕ → Type 0
BeginsAt rows key place = (op : OpId) × (client : ℕ) × (action : Action)
    × (slice_get rows place ≡ Some (Invoke op client key action))

-- the first call on the key is begun at that place
pub record IsFirstSeen (rows : List Row) (key : List ℕ) (place : ℕ) : Type 0 where
  pub begins : BeginsAt rows key place
  pub first : (earlier : ℕ) → earlier < place → BeginsAt rows key earlier → ⊥

-- the keys on which the rows begin calls, in the order in which they are first seen
pub record AreFirstSeen (rows : List Row) (keys : List (List ℕ)) : Type 0 where
  pub all : (key : List ℕ) (place : ℕ) → BeginsAt rows key place → Contains keys key
  pub seen : (k : ℕ) (key : List ℕ) → slice_get keys k ≡ Some key → (place : ℕ)
      × IsFirstSeen rows key place
  pub ordered : (i j : ℕ) (k l : List ℕ) (m n : ℕ) → i < j → slice_get keys i ≡ Some k
      → slice_get keys j ≡ Some l → IsFirstSeen rows k m → IsFirstSeen rows l n → m < n

-- the parts of a history: for each key on which a call is begun its part, in the order in which
-- the keys are first seen
pub record AreParts (rows : List Row) (parts : List (List ℕ × List Call)) : Type 0 where
  pub each : (key : List ℕ) (part : List Call) → Contains parts (key, part) → IsPart rows key part
  pub all : (key : List ℕ) (place : ℕ) → BeginsAt rows key place → (part : List Call)
      × Contains parts (key, part)
  pub seen : (key : List ℕ) (part : List Call) → Contains parts (key, part) → (place : ℕ)
      × IsFirstSeen rows key place
  pub ordered : (i j : ℕ) (k l : List ℕ) (p q : List Call) (m n : ℕ) → i < j → slice_get parts i
      ≡ Some (k, p) → slice_get parts j ≡ Some (l, q) → IsFirstSeen rows k m → IsFirstSeen rows l n
      → m < n

-- what contracts see of parts by key: each key with its part
pub record KeyedParts : Type 0 where
  pub entries : List (List ℕ × List Call)
