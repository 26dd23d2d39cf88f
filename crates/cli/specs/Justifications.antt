-- Orders that the notes of a history give its keys.
use Rattle.std.specs.Prelude.{ℕ, ◌≡◌, List, [], ◌∷◌, ◌++◌, Some, length, codes}
use Rattle.std.specs.Prelude.{decimal, slice_get}
use Rattle.tag.specs.declared.numbers.OpId.{OpId}
use Rattle.recorder.specs.declared.part.Call.{Call}
use Rattle.recorder.specs.declared.order.KeyOrder.{KeyOrder}
use Rattle.recorder.specs.Histories.{Recorded}
use Rattle.recorder.specs.Halls.{RecordedHalls}
use Rattle.recorder.specs.Orders.{IsOrder}
use Rattle.recorder.specs.Sound.{IsByTag}
use Rattle.witness_order.specs.Notes.{AllNoted, IsLeastUnnoted}
use Rattle.certificate_check.specs.Verdicts.{IsFault}
use Rattle.counted_devices.specs.DeviceStates.{DeviceStates}
use Rattle.parallel_keys.specs.Histories.{AreHallParts}
use Rattle.parallel_keys.specs.CheckedKeys.{KeyParts, all_parts}
use Rattle.file_format.specs.Texts.{orders_text}
use Rattle.cli.specs.declared.noted_orders.Unjustified.{Unjustified}
use Rattle.cli.specs.declared.noted_orders.Unjustified.TheVariants as unjustified
use Rattle.cli.specs.declared.status.Status.{Status}
use Rattle.cli.specs.declared.status.Status.TheVariants as status
use Rattle.cli.specs.Devices.{FileStates, ReceivesOrFails, WriterStates}
use Rattle.cli.specs.Outcomes.{Ends}
use Rattle.cli.specs.Readings.{ReadsHistories}
use Rattle.cli.specs.Reports.{StopsHistory}
use Rattle.certificate_check.specs.Texts.{fault_text}
use Rattle.cli.specs.declared.outcome.Found.{Found}
use Rattle.cli.specs.declared.outcome.Found.TheVariants as found
use Rattle.cli.specs.declared.outcome.Outcome.{Outcome}

-- a key with its part
abbrev pub KeyPart : Type 0
KeyPart = List ℕ × List Call

-- the order is the key's, sorted by the tags of its part, and an order of the part
pub record IsJustifiedOrder (entry : KeyPart) (order : KeyOrder) : Type 0 where
  pub same_key : order.key ≡ entry.0
  pub by_tag : IsByTag entry.1 order.order
  pub ordered : IsOrder entry.1 order.order

-- the orders are those of the keys with these parts, one by one
pub record AreJustified (parts : List KeyPart) (orders : List KeyOrder) : Type 0 where
  pub all : length orders ≡ length parts
  pub each : (i : ℕ) (entry : KeyPart) (order : KeyOrder) → slice_get parts i ≡ Some entry
      → slice_get orders i ≡ Some order → IsJustifiedOrder entry order

-- why the key has no such order: that is its least completed call without a note, or its tag order
-- has that fault; out of memory comes only if each completed call has a note
abbrev pub IsUnjustified : KeyPart → Unjustified → Type 0
IsUnjustified entry (unjustified.NoNote key op) = (key.now ≡ entry.0) × IsLeastUnnoted entry.1 op
IsUnjustified entry (unjustified.NoOrder key fault) = (key.now ≡ entry.0)
    × ((order : List OpId) × IsByTag entry.1 order × IsFault entry.1 order fault)
IsUnjustified entry unjustified.Memory = AllNoted entry.1

-- the keys before it have their orders, and it has none, for that reason
pub record IsFirstUnjustified (parts : List KeyPart) (refusal : Unjustified) : Type 0 where
  pub before : List KeyPart
  pub entry : KeyPart
  pub behind : List KeyPart
  pub split : parts ≡ before ++ entry ∷ behind
  pub orders : List KeyOrder
  pub justified : AreJustified before orders
  pub refused : IsUnjustified entry refusal

-- a key without an order is refused; out of memory is a failure
abbrev pub status_of_refusal : Unjustified → Status
status_of_refusal (unjustified.NoNote key op) = status.Refused
status_of_refusal (unjustified.NoOrder key fault) = status.Refused
status_of_refusal unjustified.Memory = status.Failed

-- the line that says that the call on the key has no note
unfoldable pub no_note_text : List ℕ → OpId → List ℕ
no_note_text key op =
    codes "abd: key " ++ key ++ codes ": no note for call " ++ decimal op.0 ++ codes "\n"

-- the line that says why a key has no order
unfoldable pub refusal_text : Unjustified → List ℕ
refusal_text (unjustified.NoNote key op) = no_note_text key.now op
refusal_text (unjustified.NoOrder key fault) =
    codes "abd: key " ++ key.now ++ codes ": no " ++ fault_text fault ++ codes "\n"
refusal_text unjustified.Memory = codes "abd: no memory\n"

-- the line of a refused key went out to standard error; of out of memory no more is said
abbrev pub Refuses : Unjustified → DeviceStates → Status → Type 0
Refuses refusal errors status.Refused =
    (status_of_refusal refusal ≡ status.Refused) × ReceivesOrFails errors (refusal_text refusal)
Refuses refusal errors status.Failed = Unit {0}
Refuses refusal errors s = ⊥

-- the text is that of the orders of the keys with these parts
pub record HaveOrders (parts : List KeyPart) (text : List ℕ) : Type 0 where
  pub orders : List KeyOrder
  pub justified : AreJustified parts orders
  pub is : text ≡ orders_text orders

-- no text; and the line says why the first key without an order has none
pub record RefusesFirst (parts : List KeyPart) (text line : List ℕ) : Type 0 where
  pub refusal : Unjustified
  pub first : IsFirstUnjustified parts refusal
  pub refused : status_of_refusal refusal ≡ status.Refused
  pub quiet : text ≡ []
  pub is : line ≡ refusal_text refusal

-- what a justification makes of keys with these parts: it is good if each has an order, with the
-- text of the orders; or else it refuses the first key without one
abbrev pub Justifies : List KeyPart → Found → List ℕ → List ℕ → Type 0
Justifies parts found.Good text notes = HaveOrders parts text × (notes ≡ [])
Justifies parts found.Refused text notes = RefusesFirst parts text notes
Justifies parts found.Undecided text notes = ⊥

module _ (Makes : List KeyPart → Found → List ℕ → List ℕ → Type 0) where
  -- the keys of the histories, hall by hall, have these parts, and that is made of them
  pub record OfHalls (halls : List Recorded) (outcome : Outcome) : Type 0 where
    pub parts : List KeyParts
    pub split : AreHallParts halls parts
    pub makes : Makes (all_parts parts) outcome.found outcome.text.items outcome.notes.items

  -- the file was read, and that is made of its histories
  pub record OfFile (history : DeviceStates) (outcome : Outcome) : Type 0 where
    pub histories : RecordedHalls
    pub read : ReadsHistories history histories
    pub makes : OfHalls histories.halls outcome

  -- how a command ends that makes that of a history's keys
  abbrev pub EndsOfFile : {W E : Type 0} → FileStates → WriterStates W → WriterStates E → Status
      → Type 0
  EndsOfFile history out errors s =
      Ends (OfFile history.reader) (StopsHistory history) out errors s
