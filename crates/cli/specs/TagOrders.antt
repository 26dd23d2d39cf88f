-- The orders that the tags of a history make, without a check of them.
use Rattle.std.specs.Prelude.{ℕ, ◌≡◌, ◌==◌, ◌+◌, Bool, true, false, List, [], ◌∷◌, ◌++◌}
use Rattle.tag.specs.declared.numbers.OpId.{OpId}
use Rattle.recorder.specs.declared.order.KeyOrder.{KeyOrder}
use Rattle.recorder.specs.Sound.{IsByTag}
use Rattle.witness_order.specs.Notes.{IsLeastUnnoted}
use Rattle.file_format.specs.Texts.{orders_text}
use Rattle.cli.specs.Justifications.{Justifies, KeyPart, no_note_text}
use Rattle.cli.specs.Outcomes.{found_of}
use Rattle.cli.specs.declared.outcome.Found.{Found}
use Rattle.cli.specs.declared.tag_orders.TagOrders.{TagOrders}

-- what the tags make of a key: an order; or none, since that call on it has no note
pub data Tagged : Type 0 where
  Ordered : (order : KeyOrder) → Tagged
  LeftOut : (key : List ℕ) (op : OpId) → Tagged

-- the order is the key's, sorted by the tags of its part
pub record IsTagOrder (entry : KeyPart) (order : KeyOrder) : Type 0 where
  pub same_key : order.key ≡ entry.0
  pub by_tag : IsByTag entry.1 order.order

-- the tags make that of the key with its part: its tag order; or none, if that is its least
-- completed call without a note
abbrev pub IsTagged : KeyPart → Tagged → Type 0
IsTagged entry (Ordered order) = IsTagOrder entry order
IsTagged entry (LeftOut key op) = (key ≡ entry.0) × IsLeastUnnoted entry.1 op

-- the tags make these of the keys with these parts, one by one
abbrev pub AreTagged : List KeyPart → List Tagged → Type 0
AreTagged [] [] = Unit {0}
AreTagged (entry ∷ parts) (one ∷ tagged) = IsTagged entry one × AreTagged parts tagged
AreTagged parts tagged = ⊥

-- the orders of the keys that have one
abbrev pub orders_of : List Tagged → List KeyOrder
orders_of [] = []
orders_of (Ordered order ∷ tagged) = order ∷ orders_of tagged
orders_of (LeftOut key op ∷ tagged) = orders_of tagged

-- a line for each key that is left out
abbrev pub left_out_text : List Tagged → List ℕ
left_out_text [] = []
left_out_text (Ordered order ∷ tagged) = left_out_text tagged
left_out_text (LeftOut key op ∷ tagged) = no_note_text key op ++ left_out_text tagged

-- how many keys are left out
abbrev pub left_out_count : List Tagged → ℕ
left_out_count [] = 0
left_out_count (Ordered order ∷ tagged) = left_out_count tagged
left_out_count (LeftOut key op ∷ tagged) = left_out_count tagged + 1

-- what the tags make of keys with these parts: the text of the orders of those that have one, and a
-- line for each that is left out; it is good if none is
pub record OrdersKeys (parts : List KeyPart) (found : Found) (text notes : List ℕ) : Type 0 where
  pub tagged : List Tagged
  pub are : AreTagged parts tagged
  pub is : found ≡ found_of (left_out_count tagged == 0)
  pub orders : text ≡ orders_text (orders_of tagged)
  pub lines : notes ≡ left_out_text tagged

-- what `abd justify` makes of keys with these parts: what the tags make, if the orders go
-- unchecked, and else what a justification makes
abbrev pub MakesOrders : Bool → List KeyPart → Found → List ℕ → List ℕ → Type 0
MakesOrders true = OrdersKeys
MakesOrders false = Justifies

-- the orders and the lines are what the tags make of the keys with these parts
pub record AreMade (parts : List KeyPart) (made : TagOrders) : Type 0 where
  pub tagged : List Tagged
  pub are : AreTagged parts tagged
  pub orders : made.orders.items ≡ orders_of tagged
  pub lines : made.left_out.items ≡ left_out_text tagged
