-- Orders of a whole record's calls: what one order of all keys is (Herlihy and Wing 1990, sections
-- 2.3 and 3.1). Reads answer by the writes on their key, as in an order of one key's part; calls
-- precede each other as the record says, whatever their keys.
use Rattle.std.specs.Prelude.{ℕ, ◌≡◌, ◌≢◌, ◌<◌, List, Some, length, slice_get}
use Rattle.tag.specs.declared.actions.Action.TheVariants.{Read}
use Rattle.tag.specs.declared.numbers.OpId.{OpId}
use Rattle.recorder.specs.declared.row.Row.{Row}
use Rattle.recorder.specs.declared.part.Call.{Call}
use Rattle.recorder.specs.Parts.{IsCompleted, IsPending, Precedes}
use Rattle.recorder.specs.Records.{IsPart, IsRecorded}
use Rattle.recorder.specs.Orders.{IsLegal}

module _ (rows : List Row) (order : List OpId) where
  -- the rows record the call, on some key, and the order has its number at place i
  pub record StandsIn (i : ℕ) (call : Call) : Type 0 where
    pub listed : slice_get order i ≡ Some call.op
    pub key : List ℕ
    pub recorded : IsRecorded rows key call

  -- an order of the store: a list of the record's calls on all keys, none twice, every completed
  -- call among them, every other one a pending write, legal for the register of each key, and no
  -- call preceded by one that stands later, whatever their keys
  pub record IsStoreOrder : Type 0 where
    pub known : (i : ℕ) → i < length order → (call : Call) × StandsIn i call
    pub once : (i j : ℕ) → i < j → j < length order → slice_get order i ≢ slice_get order j
    pub complete : (key : List ℕ) (call : Call) → IsRecorded rows key call → IsCompleted call
        → (i : ℕ) × StandsIn i call
    pub writes : (i : ℕ) (call : Call) → StandsIn i call → IsPending call → call.action ≢ Read
    pub legal : (key : List ℕ) (part : List Call) → IsPart rows key part → IsLegal part order
    pub precedence : (i j : ℕ) (a b : Call) → i < j → StandsIn i a → StandsIn j b → Precedes b a → ⊥

-- some list is an order of the store
abbrev pub IsLinearizableStore : List Row → Type 0
IsLinearizableStore rows = (order : List OpId) × IsStoreOrder rows order
