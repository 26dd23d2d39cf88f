-- Keys to check, and what is checked of them.
use Rattle.std.specs.Prelude.{ℕ, ◌≡◌, List, [], ◌∷◌, ◌++◌, Option, None, Some, Contains, length}
use Rattle.std.specs.Prelude.{map, filter, slice_get, option_map, if◌then◌else◌}
use Rattle.std.specs.Borrow.{Bor}
use Rattle.std.specs.Str.{bytes_eq}
use Rattle.tag.specs.declared.numbers.OpId.{OpId}
use Rattle.recorder.specs.declared.part.Call.{Call}
use Rattle.recorder.specs.declared.order.KeyOrder.{KeyOrder}
use Rattle.key_index.specs.Numbers.{EachOnce}
use Rattle.parallel_keys.specs.declared.collect_keys.CollectedKeys.{CollectedKeys}
use Rattle.parallel_keys.specs.declared.collect_keys.KeyToCheck.{KeyToCheck}
use Rattle.parallel_keys.specs.declared.collect_keys.NumberedKey.{NumberedKey}
use Rattle.parallel_keys.specs.declared.collect_keys.OrderTable.{OrderTable}
use Rattle.parallel_keys.specs.declared.key_list.KeyList.{KeyList}
use Rattle.parallel_keys.specs.CheckedKeys.{CheckedKey, KeyParts, is_other, keys_in, other_key}

-- what is checked of a key
abbrev pub what_of : KeyToCheck → CheckedKey
what_of own = record { key = own.key.now; part = own.part; order = own.order.now }

-- what is checked of the orders' keys that have no part
abbrev pub others_in : List (Bor KeyOrder) → List CheckedKey
others_in others = map other_key (map (λ one. one.now) others)

-- what is checked of the keys of a list
abbrev pub checked_in : KeyList → List CheckedKey
checked_in list = map what_of list.recorded.now ++ others_in list.others.now

-- the same of collected keys
abbrev pub collected_in : CollectedKeys → List CheckedKey
collected_in keys = map what_of keys.recorded.items ++ others_in keys.others.items

-- a key with its part
abbrev pub entry_of : NumberedKey → List ℕ × List Call
entry_of own = (own.key.now, own.part)

-- the two lists have the same keys
pub record HasKeys (keys others : List (List ℕ)) : Type 0 where
  pub of_others : (key : List ℕ) → Contains keys key → Contains others key
  pub all : (key : List ℕ) → Contains others key → Contains keys key

-- each key's number is its place in that list, which has the same keys
pub record AreNumbered (numbers : List (List ℕ)) (keys : List NumberedKey) : Type 0 where
  pub placed : (i : ℕ) (own : NumberedKey) → slice_get keys i ≡ Some own
      → slice_get numbers own.number ≡ Some own.key.now
  pub same : HasKeys numbers (keys_in (map entry_of keys))

-- the first order that the list gives for a key, if any
abbrev pub first_order : List KeyOrder → List ℕ → Option (List OpId)
first_order [] key = None
first_order (one ∷ orders) key =
    if bytes_eq one.key key then Some one.order else first_order orders key

-- keys, each once, and at each key's place the first order that the list gives for it, if any
pub record AreFirstOrders (keys : List (List ℕ)) (orders : List KeyOrder)
    (given : List (Option (Bor (List OpId)))) : Type 0 where
  pub once : EachOnce keys
  pub all : length given ≡ length keys
  pub each : (number : ℕ) (key : List ℕ) (order : Option (Bor (List OpId))) → slice_get keys number
      ≡ Some key → slice_get given number ≡ Some order → option_map (λ o. o.now) order
      ≡ first_order orders key

-- the first order of each of these keys, and the orders of all other keys as they come
pub record IsOrderTable (keys : List (List ℕ)) (orders : List KeyOrder) (table : OrderTable) :
    Type 0 where
  pub given : AreFirstOrders keys orders table.given.items
  pub others : (parts : KeyParts) → HasKeys keys (keys_in parts)
      → map (λ o. o.now) table.others.items ≡ filter (is_other parts) orders

-- the table of some orders becomes that of these and one more
abbrev pub AddsOrder : List (List ℕ) → KeyOrder → OrderTable → OrderTable → Type 0
AddsOrder keys one old new = (orders : List KeyOrder) → IsOrderTable keys orders old
    → IsOrderTable keys (orders ++ one ∷ []) new
