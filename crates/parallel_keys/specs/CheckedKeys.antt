-- The keys of histories and of orders, and what is checked of each.
use Rattle.std.specs.Prelude.{ℕ, ◌≡◌, ◌<◌, Bool, List, [], ◌∷◌, ◌++◌, Some, is_none, map, filter}
use Rattle.std.specs.Prelude.{slice_get, if◌then◌else◌}
use Rattle.std.specs.Str.{bytes_eq}
use Rattle.std.specs.Map.{lookup}
use Rattle.tag.specs.declared.numbers.OpId.{OpId}
use Rattle.recorder.specs.declared.part.Call.{Call}
use Rattle.recorder.specs.declared.order.KeyOrder.{KeyOrder}

-- no two of the orders are of one key
abbrev pub AreDistinct : List KeyOrder → Type 0
AreDistinct orders = (i j : ℕ) (a b : KeyOrder) → i < j → slice_get orders i ≡ Some a
    → slice_get orders j ≡ Some b → a.key ≡ b.key → ⊥

-- the order that the list gives for a key, the empty one where it gives none
abbrev pub given_order : List KeyOrder → List ℕ → List OpId
given_order [] key = []
given_order (one ∷ orders) key = if bytes_eq one.key key then one.order else given_order orders key

-- keys with their parts
abbrev pub KeyParts : Type 0
KeyParts = List (List ℕ × List Call)

-- the keys alone
abbrev pub keys_in : KeyParts → List (List ℕ)
keys_in parts = map (λ entry. entry.0) parts

-- those of several histories, one after another
abbrev pub all_parts : List KeyParts → KeyParts
all_parts [] = []
all_parts (own ∷ rest) = own ++ all_parts rest

-- what is checked: a key, with its part and its order
pub record CheckedKey : Type 0 where
  pub key : List ℕ
  pub part : List Call
  pub order : List OpId

-- a key that has a part, with the order that is given for it
abbrev pub recorded_key : List KeyOrder → List ℕ × List Call → CheckedKey
recorded_key orders entry =
    record { key = entry.0; part = entry.1; order = given_order orders entry.0 }

-- a key that only the orders have, which has no call
abbrev pub other_key : KeyOrder → CheckedKey
other_key one = record { key = one.key; part = []; order = one.order }

-- the order's key has no part
abbrev pub is_other : KeyParts → KeyOrder → Bool
is_other parts one = is_none (lookup (bytes_eq one.key) parts)

-- the keys that have parts, and then those that only the orders have
abbrev pub checked_keys : KeyParts → List KeyOrder → List CheckedKey
checked_keys parts orders =
    map (recorded_key orders) parts ++ map other_key (filter (is_other parts) orders)
