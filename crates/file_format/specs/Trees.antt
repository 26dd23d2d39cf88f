-- The tree that a text is, before its numbers are read.
use Rattle.std.specs.Prelude.{ℕ, ◌≡◌, ◌&&◌, List, Bool, true, Option, Some, None, Result, Ok, Err}
use Rattle.std.specs.Prelude.{[], ◌∷◌, is_some, option_map, option_and_then}
use Rattle.json.specs.Json.{Json, null, boolean, number, string, array, object, Items, no_items}
use Rattle.json.specs.Json.{item, Members, no_members, member, value, if_last}
use Rattle.json.specs.Find.{as_number}
use Rattle.json.specs.Lex.{tokens}
use Rattle.json.specs.Value.{value_view}
use Rattle.json.specs.declared.value.Value.{Value}
use Rattle.std.specs.declared.alloc.Global.{Global}
use Rattle.serde_json.specs.Find.{as_u64}
use Rattle.serde_json.specs.Read.{number_of, max_depth}
use Rattle.file_format.specs.declared.fault.LineFault.TheVariants.{NotJson}
use Rattle.file_format.specs.Faults.{LineStop}
use Rattle.counted_devices.specs.declared.read_fault.Stop.TheVariants as stop

-- the tree of a whole text
abbrev pub tree_in : List ℕ → Option Json
tree_in text = option_and_then (λ p. if_last p.0 p.1) (value max_depth (tokens text))

-- each number in it is in the range of numbers that are read
abbrev mutual
  pub has_numbers : Json → Bool
  has_numbers null = true
  has_numbers (boolean b) = true
  has_numbers (number s) = is_some (number_of s)
  has_numbers (string s) = true
  has_numbers (array js) = items_have_numbers js
  has_numbers (object ms) = members_have_numbers ms

  pub items_have_numbers : Items → Bool
  items_have_numbers no_items = true
  items_have_numbers (item j js) = has_numbers j && items_have_numbers js

  pub members_have_numbers : Members → Bool
  members_have_numbers no_members = true
  members_have_numbers (member k j ms) = has_numbers j && members_have_numbers ms

-- the number of 64 bits that it is
abbrev pub unsigned_of : Json → Option ℕ
unsigned_of j = option_and_then as_u64 (option_and_then number_of (as_number j))

-- the numbers that all the items are
abbrev pub all_unsigned : Items → Option (List ℕ)
all_unsigned no_items = Some []
all_unsigned (item j js) =
    option_and_then (λ n. option_map (λ ns. n ∷ ns) (all_unsigned js)) (unsigned_of j)

-- the text's tree was read, or it has none, or memory ran out
abbrev pub IsTree : List ℕ → Result (Value Global) LineStop → Type 0
IsTree text (Ok v) = tree_in text ≡ Some (value_view v)
IsTree text (Err (stop.Fault NotJson)) = tree_in text ≡ None
IsTree text (Err (stop.Fault fault)) = ⊥
IsTree text (Err stop.Memory) = Unit {0}
