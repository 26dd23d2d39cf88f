-- What calls are sorted by.
use Rattle.std.specs.Prelude.{◌≡◌, List, Option, Some, None, true, false, map, filter_map}
use Rattle.std.specs.Prelude.{IsPermutation, IsSorted}
use Rattle.std.specs.Ordering.{nat_cmp, bool_cmp, then_cmp, on}
use Rattle.std.specs.declared.cmp.Ordering.{Ordering}
use Rattle.tag.specs.declared.actions.Action.{Action}
use Rattle.tag.specs.declared.actions.Action.TheVariants.{Read, Write}
use Rattle.tag.specs.declared.numbers.OpId.{OpId}
use Rattle.tag.specs.Tags.{Tag, tag_cmp}
use Rattle.recorder.specs.declared.part.Call.{Call}
use Rattle.recorder.specs.declared.part.Response.{Response}
use Rattle.witness_order.specs.declared.sort_key.SortKey.{SortKey}

-- the key of a call of these parts
abbrev pub key_from : OpId → Action → Option Tag → Option Response → Option SortKey
key_from op action None response = None
key_from op (Write value) (Some tag) response =
    Some (record { tag = tag; is_read = false; op = op })
key_from op Read (Some tag) (Some response) = Some (record { tag = tag; is_read = true; op = op })
key_from op Read (Some tag) None = None

-- what a call is sorted by, if it is settled and has a note
abbrev pub key_of : Call → Option SortKey
key_of call = key_from call.op call.action call.note call.response

-- the order of keys: by tag, a write before a read, then by number
abbrev pub key_cmp : SortKey → SortKey → Ordering
key_cmp = then_cmp (on (λ k. k.tag) tag_cmp)
    (then_cmp (on (λ k. k.is_read) bool_cmp) (on (λ k. k.op.0) nat_cmp))

-- the order has the numbers of the part's settled calls, sorted by their keys
pub record IsSortedByKeys (part : List Call) (order : List OpId) : Type 0 where
  pub keys : List SortKey
  pub settled : IsPermutation (filter_map key_of part) keys
  pub sorted : IsSorted key_cmp keys
  pub numbers : order ≡ map (λ key. key.op) keys
