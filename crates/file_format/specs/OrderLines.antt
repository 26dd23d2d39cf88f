-- What a JSON value says as a line of an order file: a key, and a piece of the order of its calls.
use Rattle.std.specs.Prelude.{ℕ, ◌^◌, List, Result, Ok, codes, map, nat_lt}
use Rattle.std.specs.List.{list_all}
use Rattle.serde_json.specs.Data.{Data}
use Rattle.tag.specs.declared.numbers.OpId.{OpId}
use Rattle.recorder.specs.declared.order.KeyOrder.{KeyOrder}
use Rattle.file_format.specs.declared.fault.LineFault.{LineFault}
use Rattle.counted_devices.specs.Answers.{◌>>=◌}
use Rattle.file_format.specs.Members.{text_at, numbers_at, needed_member, in_range, key_of}

-- the call of that number
abbrev pub op_at : ℕ → OpId
op_at call = record { 0 = call }

-- numbers of calls, each in its range
abbrev pub calls_of : List ℕ → Result (List OpId) LineFault
calls_of numbers = in_range (list_all (λ n. nat_lt n (2 ^ 32)) numbers) (map op_at numbers)

-- the key and the piece that the value says: first its members and their kinds, then their ranges
unfoldable pub piece_in : Data → Result KeyOrder LineFault
piece_in d = do
  text ← needed_member (text_at (codes "key") d)
  numbers ← needed_member (numbers_at (codes "order") d)
  key ← key_of text
  order ← calls_of numbers
  Ok (record { key = key; order = order })
