-- Members of a JSON value, and what is said of one: a member is there and of its kind, a number or
-- a text is in its range.
use Rattle.std.specs.Prelude.{ℕ, ◌^◌, ◌&&◌, List, [], ◌∷◌, Bool, Option, Some, None, Result}
use Rattle.std.specs.Prelude.{Ok, Err, option_and_then, option_map, nat_lt, nat_le, if◌then◌else◌}
use Rattle.serde_json.specs.Data.{Data, Items, no_items, item}
use Rattle.serde_json.specs.Find.{get, as_number, as_u64, as_str, as_array}
use Rattle.tag.specs.declared.numbers.OpId.{OpId}
use Rattle.tag.specs.Limits.{call_limit, client_limit}
use Rattle.tag.specs.Names.{is_key, is_value}
use Rattle.tag.specs.Tags.{Tag}
use Rattle.file_format.specs.declared.fault.LineFault.{LineFault}
use Rattle.file_format.specs.declared.fault.LineFault.TheVariants.{Member, Range}

-- the text, or the number, that is the value's member of that name
abbrev pub text_at : List ℕ → Data → Option (List ℕ)
text_at name d = option_and_then as_str (get name d)

-- the number below 2^64 without a sign that the value is
abbrev pub number_of : Data → Option ℕ
number_of d = option_and_then as_u64 (as_number d)

-- such a number that is the member of that name
abbrev pub number_at : List ℕ → Data → Option ℕ
number_at name d = option_and_then as_u64 (option_and_then as_number (get name d))

-- the numbers that all the items are
abbrev pub numbers_in : Items → Option (List ℕ)
numbers_in no_items = Some []
numbers_in (item d ds) =
    option_and_then (λ n. option_map (λ ns. n ∷ ns) (numbers_in ds)) (number_of d)

-- the numbers that are the items of the member of that name
abbrev pub numbers_at : List ℕ → Data → Option (List ℕ)
numbers_at name d = option_and_then numbers_in (option_and_then as_array (get name d))

-- a member that is missing or of the wrong kind is a fault
abbrev pub needed_member : {X : Type 0} → Option X → Result X LineFault
needed_member None = Err Member
needed_member (Some x) = Ok x

-- what is outside its range is a fault
abbrev pub in_range : {X : Type 0} → Bool → X → Result X LineFault
in_range fits x = if fits then Ok x else Err Range

-- the number of a call, 0 to 4,294,967,295
abbrev pub op_of : ℕ → Result OpId LineFault
op_of call = in_range (nat_lt call (2 ^ 32)) (record { 0 = call })

-- the name of a client, 1 to 65,535
abbrev pub client_of : ℕ → Result ℕ LineFault
client_of client = in_range (nat_le 1 client && nat_le client client_limit) client

-- a key: 1 to 64 letters, digits, dots, underscores and dashes
abbrev pub key_of : List ℕ → Result (List ℕ) LineFault
key_of key = in_range (is_key key) key

-- a value, of at most 256 bytes
abbrev pub value_of : List ℕ → Result (List ℕ) LineFault
value_of value = in_range (is_value value) value

-- a tag: a number of at most 1,000,000, and a writer of at most 65,535
abbrev pub tag_of : ℕ → ℕ → Result Tag LineFault
tag_of number writer = in_range (nat_le number call_limit && nat_le writer client_limit)
    (record { number = number; writer = writer })
