-- What words say, read one after another: a word that is missing, or one too many, is a fault.
use Rattle.std.specs.Prelude.{ℕ, ◌&&◌, List, [], ◌∷◌, Bool, Option, Some, None, Result, Ok, Err}
use Rattle.std.specs.Prelude.{nat_le, bytes_eq, if◌then◌else◌}
use Rattle.tag.specs.Limits.{client_limit}
use Rattle.tag.specs.Names.{is_key, is_value}
use Rattle.tag.specs.declared.names.NameError.{NameError}
use Rattle.tag.specs.declared.names.NameError.TheVariants as reason
use Rattle.counted_devices.specs.Answers.{◌>>=◌}
use Rattle.counted_devices.specs.declared.read_fault.Stop.{Stop}
use Rattle.counted_devices.specs.declared.read_fault.Stop.TheVariants as stop
use Rattle.fault_script.specs.declared.fault.LineFault.{LineFault}
use Rattle.fault_script.specs.declared.fault.LineFault.TheVariants.{UnknownCommand, Range}
use Rattle.fault_script.specs.Words.{number_of}

-- the next word, and those after it
unfoldable pub needed_word : List (List ℕ) → Result (List ℕ × List (List ℕ)) LineFault
needed_word [] = Err UnknownCommand
needed_word (word ∷ others) = Ok (word, others)

-- no word is left
unfoldable pub nothing_more : List (List ℕ) → Result (Unit {0}) LineFault
nothing_more [] = Ok tt
nothing_more (word ∷ others) = Err UnknownCommand

-- the next word is that one
unfoldable pub needed_text : List ℕ → List (List ℕ) → Result (List (List ℕ)) LineFault
needed_text text words = do
  word ← needed_word words
  if bytes_eq word.0 text then Ok word.1 else Err UnknownCommand

-- the next word is a number
unfoldable pub needed_number : List (List ℕ) → Result (Option ℕ × List (List ℕ)) LineFault
needed_number words = do
  word ← needed_word words
  number ← number_of word.0
  Ok (number, word.1)

-- the next word, where there is one, is a number
unfoldable pub number_or : ℕ → List (List ℕ) → Result (Option ℕ × List (List ℕ)) LineFault
number_or default [] = Ok (Some default, [])
number_or default (word ∷ others) = needed_number (word ∷ others)

-- one number is all
unfoldable pub one_number : List (List ℕ) → Result (Option ℕ) LineFault
one_number words = do
  number ← needed_number words
  nothing ← nothing_more number.1
  Ok number.0

-- what is outside its range is a fault
abbrev pub in_range : {X : Type 0} → Bool → X → Result X LineFault
in_range fits x = if fits then Ok x else Err Range

-- a number outside its range is a fault
unfoldable pub within : ℕ → ℕ → Option ℕ → Result ℕ LineFault
within least most None = Err Range
within least most (Some n) = in_range (nat_le least n && nat_le n most) n

-- the greatest number of a replica
abbrev pub last_replica : ℕ
last_replica = 14

-- the greatest number of a message
abbrev pub last_flight : ℕ
last_flight = 4294967295

-- a client's name, in its range
abbrev pub client_of : Option ℕ → Result ℕ LineFault
client_of number = within 1 client_limit number

-- a replica's number, in its range
abbrev pub replica_of : Option ℕ → Result ℕ LineFault
replica_of number = within 0 last_replica number

-- a message's number, in its range
abbrev pub flight_of : Option ℕ → Result ℕ LineFault
flight_of number = within 0 last_flight number

-- a name that was made of a word; a word of which none can be made is outside its range
abbrev pub named : {X : Type 0} → Result X NameError → Result X (Stop LineFault)
named (Ok name) = Ok name
named (Err reason.Memory) = Err stop.Memory
named (Err other) = Err (stop.Fault Range)

-- a key, in its range
abbrev pub key_of : List ℕ → Result (List ℕ) LineFault
key_of key = in_range (is_key key) key

-- a value, in its range
abbrev pub value_of : List ℕ → Result (List ℕ) LineFault
value_of value = in_range (is_value value) value
