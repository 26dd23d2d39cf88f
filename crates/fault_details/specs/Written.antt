-- How a value stands in a line, and what is said of numbers that aren't natural.
use Rattle.std.specs.Prelude.{ℕ, ◌≡◌, ◌⊎◌, ◌==◌, ◌||◌, ◌&&◌, List, [], ◌++◌, Bool, true, false}
use Rattle.std.specs.Prelude.{Option, Some, None, codes, is_some, option_map, unwrap_or}
use Rattle.std.specs.Prelude.{if◌then◌else◌, MatchBool}
use Rattle.std.specs.List.{list_any}
use Rattle.serde_json.specs.Data.{Data, Items, no_items, item}
use Rattle.serde_json.specs.Find.{as_array, as_number, is_float}
use Rattle.serde_json.specs.Written.{compact_text, has_float}
use Rattle.row_members.specs.Values.{IsJson}
use Rattle.fault_details.specs.declared.demand.Allowed.{Allowed}
use Rattle.fault_details.specs.declared.demand.Allowed.TheVariants as allowed

-- the bytes stand somewhere in the line
pub record IsPart (line part : List ℕ) : Type 0 where
  pub before : List ℕ
  pub after : List ℕ
  pub place : line ≡ before ++ (part ++ after)

-- a number with a fraction, an exponent or more digits than 64 bits hold
abbrev pub is_fraction : Data → Bool
is_fraction d = unwrap_or (option_map is_float (as_number d)) false

-- one of the items is such a number
abbrev pub is_fraction_there : Items → Bool
is_fraction_there no_items = false
is_fraction_there (item d ds) = is_fraction d || is_fraction_there ds

-- the items have one, or else the value is one
abbrev pub fraction_in : Option Items → Data → Bool
fraction_in None d = is_fraction d
fraction_in (Some ds) d = is_fraction_there ds

-- the value is such a number, or an array that has one
abbrev pub has_fraction : Data → Bool
has_fraction d = fraction_in (as_array d) d

-- the bytes stand in the line and are JSON of such a number, or of an array that has one; or that
-- there is none is said
abbrev pub IsFractionIn : List ℕ → List ℕ → Type 0
IsFractionIn line text =
    (IsPart line text × (d : Data) × IsJson text d × (has_fraction d ≡ true))
    ⊎ (text ≡ codes "no natural number")

-- the value as it is written: such a number, and an array that has one, as it stands in the line,
-- others as a JSON text, which is given for values without a fraction
abbrev pub IsWritten : List ℕ → Data → List ℕ → Type 0
IsWritten line d text = MatchBool (has_fraction d) (IsFractionIn line text)
    (has_float d ≡ false → text ≡ compact_text d)

-- the text has one of '-', '.', 'E' and 'e'
abbrev pub is_unnatural : List ℕ → Bool
is_unnatural text = list_any (λ b. b == 45 || b == 46 || b == 69 || b == 101) text

-- all items are numbers
abbrev pub are_numbers : Items → Bool
are_numbers no_items = true
are_numbers (item d ds) = is_some (as_number d) && are_numbers ds

-- a number, or numbers, are allowed
abbrev pub asks_numbers : Allowed → Bool
asks_numbers (allowed.Number least most) = true
asks_numbers allowed.OfVotes = true
asks_numbers (allowed.BesideAsk most) = true
asks_numbers allowed.Votes = true
asks_numbers allowed.Calls = true
asks_numbers other = false

-- what is said of a number, or of an array of numbers, that is written with a sign, a fraction or
-- an exponent
abbrev pub unnatural_text : Option Items → Bool → List ℕ
unnatural_text None is_number = if is_number then codes ", which is no natural number" else []
unnatural_text (Some ds) is_number =
    if are_numbers ds then codes ", which are not all natural numbers" else []

-- the same of a value, written so
abbrev pub value_note : Data → List ℕ → List ℕ
value_note d text =
    if is_unnatural text then unnatural_text (as_array d) (is_some (as_number d)) else []

-- the same, where numbers are allowed
abbrev pub note_text : Allowed → Data → List ℕ → List ℕ
note_text a d text = if asks_numbers a then value_note d text else []
