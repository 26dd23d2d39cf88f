-- What the words after a command's name ask for, by clap's reading of a simple command: of each
-- word what stands in its place or after it, or else its default.
use Rattle.std.specs.Prelude.{ℕ, ◌≡◌, List, [], Some, Result, MatchResult, codes, unwrap_or}
use Rattle.std.specs.Borrow.{Bor}
use Rattle.std.specs.Str.Parse.{IsNumeral, digits_value, without_leading_plus}
use Rattle.clap.specs.Words.{Row, Text, all_of, first_of, found_of, one_of, rows_of}
use Rattle.clap.specs.declared.parser.matches.ArgMatches.{ArgMatches}
use Rattle.load.specs.Ranges.{IsIn}
use Rattle.load.specs.declared.ranges.NumberRange.{NumberRange}
use Rattle.command_line.specs.declared.fault.WordsFault.{WordsFault}
use Rattle.command_line.specs.declared.fault.WordsFault.TheVariants.{Memory}

-- the words after the command's name, as clap reads them
abbrev pub rows_in : ArgMatches → List Row
rows_in matches = rows_of (found_of matches)

-- nothing is asked for so
abbrev pub IsNone : {X : Type 0} → (X → Type 0) → Type 0
IsNone {X} P = (x : X) → P x → ⊥

-- nothing is, unless memory ran out
abbrev pub IsMissed : {X : Type 0} → (X → Type 0) → WordsFault → Type 0
IsMissed P fault = (fault ≡ Memory → ⊥) → IsNone P

-- the answer is what is asked for so; or nothing is
abbrev pub Finds : {X : Type 0} → Result X WordsFault → (X → Type 0) → Type 0
Finds found P = MatchResult found P (λ _. IsNone P)

-- the same, unless memory ran out
abbrev pub FindsOrLacks : {X : Type 0} → Result X WordsFault → (X → Type 0) → Type 0
FindsOrLacks found P = MatchResult found P (IsMissed P)

module _ (rows : List Row) (name : Text) where
  -- the text stands in the place of the argument, or after the option, or is its default
  abbrev pub Names : Bor Text → Type 0
  Names text = first_of name rows ≡ Some text.now

  -- the flag is given
  abbrev pub GivesFlag : Type 0
  GivesFlag = one_of name rows ≡ Some (codes "true")

  -- what stands after each option of that name, in their order
  abbrev pub texts_given : List Text
  texts_given = unwrap_or (all_of name rows) []

  -- what stands after the option is that number, and is in the range
  pub record AsksNumber (range : NumberRange) (number : ℕ) : Type 0 where
    pub text : Text
    pub given : one_of name rows ≡ Some text
    pub is_numeral : IsNumeral 10 (without_leading_plus text)
    pub value : digits_value 10 (without_leading_plus text) ≡ number
    pub within : IsIn range number
