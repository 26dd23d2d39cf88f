-- What stands after an option, and what is answered where nothing is asked for.
use Rattle.std.proofs.Common.{◌≡◌, ℕ, List, Option, Some, None, Result, Ok, Err, false, is_none, option_map, sym, subst, ◌∙◌}
use Rattle.std.specs.Borrow.{Bor}
use Rattle.std.specs.Result.{IsErrAnd}
use Rattle.std.proofs.lemmas.Option.{same_Some}
use Rattle.std.specs.Str.Parse.{digits_value, without_leading_plus}
use Rattle.clap.specs.Words.{Row, Text}
use Rattle.load.specs.declared.ranges.NumberRange.{NumberRange}
use Rattle.command_line.specs.Reading.{AsksNumber, Finds, FindsOrLacks, IsNone}
use Rattle.command_line.specs.declared.fault.WordsFault.{WordsFault}

-- what stands after an option is one number
pub one_number : (rows : List Row) (name : Text) (range other : NumberRange) (m n : ℕ) → AsksNumber rows name range m → AsksNumber rows name other n
    → m ≡ n
one_number rows name range other m n first second =
    let same : second.text ≡ first.text = same_Some second.text first.text (sym second.given ∙ first.given) in
    sym first.value ∙ subst (λ (t : Text). digits_value 10 (without_leading_plus t) ≡ n) same second.value

-- an option is there where its text is
pub some_there : (o : Option (Bor Text)) → is_none o ≡ false → option_map (λ s. s.now) o ≡ None → ⊥
some_there None is same = cc
some_there (Some s) is same = cc

-- an error that is passed on says that nothing is asked for
pub none_found : {X : Type 0} (E : WordsFault → Type 0) (r : Result X WordsFault) (P : X → Type 0) → IsErrAnd r E → IsNone P → Finds r P
none_found E (Ok x) P err none = absurd err
none_found E (Err fault) P err none = none

pub none_found_or_lacked : {X : Type 0} (E : WordsFault → Type 0) (r : Result X WordsFault) (P : X → Type 0) → IsErrAnd r E → IsNone P
    → FindsOrLacks r P
none_found_or_lacked E (Ok x) P err none = absurd err
none_found_or_lacked E (Err fault) P err none = λ _. none
