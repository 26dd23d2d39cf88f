-- The number of the matches is what `get_one` reads.
use Rattle.std.proofs.Common.{ℕ, ◌≡◌, ◌<◌, ◌^◌, Option, Some, None, List, refl, rules, sym, ◌∙◌, arith}
use Rattle.std.specs.Str.Parse.{IsNumeral, digits_value, without_leading_plus}
use Rattle.clap.specs.Words.{Row, Text, found_of, one_of, rows_of}
use Rattle.clap.proofs.WalkLemmas.{one_text-rows}
use Rattle.load.specs.Ranges.{IsIn}
use Rattle.load.specs.declared.ranges.NumberRange.{NumberRange}
use Rattle.command_line.specs.Reading.{AsksNumber, IsNone}
use Rattle.command_line.proofs.reading.number_in.Goals as goal

-- the text is a number of 32 bits
abbrev IsWord : Text → Type 0
IsWord text = IsNumeral 10 (without_leading_plus text) × (digits_value 10 (without_leading_plus text) < 2 ^ 32)

module _ (rows : List Row) (name : Text) (range : NumberRange) where
  no_number : range.most < 2 ^ 32 → ((text : Text) → one_of name rows ≡ Some text → IsWord text → ⊥) → IsNone (AsksNumber rows name range)
  no_number fits none number asks =
      let upto = asks.within.upto in
      let small : digits_value 10 (without_leading_plus asks.text) < 2 ^ 32 = omega (arith, fits, asks.value, upto) in
      none asks.text asks.given (asks.is_numeral, small)

  module _ (found : ℕ) (read : (text : Text) → one_of name rows ≡ Some text → IsWord text × (found ≡ digits_value 10 (without_leading_plus text))) where
    beyond : (IsIn range found → ⊥) → IsNone (AsksNumber rows name range)
    beyond out number asks =
        let same = (read asks.text asks.given).1 in
        let from = asks.within.from in
        let upto = asks.within.upto in
        out (record { from = omega (arith, same, asks.value, from); upto = omega (arith, same, asks.value, upto) })

    -- the number that was read is asked for
    asked : (one_of name rows ≡ None → ⊥) → IsIn range found → AsksNumber rows name range found
    asked some within = by (one_of name rows) refl
      where
        by : (o : Option Text) → one_of name rows ≡ o → AsksNumber rows name range found
        by None is = absurd (some is)
        by (Some text) is =
            let number = read text is in
            record { text = text; given = is; is_numeral = number.0.0; value = sym number.1; within = within }

pub returns-in_default : goal.returns-in_default
returns-in_default c =
    let found = found_of c.args.matches.now in
    no_number (rows_of found) c.args.name.now c.args.range (search rules)
    (λ text given is. (c.in_default.ensures.value text (one_text-rows found c.args.name.now ∙ given)).1.0 is)

pub returns-then-has : goal.returns-then-has
returns-then-has c =
    let found = found_of c.args.matches.now in
    asked (rows_of found) c.args.name.now c.args.range c.in-Some.number
    (λ text given. (c.in-Some.ensures.value text (one_text-rows found c.args.name.now ∙ given)).0)
    (λ none. let no = c.in-Some.ensures.none (one_text-rows found c.args.name.now ∙ none) in absurd (cc))
    (c.has.ensures.0 c.if-has.true)

pub returns-else-has : goal.returns-else-has
returns-else-has c =
    let found = found_of c.args.matches.now in
    beyond (rows_of found) c.args.name.now c.args.range c.in-Some.number
    (λ text given. (c.in-Some.ensures.value text (one_text-rows found c.args.name.now ∙ given)).0)
    (λ within. let has = c.has.ensures.1 within in let not = c.if-has.false in absurd (cc))
