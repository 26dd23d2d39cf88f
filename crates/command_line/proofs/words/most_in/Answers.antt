-- The option is there exactly if `text_in` finds it.
use Rattle.std.proofs.Common.{◌≡◌, ℕ, List, None, Result, Ok, Err, inl, inr, codes, rules, ◌∙◌}
use Rattle.clap.specs.Words.{Row, first_of}
use Rattle.load.specs.declared.ranges.NumberRange.{NumberRange}
use Rattle.command_line.specs.Reading.{AsksNumber, Finds, rows_in}
use Rattle.command_line.specs.Words.{AsksMost}
use Rattle.command_line.specs.declared.fault.WordsFault.{WordsFault}
use Rattle.command_line.proofs.Numbers.{some_there}
use Rattle.command_line.proofs.words.most_in.Goals as goal

given : (rows : List Row) (range : NumberRange) (default : ℕ) (r : Result ℕ WordsFault) → (first_of (codes "most") rows ≡ None → ⊥)
    → Finds r (AsksNumber rows (codes "most") range) → Finds r (AsksMost rows range default)
given rows range default (Ok most) there asks = inl asks
given rows range default (Err fault) there none = λ most asks. elim asks [ inl number ↦ none most number | inr missing ↦ there missing.0 ]

pub returns : goal.returns
returns c = given (rows_in c.args.matches.now) c.args.range c.args.default c.number_in.result
    (λ is. some_there c.text_in.result (search rules) (c.text_in.ensures ∙ is)) c.number_in.ensures
