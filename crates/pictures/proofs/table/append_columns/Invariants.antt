use Rattle.std.proofs.Common.{ℕ, ◌≡◌, List, ◌++◌, drop}
use Rattle.std.specs.Borrow.{Bor}
use Rattle.markup.specs.Markup.{each, rendered}
use Rattle.pictures.specs.Tables.{heading}
use Rattle.pictures.proofs.table.append_columns.Given as goal

-- what was added, and the headings of the columns that are left
abbrev pub invariant-loop-words : goal.invariant-loop-words
invariant-loop-words l = l.page.items ++ rendered (each (λ (words : Bor (List ℕ)). heading words.now) (drop l.words-index l.columns))
    ≡ l.fn.page.items ++ rendered (each (λ (words : Bor (List ℕ)). heading words.now) l.columns)
