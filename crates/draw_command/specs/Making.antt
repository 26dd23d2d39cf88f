-- A page in the making.
use Rattle.std.specs.Prelude.{ℕ, ◌≡◌, List, [], ◌++◌}
use Rattle.markup.specs.Markup.{Markup, page_text, rendered}
use Rattle.history_file.specs.declared.numbered_format.NumberedHistories.{NumberedHistories}
use Rattle.parallel_keys.specs.CheckedKeys.{CheckedKey}
use Rattle.cli.specs.declared.outcome.Outcome.{Outcome}
use Rattle.judged_keys.specs.Notes.{judges_no_notes}
use Rattle.draw_command.specs.HistoryPictures.{IsJudgedContent}
use Rattle.draw_command.specs.Pages.{IsBelowHint, IsFramed, page_markup}
use Rattle.draw_command.specs.declared.drawn.Drawn.{Drawn}
use Rattle.draw_command.specs.declared.history_pictures.Told.{Told}

-- something of which that holds was added to the page
abbrev pub Adds : (Markup → Type 0) → List ℕ → List ℕ → Type 0
Adds Is old new = (markup : Markup) × Is markup × (new ≡ old ++ rendered markup)

-- the page of those of the keys that are selected, whose title says how many are refused, if one
-- is; and what was found of all
pub record IsMadeOf (drawn : Drawn) (numbered : NumberedHistories) (all : List CheckedKey)
    (outcome : Outcome) : Type 0 where
  pub told : Told
  pub page : Markup
  pub page_is : IsFramed (page_markup drawn.file.now told.refused told.count)
      (IsBelowHint (judges_no_notes drawn.selection.judged all)
      (IsJudgedContent numbered drawn all told)) page
  pub found : outcome.found ≡ told.found
  pub text : outcome.text.items ≡ page_text page
  pub quiet : outcome.notes.items ≡ []
