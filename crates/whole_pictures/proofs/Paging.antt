-- The page around what was added to it.
use Rattle.std.proofs.Common.{◌≡◌, List, ℕ, [], ◌++◌, sym, subst, ◌∙◌}
use Rattle.history_file.specs.declared.numbered_format.NumberedHistories.{NumberedHistories}
use Rattle.markup.specs.Markup.{rendered}
use Rattle.parallel_keys.specs.CheckedKeys.{CheckedKey}
use Rattle.cli.specs.declared.outcome.Found.{Found}
use Rattle.cli.specs.declared.outcome.Outcome.{Outcome}
use Rattle.judged_keys.specs.Notes.{judges_no_notes}
use Rattle.draw_command.specs.Frames.{above_content, above_styles, below_content}
use Rattle.draw_command.specs.Making.{Adds}
use Rattle.draw_command.specs.Pages.{IsBelowHint, IsFramed, hint_markup, styles_markup, title_words}
use Rattle.draw_command.proofs.Adding.{adds_after}
use Rattle.draw_command.proofs.Framing.{page_framed}
use Rattle.whole_pictures.specs.WholePages.{IsWholeContent, IsWholePage, page_markup}
use Rattle.whole_pictures.specs.declared.whole.Whole.{Whole}
use Rattle.whole_pictures.specs.declared.words.TheConstants.{TITLE}

pub whole_page : (whole : Whole) (numbered : NumberedHistories) (checked : List CheckedKey) (f : Found) (outcome : Outcome)
    (none begun styled opened hinted said ended : List ℕ) → none ≡ [] → begun ≡ none ++ above_styles (title_words whole.drawn.file.now TITLE.now)
    → styled ≡ begun ++ rendered styles_markup → opened ≡ styled ++ above_content (title_words whole.drawn.file.now TITLE.now)
    → hinted ≡ opened ++ rendered (hint_markup (judges_no_notes whole.drawn.selection.judged checked))
    → Adds (IsWholeContent numbered whole.drawn checked f) hinted said → ended ≡ said ++ below_content
    → outcome.found ≡ f → outcome.text.items ≡ ended → outcome.notes.items ≡ [] → IsWholePage whole numbered checked outcome
whole_page whole numbered checked f outcome none begun styled opened hinted said ended empty first second third hint content last found text quiet =
    let hinted_so = judges_no_notes whole.drawn.selection.judged checked in
    let Content = λ (g : Found). IsBelowHint hinted_so (IsWholeContent numbered whole.drawn checked g) in
    let below = adds_after (IsWholeContent numbered whole.drawn checked f) (hint_markup hinted_so) opened hinted said hint content in
    let page = page_framed (title_words whole.drawn.file.now TITLE.now) styles_markup (Content f) none begun styled opened said ended empty first second third below last in
    record {
      page = page.0;
      page_is = subst (λ (g : Found). IsFramed (page_markup whole.drawn.file.now) (Content g) page.0) (sym found) page.1;
      text = text ∙ page.2;
      quiet = quiet;
    }
