-- What is shown of a text is UTF-8.
use Rattle.std.proofs.Common.{ℕ, ◌≡◌, ◌++◌, List, ap, ◌∙◌}
use Rattle.sentences.specs.Hidden.{shown_text}
use Rattle.sentences.proofs.Shown.{text_is_shown}
use Rattle.sentences.proofs.hidden.shown_text.Goals as goal

pub from_utf8_unchecked-requires : goal.from_utf8_unchecked-requires
from_utf8_unchecked-requires c =
    let words = c.args.words.now in
    let bytes : c.append_shown_text.new.text.items ≡ shown_text words =
    c.in_ok-append_shown_text.ensures ∙ ap (λ (l : List ℕ). l ++ shown_text words) c.new-text.ensures.items in
    rw bytes (text_is_shown words c.utf8.words).utf8
