use Rattle.sentences.specs.Hidden.{is_shown}
use Rattle.sentences.proofs.Shown.{text_is_shown}
use Rattle.labels.specs.Texts.{shown_words, text_of}
use Rattle.labels.proofs.ShownWords.{shown_is_utf8, text_is_utf8}
use Rattle.labels.proofs.Widths.{beginning_all, beginning_width, whole_width}
use Rattle.labels.proofs.laws.a_label_keeps_to_its_room.Goals as goal

pub returns : goal.returns
returns c = record {
  whole = λ room words fit. whole_width room (shown_words words) (shown_is_utf8 words) fit;
  beginning = λ room words. beginning_width room (shown_words words) (shown_is_utf8 words);
  shown = λ words. (text_is_shown (text_of words) (text_is_utf8 words)).shown;
  beginning_shown = λ room words. beginning_all is_shown room (shown_words words) (shown_is_utf8 words)
      (text_is_shown (text_of words) (text_is_utf8 words)).shown;
}
