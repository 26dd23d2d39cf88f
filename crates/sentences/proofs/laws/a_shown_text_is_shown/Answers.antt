use Rattle.sentences.proofs.Shown.{text_is_shown}
use Rattle.sentences.proofs.laws.a_shown_text_is_shown.Goals as goal

pub returns : goal.returns
returns c = record {
  utf8 = λ words text. (text_is_shown words text).utf8;
  shown = λ words text. (text_is_shown words text).shown;
}
