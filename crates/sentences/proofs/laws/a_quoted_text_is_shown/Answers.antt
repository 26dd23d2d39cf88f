use Rattle.sentences.proofs.Shown.{quoted_is_shown}
use Rattle.sentences.proofs.laws.a_quoted_text_is_shown.Goals as goal

pub returns : goal.returns
returns c = record {
  utf8 = λ value text. (quoted_is_shown value text).utf8;
  shown = λ value text. (quoted_is_shown value text).shown;
}
