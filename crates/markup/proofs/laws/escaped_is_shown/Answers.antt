use Rattle.markup.proofs.Shown.{escaped_shown}
use Rattle.markup.proofs.laws.escaped_is_shown.Goals as goal

pub returns : goal.returns
returns c = record {
  utf8 = λ words text. (escaped_shown words text).utf8;
  shown = λ words text. (escaped_shown words text).shown;
}
