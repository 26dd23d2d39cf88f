use Rattle.std.proofs.Common.{refl}
use Rattle.diagrams.proofs.laws.names_and_words_differ.Goals as goal

pub returns : goal.returns
returns c = record {
  classes = refl;
  legend = refl;
  phrases = refl;
  classes_there = refl;
  legend_there = refl;
  phrases_there = refl;
  others_there = refl;
}
