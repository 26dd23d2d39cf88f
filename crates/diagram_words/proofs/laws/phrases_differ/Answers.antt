use Rattle.std.proofs.Common.{refl}
use Rattle.diagram_words.proofs.laws.phrases_differ.Goals as goal

pub returns : goal.returns
returns c = record { commands = refl; said = refl; commands_there = refl; said_there = refl; joining_there = refl }
