use Rattle.std.proofs.Common.{rules}
use Rattle.sentences.specs.Words.{value_text}
use Rattle.sentences.proofs.words.append_value.Goals as goal

pub returns-in-Some : goal.returns-in-Some
unfolding value_text
returns-in-Some c = search rules
