use Rattle.std.proofs.Common.{refl, arith}
use Rattle.sentences.proofs.Hiding.{hidden_from}
use Rattle.sentences.proofs.laws.control_characters_are_hidden.Goals as goal

pub returns : goal.returns
returns c = record {
  low = λ c below. hidden_from 0 32 refl c (omega arith) below;
  high = λ c from below. hidden_from 0x7F 33 refl c from below;
  marks = λ c from below. hidden_from 0x200E 2 refl c from below;
  turns = λ c from below. hidden_from 0x2028 7 refl c from below;
  isolates = λ c from below. hidden_from 0x2066 4 refl c from below;
  arabic = refl;
}
