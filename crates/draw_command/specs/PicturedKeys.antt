-- A key that has a picture, and why it is refused.
use Rattle.std.specs.Prelude.{List}
use Rattle.tag.specs.declared.numbers.OpId.{OpId}
use Rattle.history_file.specs.declared.numbered_format.NumberedHistories.{NumberedHistories}
use Rattle.judged_keys.specs.Halls.{IsHallOfKey}
use Rattle.judged_keys.specs.Judgements.{Judgement, judgement_of}
use Rattle.draw_command.specs.Drawings.{IsWhy}
use Rattle.draw_command.specs.declared.pictured_keys.PicturedKey.{PicturedKey}

-- what was found of the key
abbrev pub judged_in : PicturedKey → Judgement
judged_in own = judgement_of own.key.now

-- the calls that show why it is refused
abbrev pub faulty_in : PicturedKey → List OpId
faulty_in own = own.why.faulty.items

-- both
abbrev pub with_faulty : PicturedKey → Judgement × List OpId
with_faulty own = (judged_in own, faulty_in own)

-- those are the rows of the key's hall, and that is why it is refused
pub record IsExplained (numbered : NumberedHistories) (own : PicturedKey) : Type 0 where
  pub hall : IsHallOfKey numbered (judged_in own).one.key own.hall
  pub why : IsWhy own.hall (judged_in own) own.why.text.items (faulty_in own)
