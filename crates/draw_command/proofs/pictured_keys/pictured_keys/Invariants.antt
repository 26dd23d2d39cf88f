use Rattle.std.proofs.Common.{◌≡◌, All, map, take}
use Rattle.judged_keys.specs.Judgements.{judgement_of}
use Rattle.draw_command.specs.PicturedKeys.{IsExplained, judged_in}
use Rattle.draw_command.proofs.pictured_keys.pictured_keys.Given as goal

abbrev pub invariant-loop-key : goal.invariant-loop-key
invariant-loop-key l = (map judged_in l.pictured.items ≡ map judgement_of (take l.key-index l.keys)) × All (IsExplained l.numbered) l.pictured.items
