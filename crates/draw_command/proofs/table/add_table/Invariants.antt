use Rattle.std.proofs.Common.{map, take}
use Rattle.judged_keys.specs.Judgements.{judgement_of}
use Rattle.draw_command.specs.Making.{Adds}
use Rattle.draw_command.specs.Pages.{IsEach, IsRowOf}
use Rattle.draw_command.specs.PicturedKeys.{faulty_in}
use Rattle.draw_command.proofs.table.add_table.Given as goal

abbrev pub invariant-loop-n : goal.invariant-loop-n
invariant-loop-n l = Adds (IsEach (IsRowOf (map faulty_in l.pictured)) 0 (map judgement_of (take l.n l.first))) l.initial.page.items l.page.items
