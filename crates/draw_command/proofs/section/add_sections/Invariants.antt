use Rattle.std.proofs.Common.{map, take}
use Rattle.draw_command.specs.Making.{Adds}
use Rattle.draw_command.specs.Pages.{IsEach, IsSectionOf}
use Rattle.draw_command.specs.PicturedKeys.{with_faulty}
use Rattle.draw_command.proofs.section.add_sections.Given as goal

abbrev pub invariant-loop-n : goal.invariant-loop-n
invariant-loop-n l = Adds (IsEach (IsSectionOf l.task.numbered.now l.task.drawn l.refused) 0 (map with_faulty (take l.n l.keys))) l.fn.page.items l.page.items
