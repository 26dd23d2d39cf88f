use Rattle.std.proofs.Common.{◌+◌, map, take}
use Rattle.parallel_keys.proofs.Fronts.{mapped_more}
use Rattle.draw_command.specs.Drawings.{IsDrawable}
use Rattle.draw_command.specs.Pages.{IsSectionOf}
use Rattle.draw_command.specs.PicturedKeys.{IsExplained, judged_in, with_faulty}
use Rattle.draw_command.proofs.Adding.{adds_more, adds_none, placed}
use Rattle.draw_command.proofs.Looking.{read_item, read_mapped}
use Rattle.draw_command.proofs.section.add_sections.Goals as goal

pub loop-n-init : goal.loop-n-init
loop-n-init c = adds_none (IsSectionOf c.args.task.now.numbered.now c.args.task.now.drawn c.args.refused) c.args.page.now.items

pub add_section-requires-clause-explained : goal.add_section-requires-clause-explained
add_section-requires-clause-explained c =
    read_item (IsExplained c.args.task.now.numbered.now) c.args.keys.now c.loop-n.n c.index-keys-n.result c.requires.explained c.loop-n-test.true c.index-keys-n.is

pub add_section-requires-clause-drawable : goal.add_section-requires-clause-drawable
add_section-requires-clause-drawable c =
    read_mapped judged_in IsDrawable c.args.keys.now c.loop-n.n c.index-keys-n.result c.requires.drawable c.loop-n-test.true c.index-keys-n.is

pub loop-n-preserved : goal.loop-n-preserved
loop-n-preserved c =
    let keys = c.args.keys.now in
    let n = c.loop-n.n in
    let own = c.index-keys-n.result in
    let task = c.args.task.now in
    adds_more (IsSectionOf task.numbered.now task.drawn c.args.refused) (map with_faulty (take n keys)) (map with_faulty (take (n + 1) keys)) (with_faulty own) c.args.page.now.items c.loop-n.page.items _ n
    (mapped_more with_faulty keys n own c.loop-n-test.true c.index-keys-n.is) (placed with_faulty keys n c.loop-n-test.true) c.loop-n.invariant c.in_ok-add_section.ensures
