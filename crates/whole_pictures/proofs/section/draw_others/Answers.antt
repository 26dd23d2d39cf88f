-- A section says why a key is refused, if one is.
use Rattle.std.proofs.lemmas.Result.{on_ok_weaker}
use Rattle.draw_command.proofs.Adding.{adds_none}
use Rattle.whole_pictures.specs.WholePages.{IsSectionOfHall}
use Rattle.whole_pictures.proofs.Showing.{others_added}
use Rattle.whole_pictures.proofs.section.draw_others.Goals as goal

pub why_of-requires : goal.why_of-requires
why_of-requires c = (rw c.in-Refused.is at c.requires.found.1).0.found.so

pub returns-in_ok-why-in-Refused : goal.returns-in_ok-why-in-Refused
returns-in_ok-why-in-Refused c =
    let why = c.in_ok-why-in-Refused.why in
    rw c.in-Refused.is
    (on_ok_weaker c.append_others.result
    (others_added c.args.task.now.numbered.now c.in-Refused.key _ c.hall_of-hall.result why.text.items why.faulty.items c.hall_of-hall.ensures
    c.in_ok-why-in-Refused.ensures _ _)
    (rw (c.as_slice.ensures.value, c.in-Refused.is) at c.append_others.ensures))

pub returns-in-Ordered : goal.returns-in-Ordered
returns-in-Ordered c =
    let task = c.args.task.now in
    rw c.in-Ordered.is (adds_none (IsSectionOfHall task.numbered.now task.drawn) c.args.page.now.items)

pub returns-in-Undecided : goal.returns-in-Undecided
returns-in-Undecided c =
    let task = c.args.task.now in
    rw c.in-Undecided.is (adds_none (IsSectionOfHall task.numbered.now task.drawn) c.args.page.now.items)
