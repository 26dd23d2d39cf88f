-- The parts of a history are one list.
use Rattle.std.proofs.Common.{ap, sym, subst, ◌∙◌, length}
use Rattle.std.proofs.lemmas.Option.{same_Some}
use Rattle.recorder.specs.Histories.{Recorded}
use Rattle.recorder.specs.Records.{AreParts}
use Rattle.whole_pictures.proofs.page.key_count.Goals as goal

pub returns : goal.returns
returns c history parts at are =
    let hall = c.hall_at-hall.result in
    let same = same_Some history hall.history.now (sym at ∙ c.hall_at-hall.ensures.recorded) in
    let own = subst (λ (h : Recorded). AreParts h.rows parts) same are in
    c.len.ensures ∙ ap length (c.the_parts_are_one_list.ensures hall.history.now.rows c.in_ok-parts.parts.entries parts c.in_ok-parts.ensures own)
