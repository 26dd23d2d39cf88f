use Rattle.std.proofs.Common.{Ok, Option, subst, sym}
use Rattle.history_file.specs.TakenRows.{HasTakenFile}
use Rattle.record_monitor.specs.declared.taken.Taken.{Taken}
use Rattle.record_monitor.specs.Monitored.{HasTaken}
use Rattle.monitor_command.proofs.session.Session.end.Goals as goal

pub returns-in-Ok : goal.returns-in-Ok
returns-in-Ok g c = λ bytes s.
    let P : Option Taken → Type 0 = λ m. HasTakenFile HasTaken bytes m in
    c.tell_end.ensures bytes (subst P (sym c.monitor.ensures)
    (c.a_feed_has_taken_the_rows_of_its_lines.ensures.file bytes (Ok c.in-Ok.rows) (c.in-Ok.ensures.ends bytes s)))
