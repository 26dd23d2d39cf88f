use Rattle.std.proofs.Common.{◌++◌, Err, Option, ap, ◌∙◌, subst, sym}
use Rattle.history_file.specs.declared.taken_rows.LongHistory.{LongHistory}
use Rattle.record_monitor.specs.declared.taken.Taken.{Taken}
use Rattle.monitor_command.specs.Files.{HasSeen}
use Rattle.monitor_command.proofs.Judging.{refused_and_told, seen_so_far, seen_whole}
use Rattle.monitor_command.proofs.session.Session.judge.Goals.{in-Err+else-is_memory, in_default}
use Rattle.monitor_command.proofs.session.Session.judge.Goals as goal

pub returns-then-stops-clause-goes : goal.returns-then-stops-clause-goes
returns-then-stops-clause-goes g c = λ bytes s.
    let all = bytes ++ c.args.block.now in
    let monitor = c.monitor-monitor.result.now in
    let feed = c.feed-fed.new.self in
    let same = c.monitor-monitor.ensures ∙ c.taker.ensures ∙ ap (λ (h : LongHistory (Option Taken)). h.taker) c.contents.ensures in
    let P : Option Taken → Type 0 = λ m. HasSeen all m in
    let seen : HasSeen all feed.progress.contents.taker = elim c.match-fed.branch [
      | in-Err+else-is_memory w ↦ seen_so_far all feed.progress.contents.taker w.in-Err.fault (c.a_feed_has_taken_the_rows_of_its_lines.ensures.before all (Err w.in-Err.fault) feed.progress.contents (w.in-Err.ensures.before bytes s)) (sym w.is_memory.ensures ∙ w.if-is_memory.false)
      | in_default w ↦ seen_whole all feed c.feed-fed.result c.a_feed_has_taken_the_rows_of_its_lines.ensures.lines (c.feed-fed.ensures.fed bytes s) w.in_default.not-Err
    ] in
    refused_and_told all monitor (g.W.Write.contents c.args.out.now) (g.W.Write.contents c.tell.new.out) c.args.asked.form c.a_refused_key_has_no_order.ensures (subst P (sym same) seen) (c.in_ok-stops.ensures.stops c.if-stops.true)
