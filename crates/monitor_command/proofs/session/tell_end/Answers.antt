use Rattle.monitor_command.proofs.Judging.{found_at_end, refused_and_told, refused_is_last}
use Rattle.monitor_command.proofs.Reports.{seen_file}
use Rattle.monitor_command.proofs.session.tell_end.Goals as goal

pub returns-then-branch : goal.returns-then-branch
returns-then-branch g c = λ bytes file.
    let monitor = c.args.monitor.now in
    let old = g.W.Write.contents c.args.out.now in
    let new = g.W.Write.contents c.tell_rest.new.out in
    refused_is_last old new c.args.asked bytes (c.in_ok-tell_rest.ensures.asked c.if-branch.true)
    (refused_and_told bytes monitor old new c.args.asked.form c.a_refused_key_has_no_order.ensures (seen_file bytes monitor file) (c.in_ok-tell_rest.ensures.stops c.if-branch.true))

pub returns : goal.returns
returns g c = λ bytes file.
    let monitor = c.args.monitor.now in
    let old = g.W.Write.contents c.args.out.now in
    let mid = g.W.Write.contents c.tell_rest.new.out in
    let new = g.W.Write.contents c.tell_counts.new.out in
    found_at_end old mid new c.args.asked bytes monitor c.found_by.result c.found_by.ensures.good c.found_by.ensures.refused c.found_by.ensures.undecided
    (c.in_ok-tell_rest.ensures.passes c.if-branch.false) c.a_refused_key_has_no_order.ensures c.without_a_report_each_key_is_linearizable.ensures file
    c.in_ok-tell_rest.ensures.sent c.in_ok-tell_counts.ensures.told
