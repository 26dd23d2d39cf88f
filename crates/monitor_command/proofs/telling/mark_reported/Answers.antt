use Rattle.std.proofs.Common.{◌+◌, List, Bool, take, subst, sym, arith}
use Rattle.std.proofs.lemmas.List.{take_all}
use Rattle.record_monitor.specs.declared.report.Report.{Report}
use Rattle.monitor_command.proofs.Marking.{AreMarked, marks_more}
use Rattle.monitor_command.proofs.telling.mark_reported.Goals as goal

pub loop-report-preserved : goal.loop-report-preserved
loop-report-preserved c =
    let reports = c.args.reports.now in
    let i = c.loop-report.report-index in
    let P : List Bool → Type 0 = λ marks. AreMarked (take (i + 1) reports) c.args.marks.now marks in
    record {
      many = omega arith;
      each = subst P (sym c.set_mark.ensures) (marks_more reports i _ c.args.marks.now c.loop-report.marks c.loop-report-test.true c.loop-report.invariant.each);
    }

pub returns-clause-each : goal.returns-clause-each
returns-clause-each c =
    let P : List Report → Type 0 = λ reports. AreMarked reports c.args.marks.now c.loop-report.marks in
    subst P (take_all c.loop-report.report-index c.args.reports.now c.loop-report-test.false) c.loop-report.invariant.each
