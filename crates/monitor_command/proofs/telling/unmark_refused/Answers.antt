use Rattle.std.proofs.Common.{◌+◌, ◌∙◌, List, Bool, take, subst, sym, arith}
use Rattle.std.proofs.lemmas.List.{take_all}
use Rattle.record_monitor.specs.declared.report.Report.{Report}
use Rattle.monitor_command.proofs.Marking.{AreUnmarked, unmarks_more, unmarks_none}
use Rattle.monitor_command.proofs.telling.unmark_refused.Goals.{then-is_refusal, else-is_refusal}
use Rattle.monitor_command.proofs.telling.unmark_refused.Goals as goal

pub loop-report-preserved : goal.loop-report-preserved
loop-report-preserved c =
    let reports = c.args.reports.now in
    let i = c.loop-report.report-index in
    let old = c.args.marks.now in
    let P : List Bool → Type 0 = λ marks. AreUnmarked (take (i + 1) reports) old marks in
    record {
      many = omega arith;
      each = elim c.if-is_refusal.branch [
        | then-is_refusal w ↦ subst P (sym (w.marks-is ∙ w.set_mark.ensures))
            (unmarks_more reports i _ old c.loop-report.marks c.loop-report-test.true (sym c.is_refusal.ensures ∙ w.if-is_refusal.true) c.loop-report.invariant.each)
        | else-is_refusal w ↦ subst P (sym w.marks-is)
            (unmarks_none reports i _ old c.loop-report.marks c.loop-report-test.true (sym c.is_refusal.ensures ∙ w.if-is_refusal.false) c.loop-report.invariant.each)
      ];
    }

pub returns-clause-each : goal.returns-clause-each
returns-clause-each c =
    let P : List Report → Type 0 = λ reports. AreUnmarked reports c.args.marks.now c.loop-report.marks in
    subst P (take_all c.loop-report.report-index c.args.reports.now c.loop-report-test.false) c.loop-report.invariant.each
