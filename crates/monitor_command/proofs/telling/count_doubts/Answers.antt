use Rattle.std.proofs.Common.{◌≡◌, ◌∙◌, ℕ, Bool, List, length, count_by, replicate, subst, ap, false}
use Rattle.std.specs.List.{range_with_len}
use Rattle.record_monitor.specs.declared.report.Report.{Report}
use Rattle.record_monitor.specs.Monitored.{keys_of, reports_of}
use Rattle.monitor_command.specs.Countings.{is_in_doubt}
use Rattle.monitor_command.proofs.Marking.{AreMarked, AreUnmarked, count_marked, doubts_marked}
use Rattle.monitor_command.proofs.telling.count_doubts.Goals as goal

pub returns : goal.returns
returns c =
    let reports = reports_of c.args.monitor.now in
    let keys = length (keys_of c.args.monitor.now) in
    let first = c.mark_reported.new.marks in
    let second = c.unmark_refused.new.marks in
    let none : c.as_mut_slice-marks.result.now ≡ replicate keys false =
    c.as_mut_slice-marks.ensures.value ∙ c.in_ok-room.ensures.items_if_clones_equal (λ y e. e)
    ∙ ap (λ (l : List (List ℕ)). replicate (length l) false) c.keys.ensures in
    let Many : List Bool → Type 0 = λ marks. length first ≡ length marks in
    let From : List Bool → Type 0 = λ marks. AreMarked c.reports.result.now marks first in
    let Marked : List Report → Type 0 = λ rs. AreMarked rs (replicate keys false) first in
    let Unmarked : List Report → Type 0 = λ rs. AreUnmarked rs first second in
    let is = doubts_marked reports keys first second (subst Many none c.mark_reported.ensures.many) c.unmark_refused.ensures.many
    (subst Marked c.reports.ensures (subst From none c.mark_reported.ensures.each)) (subst Unmarked c.reports-2.ensures c.unmark_refused.ensures.each) in
    c.count_marks.ensures ∙ ap (λ (marks : List Bool). count_by (λ (mark : Bool). mark) marks) is ∙ count_marked (is_in_doubt reports) (range_with_len 0 keys)
