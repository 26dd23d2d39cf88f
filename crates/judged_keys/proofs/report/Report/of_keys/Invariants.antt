use Rattle.std.proofs.Common.{map, take}
use Rattle.parallel_keys.specs.KeysToCheck.{what_of}
use Rattle.judged_keys.specs.Judgements.{AreJudged, Judgement}
use Rattle.std.proofs.Common.{List}
use Rattle.judged_keys.specs.Tellings.{IsReportOf}
use Rattle.judged_keys.proofs.report.Report.of_keys.Given as goal

abbrev pub invariant-loop-one : goal.invariant-loop-one
invariant-loop-one g l = (js : List Judgement) × AreJudged (g.W.Wording.selected l.wording).judged (map what_of (take l.one-index l.keys)) js
    × IsReportOf (g.W.Wording.words l.wording) l.numbered (g.W.Wording.selected l.wording).most js l.report
