use Rattle.std.proofs.Common.{rules, subst}
use Rattle.monitor_command.specs.Files.{HasDoubtsAlone}
use Rattle.monitor_command.proofs.Reports.{doubts_alone}
use Rattle.monitor_command.proofs.telling.found_by.Goals as goal

pub returns-else-has_refusal-clause-undecided : goal.returns-else-has_refusal-clause-undecided
returns-else-has_refusal-clause-undecided c = λ e.
    subst HasDoubtsAlone c.reports-reports.ensures
    (doubts_alone c.reports-reports.result.now (λ none. search rules) (c.has_refusal.ensures.none c.if-has_refusal.false))
