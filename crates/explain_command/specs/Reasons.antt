-- Why keys are refused: the calls that show it, with the lines of the history file on which they
-- stand.
use Rattle.std.specs.Prelude.{ℕ, List, ◌++◌, Option, None, Some}
use Rattle.recorder.specs.declared.part.Call.{Call}
use Rattle.reasons.specs.OrderReasons.{IsOrderReason}
use Rattle.reasons.specs.TagReasons.{IsTagReason}
use Rattle.explanations.specs.declared.hall_rows.HallRows.{HallRows}
use Rattle.explanations.specs.Sentences.{order_reason_text, tag_reason_text}
use Rattle.value_order.specs.Faults.{IsStale}
use Rattle.value_order.specs.Stales.{IsAnsweredRead, IsCount}
use Rattle.value_explanations.specs.ValueReasons.{IsValueReason}
use Rattle.value_explanations.specs.ValueSentences.{value_reason_text}
use Rattle.parallel_keys.specs.CheckedKeys.{CheckedKey}
use Rattle.judged_keys.specs.Judgements.{Judgement}
use Rattle.judged_keys.specs.declared.finding.Finding.{Finding}
use Rattle.judged_keys.specs.declared.finding.Finding.TheVariants as finding
use Rattle.explain_command.specs.Lines.{stale_line}
use Rattle.explain_command.specs.declared.reason.Reason.{Reason}
use Rattle.explain_command.specs.declared.reason.Reason.TheVariants as reason

-- of so many reads so many are stale
pub record AreCounted (part : List Call) (stale reads : ℕ) : Type 0 where
  pub stale_are : IsCount (IsStale part) part stale
  pub reads_are : IsCount IsAnsweredRead part reads

-- why a key is refused of which that was found: the calls that show it, and of values how many of
-- its reads are stale; none if it isn't refused
abbrev pub IsReasonFor : CheckedKey → Finding → Option Reason → Type 0
IsReasonFor one finding.Ordered None = Unit {0}
IsReasonFor one (finding.OrderFault fault) (Some (reason.Order r)) =
    IsOrderReason one.part one.order fault r
IsReasonFor one finding.Sound None = Unit {0}
IsReasonFor one (finding.TagFault rule) (Some (reason.Tags r)) = IsTagReason one.part rule r
IsReasonFor one finding.Atomic None = Unit {0}
IsReasonFor one (finding.ValueFault fault) (Some (reason.Values r stale reads)) =
    IsValueReason one.part fault r × AreCounted one.part stale reads
IsReasonFor one (finding.Undecided doubt) None = Unit {0}
IsReasonFor one f r = ⊥

-- the same of a key that was judged
abbrev pub IsReason : Judgement → Option Reason → Type 0
IsReason j r = IsReasonFor j.one j.finding r

-- the sentences of a reason
abbrev pub reason_text : List ℕ → HallRows → Reason → List ℕ
reason_text key hall (reason.Order r) = order_reason_text key hall r
reason_text key hall (reason.Tags r) = tag_reason_text key hall r
reason_text key hall (reason.Values r stale reads) =
    value_reason_text key hall r ++ stale_line stale reads
