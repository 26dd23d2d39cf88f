-- What is drawn of a key: the calls that are shown, the linearization points of a key that isn't
-- refused, and of a refused one the calls that show why, with the sentences that say it.
use Rattle.std.specs.Prelude.{ℕ, ◌≡◌, Bool, List, [], ◌∷◌, Option, None, Some, IfNone, IfSome}
use Rattle.std.specs.Prelude.{nat_lt, slice_get, unwrap_or, if◌then◌else◌}
use Rattle.command_line.specs.Forms.{default_calls, default_most}
use Rattle.command_line.specs.declared.asked.By.{By}
use Rattle.command_line.specs.declared.asked.By.TheVariants as by
use Rattle.tag.specs.declared.numbers.OpId.{OpId}
use Rattle.certificate_check.specs.declared.verdict.Fault.TheVariants as fault
use Rattle.recorder.specs.declared.part.Call.{Call}
use Rattle.recorder.specs.Sound.{IsByTag}
use Rattle.parallel_keys.specs.CheckedKeys.{CheckedKey}
use Rattle.reasons.specs.declared.order_reasons.OrderReason.{OrderReason}
use Rattle.reasons.specs.declared.order_reasons.OrderReason.TheVariants as order_reason
use Rattle.reasons.specs.declared.tag_reasons.TagReason.{TagReason}
use Rattle.reasons.specs.declared.tag_reasons.TagReason.TheVariants as tag_reason
use Rattle.explanations.specs.declared.hall_rows.HallRows.{HallRows}
use Rattle.value_explanations.specs.declared.value_reasons.ValueReason.{ValueReason}
use Rattle.value_explanations.specs.declared.value_reasons.ValueReason.TheVariants as value_reason
use Rattle.linearization_points.specs.Points.{AreApart, ArePoints}
use Rattle.scenes.specs.Arrows.{IsUndrawn, Joins}
use Rattle.scenes.specs.Scenes.{IsRisingListOf, IsSceneOf}
use Rattle.scenes.specs.Windows.{IsToShow, IsWindowAround}
use Rattle.scenes.specs.declared.arrows.Arrow.{Arrow}
use Rattle.scenes.specs.declared.scene.Bar.{Bar}
use Rattle.scenes.specs.declared.scene.Scene.{Scene}
use Rattle.scenes.specs.declared.windows.Window.{Window}
use Rattle.judged_keys.specs.Findings.{IsSo}
use Rattle.judged_keys.specs.FoundOrders.{IsFoundOrder}
use Rattle.judged_keys.specs.Judgements.{Judgement}
use Rattle.judged_keys.specs.Selected.{judged_without_values, names_of}
use Rattle.judged_keys.specs.declared.finding.Finding.{Finding}
use Rattle.judged_keys.specs.declared.finding.Finding.TheVariants as finding
use Rattle.judged_keys.specs.declared.judged.Judged.{Judged}
use Rattle.judged_keys.specs.declared.judged.Judged.TheVariants as judged
use Rattle.explain_command.specs.Reasons.{IsReason, reason_text}
use Rattle.explain_command.specs.declared.reason.Reason.{Reason}
use Rattle.explain_command.specs.declared.reason.Reason.TheVariants as reason
use Rattle.draw_command.specs.declared.drawn.Drawn.{Drawn}
use Rattle.draw_command.specs.declared.key_scene.DrawnOrder.{DrawnOrder}
use Rattle.draw_command.specs.declared.key_scene.DrawnOrder.TheVariants as drawn_order

-- what keys are judged by: by their values if that is asked for, else by orders, if there are some,
-- or by their tags
abbrev pub drawn_by : By → Bool → Judged
drawn_by by.Values orders = judged.Values
drawn_by by.Tags orders = judged_without_values orders

-- what is drawn where nothing else is asked for
pub record IsDefault (drawn : Drawn) : Type 0 where
  pub file : drawn.file.now ≡ []
  pub judged_by : drawn.selection.judged ≡ judged.Tags
  pub all : names_of drawn.selection ≡ []
  pub most : drawn.selection.most ≡ default_most
  pub calls : drawn.calls ≡ default_calls
  pub around : drawn.around ≡ None

-- ---- why a key is refused

-- the number of a call, if there is one
abbrev pub call_numbers : Option Call → List OpId
call_numbers None = []
call_numbers (Some call) = call.op ∷ []

-- the calls of the reason why a list is no order
abbrev pub order_calls : OrderReason → List OpId
order_calls (order_reason.UnknownCall place op) = []
order_calls (order_reason.CallTwice earlier place call) = call.op ∷ []
order_calls (order_reason.MissingCall call) = call.op ∷ []
order_calls (order_reason.PendingRead read) = read.call.op ∷ []
order_calls (order_reason.WrongAnswer read None unnoted) = read.call.op ∷ call_numbers unnoted
order_calls (order_reason.WrongAnswer read (Some last) unnoted) =
    read.call.op ∷ last.call.op ∷ call_numbers unnoted
order_calls (order_reason.OrderBroken earlier later) =
    earlier.call.op ∷ later.call.op ∷ []

-- the calls of the reason why tags aren't sound
abbrev pub tag_calls : TagReason → List OpId
tag_calls (tag_reason.NoNote call) = call.op ∷ []
tag_calls (tag_reason.LeastTag write) = write.op ∷ []
tag_calls (tag_reason.SameTag earlier later) = earlier.op ∷ later.op ∷ []
tag_calls (tag_reason.NotAbove earlier later) = earlier.op ∷ later.op ∷ []
tag_calls (tag_reason.NoWrite read unnoted) = read.op ∷ call_numbers unnoted
tag_calls (tag_reason.OtherValue read None unnoted) = read.op ∷ call_numbers unnoted
tag_calls (tag_reason.OtherValue read (Some write) unnoted) =
    read.op ∷ write.op ∷ call_numbers unnoted

-- the calls of the reason why values give no order
abbrev pub value_calls : ValueReason → List OpId
value_calls (value_reason.NoWrite read) = read.op ∷ []
value_calls (value_reason.Early read write) = read.op ∷ write.op ∷ []
value_calls (value_reason.LateNothing read earlier) = read.op ∷ earlier.op ∷ []
value_calls (value_reason.Opposed one other) = one.first_ended.op ∷ other.last_begun.op
    ∷ other.first_ended.op ∷ one.last_begun.op ∷ []
value_calls (value_reason.Overwritten read first second between) =
    read.op ∷ first.op ∷ second.op ∷ between.op ∷ []

-- the calls of a reason
abbrev pub reason_calls : Reason → List OpId
reason_calls (reason.Order r) = order_calls r
reason_calls (reason.Tags r) = tag_calls r
reason_calls (reason.Values r stale reads) = value_calls r

-- the sentences of the reason, if there is one, and the calls that these name
abbrev pub NamesCalls : HallRows → List ℕ → Option Reason → List ℕ → List OpId → Type 0
NamesCalls hall key None text calls = (text ≡ []) × (calls ≡ [])
NamesCalls hall key (Some r) text calls =
    (text ≡ reason_text key hall r) × (calls ≡ reason_calls r)

-- why a key is refused: the sentences of its reason, and the calls that these name; of any other
-- key none
abbrev pub IsWhy : HallRows → Judgement → List ℕ → List OpId → Type 0
IsWhy hall j text calls =
    (r : Option Reason) × IsReason j r × NamesCalls hall j.one.key r text calls

-- ---- which calls are shown, and with which points

-- the call of that number, if a call can have it
abbrev pub numbered_call : ℕ → Option OpId
numbered_call n = if nat_lt n 4294967296 then Some (record { 0 = n }) else None

-- the call around which calls are shown: the one that was asked for, or else the first of those
-- that show why the key is refused
abbrev pub center : Option ℕ → List OpId → Option OpId
center (Some n) faulty = numbered_call n
center None faulty = slice_get faulty 0

-- an order that is drawn, if one is
abbrev pub order_in : DrawnOrder → Option (List OpId)
order_in (drawn_order.Given order) = Some order.now
order_in (drawn_order.Made order) = Some order
order_in drawn_order.Nothing = None

-- the order that is drawn of a key of which that was found: the key's own, which is one of its
-- calls, the one that its sound tags make, or the one that is found by its values; of any other
-- key none
abbrev pub IsDrawnOrder : CheckedKey → Finding → Option (List OpId) → Type 0
IsDrawnOrder one finding.Ordered drawn = drawn ≡ Some one.order
IsDrawnOrder one finding.Sound drawn =
    (order : List OpId) × IsByTag one.part order × (drawn ≡ Some order)
IsDrawnOrder one finding.Atomic drawn =
    (order : List OpId) × IsFoundOrder one.part order × (drawn ≡ Some order)
IsDrawnOrder one f drawn = drawn ≡ None

-- the key's order if it is refused
abbrev pub refused_order : CheckedKey → Finding → List OpId
refused_order one (finding.OrderFault fault) = one.order
refused_order one f = []

-- the arrow leads from the bar of the one call to that of the other; or there is none, since one of
-- them has no bar
abbrev pub IsArrowBetween : List Bar → OpId → OpId → Option Arrow → Type 0
IsArrowBetween bars from to arrow =
    IfSome arrow (Joins bars from to) × IfNone arrow (IsUndrawn bars from to)

-- the same of two calls, if there are both
abbrev pub IsArrowOf : List Bar → Option OpId → Option OpId → Option Arrow → Type 0
IsArrowOf bars (Some from) (Some to) arrow = IsArrowBetween bars from to arrow
IsArrowOf bars from to arrow = arrow ≡ None

-- the same of the calls at these places of the order
abbrev pub IsArrowAlong : List OpId → List Bar → ℕ → ℕ → Option Arrow → Type 0
IsArrowAlong order bars from to arrow =
    IsArrowOf bars (slice_get order from) (slice_get order to) arrow

-- the arrow of a key: if its order lists a call before one that had ended when that call began, the
-- arrow leads from the one that had ended to the one that began later
abbrev pub IsBrokenArrow : CheckedKey → Finding → List Bar → Option Arrow → Type 0
IsBrokenArrow one (finding.OrderFault (fault.OrderBroken later first)) bars arrow =
    IsArrowAlong one.order bars first later arrow
IsBrokenArrow one f bars arrow = arrow ≡ None

-- the linearization points of the order that is drawn; of none no points
abbrev pub AreDrawnPoints : List Call → Option (List OpId) → List ℕ → Type 0
AreDrawnPoints part (Some order) points = ArePoints part order points
AreDrawnPoints part None points = points ≡ []

-- the scene of a key that was judged: of its calls around one of them, and of those that show why
-- it is refused, with the points of the order that is drawn
pub record IsKeyScene (drawn : Drawn) (hall : HallRows) (key : Judgement) (faulty : List OpId)
    (scene : Scene) : Type 0 where
  pub order : Option (List OpId)
  pub chosen : IsDrawnOrder key.one key.finding order
  pub points : List ℕ
  pub points_are : AreDrawnPoints key.one.part order points
  pub window : Window
  pub around : IsWindowAround key.one.part drawn.calls (center drawn.around faulty) window
  pub shown : List ℕ
  pub calls : IsRisingListOf (IsToShow key.one.part window faulty) shown
  pub is : IsSceneOf key.one.part shown hall.history.now.rows (unwrap_or order []) points scene

-- that was found of the key, and no call begins where another one ends
pub record IsDrawable (key : Judgement) : Type 0 where
  pub found : IsSo key.one key.finding
  pub apart : AreApart key.one.part
