-- What is drawn of all calls of a history: calls around one of them, those that show why a key is
-- refused, and the linearization points of an order.
use Rattle.std.specs.Prelude.{ℕ, ◌≡◌, List, []}
use Rattle.tag.specs.declared.numbers.OpId.{OpId}
use Rattle.recorder.specs.declared.order.KeyOrder.{KeyOrder}
use Rattle.recorder.specs.declared.row.Row.{Row}
use Rattle.recorder.specs.declared.part.Call.{Call}
use Rattle.linearization_points.specs.Points.{AreCalls, ArePoints, KeepsPrecedence}
use Rattle.store_orders.specs.StoreOrders.{IsStoreOrder}
use Rattle.store_orders.specs.Turns.{AreCallsOf, AreTurns}
use Rattle.explanations.specs.declared.hall_rows.HallRows.{HallRows}
use Rattle.scenes.specs.Scenes.{IsRisingListOf, IsSceneOf}
use Rattle.scenes.specs.Windows.{IsToShow, IsWindowAround}
use Rattle.scenes.specs.declared.scene.Scene.{Scene}
use Rattle.scenes.specs.declared.windows.Window.{Window}
use Rattle.witness_order.specs.RecordOrders.{Justify}
use Rattle.judged_keys.specs.Findings.{IsSo}
use Rattle.judged_keys.specs.Judgements.{judgement_of}
use Rattle.judged_keys.specs.declared.finding.JudgedKey.{JudgedKey}
use Rattle.draw_command.specs.Drawings.{IsWhy, center}
use Rattle.draw_command.specs.declared.drawn.Drawn.{Drawn}
use Rattle.whole_pictures.specs.declared.together.Together.{Together}
use Rattle.whole_pictures.specs.declared.together.Together.TheVariants as together

-- the scene of a history's calls and of an order of them: of its calls around one of them, and of
-- the faulty ones, with the points of the order
pub record IsWholeScene (drawn : Drawn) (rows : List Row) (calls : List Call) (order : List OpId)
    (faulty : List OpId) (scene : Scene) : Type 0 where
  pub points : List ℕ
  pub points_are : ArePoints calls order points
  pub window : Window
  pub around : IsWindowAround calls drawn.calls (center drawn.around faulty) window
  pub shown : List ℕ
  pub shown_are : IsRisingListOf (IsToShow calls window faulty) shown
  pub is : IsSceneOf calls shown rows order points scene

-- all calls of the rows can have points in that order: it has no other call, and keeps precedence
abbrev pub CanHavePoints : List Row → List OpId → Type 0
CanHavePoints rows order = (calls : List Call) → AreCallsOf rows calls
    → AreCalls calls order × KeepsPrecedence calls order

-- what is needed to show what was found: the orders are those of the record's keys, and that was
-- found of the key that is refused or undecided
abbrev pub CanBeShown : List Row → Together → Type 0
CanBeShown rows (together.Ordered orders) = Justify rows orders.items
CanBeShown rows (together.Refused key count) = let j = judgement_of key in IsSo j.one j.finding
CanBeShown rows (together.Undecided key) = let j = judgement_of key in IsSo j.one j.finding

-- one order of all calls of the hall, in which each key's calls keep their turn, and no reason
pub record IsOneOrder (hall : HallRows) (orders : List KeyOrder) (order : List OpId)
    (words : List ℕ) (faulty : List OpId) : Type 0 where
  pub whole : IsStoreOrder hall.history.now.rows order
  pub turns : AreTurns hall.history.now.rows orders order
  pub unsaid : words ≡ []
  pub unmarked : faulty ≡ []

-- no order, and why the key is refused
pub record IsNoOrder (hall : HallRows) (key : JudgedKey) (order : List OpId) (words : List ℕ)
    (faulty : List OpId) : Type 0 where
  pub unordered : order ≡ []
  pub why : IsWhy hall (judgement_of key) words faulty

-- what is shown beside the calls of a hall of whose keys that was found
abbrev pub IsShownOf : HallRows → Together → List OpId → List ℕ → List OpId → Type 0
IsShownOf hall (together.Ordered orders) order words faulty =
    IsOneOrder hall orders.items order words faulty
IsShownOf hall (together.Refused key count) order words faulty =
    IsNoOrder hall key order words faulty
IsShownOf hall (together.Undecided key) order words faulty = IsNoOrder hall key order words faulty
