-- Each copy of a message has one arrow: from the row of the step that sent it, or repeated its
-- message, to the row of the step that delivered that copy or lost it. Copies of one message are
-- alike, so that any of them may be the one that is delivered.
use Rattle.std.specs.Prelude.{ℕ, ◌≡◌, ◌<◌, ◌+◌, ◌==◌, List, [], ◌∷◌, ◌++◌, map, if◌then◌else◌}
use Rattle.std.specs.Prelude.{Option}
use Rattle.std.specs.List.Sorted.{IsPermutation}
use Rattle.message_scenes.specs.Arrows.{arrival}
use Rattle.world_steps.specs.Systems.{effect_of}
use Rattle.world_steps.specs.declared.effect.Effect.{Effect}
use Rattle.world_steps.specs.declared.step.Step.{Step}
use Rattle.world_steps.specs.declared.step.Step.TheVariants as step
use Rattle.message_scenes.specs.Tried.{Tried, took}
use Rattle.message_scenes.specs.declared.arrows.Arrow.{Arrow}
use Rattle.message_scenes.specs.declared.arrows.ArrowEnd.{ArrowEnd}
use Rattle.message_scenes.specs.declared.arrows.ArrowEnd.TheVariants as ending

-- ---- what steps do to copies

-- the copy that the step of a row begins: of the flight that it repeats, or of the next one if it
-- sends a message
abbrev pub begun_by : ℕ → Step → ℕ → ℕ → List (ℕ × ℕ)
begun_by row (step.Repeat flight) before after = (row, flight) ∷ []
begun_by row other before after = if before == after then [] else (row, before) ∷ []

-- the copy that begins with what is tried in a row: none if it is refused
abbrev pub begun_in : ℕ → Tried → List (ℕ × ℕ)
begun_in row (took t) = begun_by row t.step t.before.pool.sent t.after.pool.sent
begun_in row other = []

-- the copies that begin, each by its row and its flight; what is tried first has that row
abbrev pub begun_copies : ℕ → List Tried → List (ℕ × ℕ)
begun_copies row [] = []
begun_copies row (one ∷ tried) = begun_in row one ++ begun_copies (row + 1) tried

-- the copy that the step of a row ends, which has that effect: of the flight that it delivers or
-- loses
abbrev pub ended_by : ℕ → Step → Option Effect → List (ℕ × ArrowEnd)
ended_by row (step.Deliver flight) its_effect = (flight, arrival row its_effect) ∷ []
ended_by row (step.Lose flight) its_effect = (flight, ending.Lost row) ∷ []
ended_by row other its_effect = []

-- the copy that ends with what is tried in a row: none if it is refused
abbrev pub ended_in : ℕ → Tried → List (ℕ × ArrowEnd)
ended_in row (took t) = ended_by row t.step (effect_of t.before t.step)
ended_in row other = []

-- the copies that end, each by its flight and how it ends; what is tried first has that row
abbrev pub ended_copies : ℕ → List Tried → List (ℕ × ArrowEnd)
ended_copies row [] = []
ended_copies row (one ∷ tried) = ended_in row one ++ ended_copies (row + 1) tried

-- ---- what arrows show of copies

-- where an arrow begins: its row and its flight
abbrev pub begin_of : Arrow → ℕ × ℕ
begin_of arrow = (arrow.begins, arrow.flight)

-- where an arrow of the flight ends, if it does
abbrev pub end_of : ℕ → ArrowEnd → List (ℕ × ArrowEnd)
end_of flight ending.Open = []
end_of flight (ending.Arrives row) = (flight, ending.Arrives row) ∷ []
end_of flight (ending.Stale row) = (flight, ending.Stale row) ∷ []
end_of flight (ending.Lost row) = (flight, ending.Lost row) ∷ []

-- where arrows end, those that do
abbrev pub ends_of : List Arrow → List (ℕ × ArrowEnd)
ends_of [] = []
ends_of (arrow ∷ arrows) = end_of arrow.flight arrow.end ++ ends_of arrows

-- the end comes after the row, if it is there
abbrev pub IsAfter : ℕ → ArrowEnd → Type 0
IsAfter begins ending.Open = Unit {0}
IsAfter begins (ending.Arrives row) = begins < row
IsAfter begins (ending.Stale row) = begins < row
IsAfter begins (ending.Lost row) = begins < row

-- each of the arrows ends after it begins
abbrev pub EndLater : List Arrow → Type 0
EndLater [] = Unit {0}
EndLater (arrow ∷ arrows) = IsAfter arrow.begins arrow.end × EndLater arrows

-- the arrows are those of the copies that the steps begin, in the order of the steps; where they
-- end are the copies that the steps end, each once; and each ends after it begins
pub record ShowCopies (tried : List Tried) (arrows : List Arrow) : Type 0 where
  pub begins : map begin_of arrows ≡ begun_copies 0 tried
  pub ends : IsPermutation (ends_of arrows) (ended_copies 0 tried)
  pub later : EndLater arrows
