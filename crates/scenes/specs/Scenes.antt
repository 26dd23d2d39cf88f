-- What a picture of a key's calls shows: a lane for each client, in it a bar for each call, and on
-- the bars the linearization points of an order as dots. Lanes stand in columns.
use Rattle.std.specs.Prelude.{ℕ, ◌≡◌, ◌<◌, ◌≤◌, ◌↔◌, List, [], ◌∷◌, ◌++◌, Some}
use Rattle.std.specs.Prelude.{length, map, slice_get, Contains}
use Rattle.std.specs.List.{AllZip}
use Rattle.std.specs.List.Sorted.{IsStrictlyIncreasing}
use Rattle.std.specs.Option.{option_map, option_to_list}
use Rattle.tag.specs.declared.numbers.OpId.{OpId}
use Rattle.recorder.specs.declared.row.Row.{Row}
use Rattle.recorder.specs.declared.part.Call.{Call}
use Rattle.recorder.specs.Records.{IsRecorded}
use Rattle.reasons.specs.Notes.{note_place}
use Rattle.scenes.specs.declared.scene.Bar.{Bar}
use Rattle.scenes.specs.declared.scene.Dot.{Dot}
use Rattle.scenes.specs.declared.scene.Scene.{Scene}
use Rattle.scenes.specs.Columns.{AreColumnsOf, AreLaneColumns}
use Rattle.scenes.specs.Ends.{AreEnded, first_end}
use Rattle.scenes.specs.Gaps.{AreGaps}

-- the list has just the numbers with the property, each once, in rising order
pub record IsRisingListOf (P : ℕ → Type 0) (list : List ℕ) : Type 0 where
  pub rising : IsStrictlyIncreasing list
  pub exactly : (n : ℕ) → Contains list n ↔ P n

-- the places of a bar: its begin, its note and its response, those that it has
abbrev pub places_of : Bar → List ℕ
places_of bar =
    ((bar.begins ∷ []) ++ option_to_list bar.note) ++ option_to_list bar.answered

-- some bar has the place
abbrev pub HasPlace : List Bar → ℕ → Type 0
HasPlace bars place = (bar : Bar) × Contains bars bar × Contains (places_of bar) place

-- the place lies within the bar: not before its begin, before its response, if any, and not after
-- its end, if any
pub record IsPlaceIn (bar : Bar) (place : ℕ) : Type 0 where
  pub begun : bar.begins ≤ place
  pub unanswered : (answer : ℕ) → bar.answered ≡ Some answer → place < answer
  pub lasting : (end : ℕ) → bar.ends ≡ Some end → place ≤ end

-- the bar of a call: in the lane of its client, with the places of its invocation, its response and
-- its note
pub record IsBarOf (rows : List Row) (lanes : List ℕ) (call : Call) (bar : Bar) : Type 0 where
  pub call_is : bar.call ≡ call.op
  pub lane : slice_get lanes bar.lane ≡ Some call.client
  pub begins : bar.begins ≡ call.invoked
  pub answered : bar.answered ≡ option_map (λ response. response.place) call.response
  pub note : bar.note ≡ note_place rows call

-- each of the calls is what the rows record of it
abbrev pub AreRecorded : List Row → List Call → Type 0
AreRecorded rows part =
    (call : Call) → Contains part call → (key : List ℕ) × IsRecorded rows key call

module _ (order : List OpId) (points : List ℕ) (bars : List Bar) where
  -- the dot of a place of the order: on the bar of the call that is listed there, at its point
  abbrev pub IsDotOf : Dot → Type 0
  IsDotOf dot = (bar : Bar) × (slice_get bars dot.bar ≡ Some bar)
      × (slice_get order dot.number ≡ Some bar.call)
      × (slice_get points dot.number ≡ Some dot.place)

  -- the dots of all places of the order whose calls have bars, in the order's order
  pub record AreDotsOf (dots : List Dot) : Type 0 where
    pub rising : IsStrictlyIncreasing (map (λ dot. dot.number) dots)
    pub exactly : (dot : Dot) → Contains dots dot ↔ IsDotOf dot

module _ (part : List Call) (shown : List ℕ) where
  -- the shown indexes are those of calls of the part, each once, in rising order
  pub record IsSelection : Type 0 where
    pub rising : IsStrictlyIncreasing shown
    pub within : (i : ℕ) → Contains shown i → i < length part

  -- some shown call is the client's
  abbrev pub HasCallOf : ℕ → Type 0
  HasCallOf client = (i : ℕ) × (call : Call) × Contains shown i × (slice_get part i ≡ Some call)
      × (call.client ≡ client)

  -- for each shown index the bar of its call
  abbrev pub AreBarsOf : List Row → List ℕ → List Bar → Type 0
  AreBarsOf rows lanes bars = AllZip (λ i bar. (call : Call) × (slice_get part i ≡ Some call)
      × IsBarOf rows lanes call bar) shown bars

  -- the same, where a bar ends without regard to dots
  abbrev pub AreBegunBars : List Row → List ℕ → List Bar → Type 0
  AreBegunBars rows lanes bars = AllZip (λ i bar. ((call : Call) × (slice_get part i ≡ Some call)
      × IsBarOf rows lanes call bar)
      × (bar.ends ≡ first_end (length lanes) bar.answered bar.begins bar.note)) shown bars

  -- the scene of the shown calls and of an order with its points: their clients as lanes, their
  -- bars, in the order of the calls' numbers, each with its end, the columns of the lanes, the
  -- places of the bars as ticks, the dots, and the calls that aren't shown
  pub record IsSceneOf (rows : List Row) (order : List OpId) (points : List ℕ) (scene : Scene)
      : Type 0 where
    pub lanes : IsRisingListOf HasCallOf scene.lanes.items
    pub bars : AreBarsOf rows scene.lanes.items scene.bars.items
    pub calls : IsStrictlyIncreasing (map (λ bar. bar.call.0) scene.bars.items)
    pub lane_columns : AreLaneColumns scene.bars.items (length scene.lanes.items)
        scene.lane_columns.items
    pub columns : AreColumnsOf scene.lanes.items scene.lane_columns.items scene.columns.items
    pub ticks : IsRisingListOf (HasPlace scene.bars.items) scene.ticks.items
    pub dots : AreDotsOf order points scene.bars.items scene.dots.items
    pub ends : AreEnded scene.dots.items (length scene.lanes.items) scene.bars.items
    pub gaps : AreGaps part shown scene.gaps.items
