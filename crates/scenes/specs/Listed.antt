-- Where the calls of bars stand in an order that may be none of theirs.
use Rattle.std.specs.Prelude.{ℕ, ◌≡◌, ◌<◌, List, Option, Some, None, length, slice_get}
use Rattle.tag.specs.declared.numbers.OpId.{OpId}
use Rattle.scenes.specs.declared.scene.Bar.{Bar}
use Rattle.scenes.specs.FirstFit.{HasAt}

-- the first place of the call in the order; none if the order doesn't list it
abbrev pub IsFirstPlace : List OpId → OpId → Option ℕ → Type 0
IsFirstPlace order op None = (place : ℕ) → slice_get order place ≡ Some op → ⊥
IsFirstPlace order op (Some place) = (slice_get order place ≡ Some op)
    × ((earlier : ℕ) → earlier < place → slice_get order earlier ≡ Some op → ⊥)

-- beside each bar the first place of its call
pub record AreFirstPlaces (order : List OpId) (bars : List Bar) (places : List (Option ℕ))
    : Type 0 where
  pub all : length places ≡ length bars
  pub each : (index : ℕ) (bar : Bar) (place : Option ℕ) → slice_get bars index ≡ Some bar
      → slice_get places index ≡ Some place → IsFirstPlace order bar.call place

-- the place is put beside the bar of that index, which had none
pub record IsPut (old new : List (Option ℕ)) (bar place : ℕ) : Type 0 where
  pub none : slice_get old bar ≡ Some None
  pub put : HasAt old new bar (Some place)
  pub long : length new ≡ length old

-- or it had one
pub record IsKept (old new : List (Option ℕ)) (bar : ℕ) : Type 0 where
  pub first : ℕ
  pub there : slice_get old bar ≡ Some (Some first)
  pub same : new ≡ old
