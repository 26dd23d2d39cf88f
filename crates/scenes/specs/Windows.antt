-- Which of a part's calls a picture shows.
use Rattle.std.specs.Prelude.{ℕ, ◌≡◌, ◌<◌, ◌≤◌, ◌+◌, ◌-◌, ◌/◌, ◌⊎◌, min, List, Option, Some}
use Rattle.std.specs.Prelude.{length, slice_get, Contains}
use Rattle.tag.specs.declared.numbers.OpId.{OpId}
use Rattle.recorder.specs.declared.part.Call.{Call}
use Rattle.certificate_check.specs.Places.{HasOpAt}
use Rattle.scenes.specs.declared.windows.Window.{Window}

-- the index lies in the window
abbrev pub IsInWindow : Window → ℕ → Type 0
IsInWindow window i = (window.first ≤ i) × (i < window.first + window.count)

-- how far the index is from the middle of the window, or from the later one of two
abbrev pub from_middle : Window → ℕ → ℕ
from_middle window i =
    (window.first + window.count / 2 - i) + (i - (window.first + window.count / 2))

module _ (part : List Call) where
  -- the part has a call at the index, which lies in the window or is one of those to be kept
  abbrev pub IsToShow : Window → List OpId → ℕ → Type 0
  IsToShow window kept i = (call : Call) × (slice_get part i ≡ Some call)
      × (IsInWindow window i ⊎ Contains kept call.op)

  -- the window has so many of the part's calls, or as many as there are
  pub record IsWindowOf (count : ℕ) (window : Window) : Type 0 where
    pub size : window.count ≡ min count (length part)
    pub within : window.first + window.count ≤ length part

  -- the window has the index, and none of so many calls has it nearer to its middle
  pub record IsAround (count i : ℕ) (window : Window) : Type 0 where
    pub has : 0 < count → IsInWindow window i
    pub nearest : (other : Window) → IsWindowOf count other
        → from_middle window i ≤ from_middle other i

  -- the window about the call of that number; without one, or if the part hasn't got it, the first
  pub record IsWindowAround (count : ℕ) (around : Option OpId) (window : Window) : Type 0 where
    pub size : IsWindowOf count window
    pub near : (op : OpId) (i : ℕ) → around ≡ Some op → HasOpAt part i op → IsAround count i window
    pub first : ((op : OpId) (i : ℕ) → around ≡ Some op → HasOpAt part i op → ⊥)
        → window.first ≡ 0
