-- Arrows from the bar of one call to that of another.
use Rattle.std.specs.Prelude.{ℕ, ◌≡◌, ◌⊎◌, List, Some, slice_get, Contains}
use Rattle.tag.specs.declared.numbers.OpId.{OpId}
use Rattle.scenes.specs.declared.arrows.Arrow.{Arrow}
use Rattle.scenes.specs.declared.scene.Bar.{Bar}

module _ (bars : List Bar) where
  -- the bar of that index is the call's
  abbrev pub IsBarAt : ℕ → OpId → Type 0
  IsBarAt index op = (bar : Bar) × (slice_get bars index ≡ Some bar) × (bar.call ≡ op)

  -- no bar is the call's
  abbrev pub HasNoBar : OpId → Type 0
  HasNoBar op = (bar : Bar) → Contains bars bar → bar.call ≡ op → ⊥

  -- the arrow leads from the bar of the one call to that of the other
  abbrev pub Joins : OpId → OpId → Arrow → Type 0
  Joins from to arrow = IsBarAt arrow.from from × IsBarAt arrow.to to

  -- one of the calls has no bar
  abbrev pub IsUndrawn : OpId → OpId → Type 0
  IsUndrawn from to = HasNoBar from ⊎ HasNoBar to
