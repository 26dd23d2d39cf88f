-- Where things stand, in pixels.
use Rattle.std.specs.Prelude.{ℕ, ◌+◌, ◌-◌, ◌*◌, ◌≤◌, min, List, [], ◌∷◌}
use Rattle.markup.specs.declared.attributes.Attribute.{Attribute}
use Rattle.markup.specs.declared.attributes.Attribute.TheVariants as attribute
use Rattle.markup.specs.declared.names.AttributeName.TheVariants as name
use Rattle.labels.specs.declared.places.Frame.{Frame}
use Rattle.labels.specs.declared.style.TheConstants.{FARTHEST}

-- the farthest place
abbrev pub farthest : ℕ
farthest = FARTHEST

-- so many steps beyond a start; nothing stands farther than FARTHEST
abbrev pub pixels : ℕ → ℕ → ℕ → ℕ
pixels start count step = min (start + count * step) FARTHEST

-- a place isn't farther than that
abbrev pub IsNear : ℕ → Type 0
IsNear place = place ≤ FARTHEST

-- the place and the size of something with four sides: the attributes of a rectangle
abbrev pub place_and_size : Frame → List Attribute
place_and_size frame = attribute.Number name.X frame.left ∷ attribute.Number name.Y frame.top
    ∷ attribute.Number name.Width (frame.right - frame.left)
    ∷ attribute.Number name.Height (frame.bottom - frame.top) ∷ []

-- no side stands farther than that
pub record IsNearFrame (frame : Frame) : Type 0 where
  pub left : IsNear frame.left
  pub right : IsNear frame.right
  pub top : IsNear frame.top
  pub bottom : IsNear frame.bottom
