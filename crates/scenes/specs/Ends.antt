-- Where bars end: an answered call's at its response. A pending call's has no end; but if lanes may
-- share columns it ends at the last of its marks: its begin, its note and its dots.
use Rattle.std.specs.Prelude.{ℕ, ◌≡◌, ◌<◌, ◌≤◌, ◌⊎◌, nat_le, max, List, Option, Some, None}
use Rattle.std.specs.Prelude.{if◌then◌else◌, length, slice_get, unwrap_or, Contains}
use Rattle.scenes.specs.declared.columns.TheConstants.{OWN_COLUMNS}
use Rattle.scenes.specs.declared.scene.Bar.{Bar}
use Rattle.scenes.specs.declared.scene.Dot.{Dot}

module _ (dots : List Dot) (index : ℕ) where
  -- a dot of the bar of that index stands at the place
  abbrev pub HasDotAt : ℕ → Type 0
  HasDotAt place = (dot : Dot) × Contains dots dot × (dot.bar ≡ index) × (dot.place ≡ place)

  -- the place is a mark of the bar
  abbrev pub IsMark : Bar → ℕ → Type 0
  IsMark bar place = (bar.begins ≡ place) ⊎ ((bar.note ≡ Some place) ⊎ HasDotAt place)

  -- the place is the last mark of the bar
  pub record IsLastMark (bar : Bar) (place : ℕ) : Type 0 where
    pub mark : IsMark bar place
    pub last : (other : ℕ) → IsMark bar other → other ≤ place

  -- the bar ends where it has to, among the bars of so many lanes
  pub record HasItsEnd (lanes : ℕ) (bar : Bar) : Type 0 where
    pub answered : (place : ℕ) → bar.answered ≡ Some place → bar.ends ≡ Some place
    pub endless : lanes ≤ OWN_COLUMNS → bar.answered ≡ None → bar.ends ≡ None
    pub short : OWN_COLUMNS < lanes → bar.answered ≡ None
        → (end : ℕ) × (bar.ends ≡ Some end) × IsLastMark bar end

-- each of the bars ends where it has to
abbrev pub AreEnded : List Dot → ℕ → List Bar → Type 0
AreEnded dots lanes bars =
    (index : ℕ) (bar : Bar) → slice_get bars index ≡ Some bar → HasItsEnd dots index lanes bar

-- ---- before the dots are known

-- where a bar of so many lanes ends as its response says, or else its begin and its note
abbrev pub first_end : ℕ → Option ℕ → ℕ → Option ℕ → Option ℕ
first_end lanes (Some place) begins noted = Some place
first_end lanes None begins noted =
    if nat_le lanes OWN_COLUMNS then None else Some (max begins (unwrap_or noted begins))

-- the end of a bar that reaches to a place too: a pending call's, if it has one, isn't before it
abbrev pub reached : Option ℕ → Option ℕ → ℕ → Option ℕ
reached (Some answer) ends place = ends
reached None None place = None
reached None (Some end) place = Some (max end place)

-- the end is that one or the place of a later dot of the bar, and no dot of it comes after it
pub record ReachesTo (dots : List Dot) (index from : ℕ) (ends : Option ℕ) : Type 0 where
  pub end : ℕ
  pub is : ends ≡ Some end
  pub from_on : from ≤ end
  pub dots_before : (place : ℕ) → HasDotAt dots index place → place ≤ end
  pub either : (end ≡ from) ⊎ HasDotAt dots index end

-- the bar of that index is the same but for its end, which reaches to its dots, if it is a pending
-- call's and has one
pub record Reaches (dots : List Dot) (index : ℕ) (was now : Bar) : Type 0 where
  pub call : now.call ≡ was.call
  pub lane : now.lane ≡ was.lane
  pub begins : now.begins ≡ was.begins
  pub answered : now.answered ≡ was.answered
  pub note : now.note ≡ was.note
  pub kept : (place : ℕ) → was.answered ≡ Some place → now.ends ≡ was.ends
  pub endless : was.ends ≡ None → now.ends ≡ None
  pub reaching : (from : ℕ) → was.answered ≡ None → was.ends ≡ Some from
      → ReachesTo dots index from now.ends

-- each of the bars does so
pub record AreReaching (dots : List Dot) (was now : List Bar) : Type 0 where
  pub all : length now ≡ length was
  pub each : (index : ℕ) (bar : Bar) → slice_get was index ≡ Some bar
      → (other : Bar) × (slice_get now index ≡ Some other) × Reaches dots index bar other
